use Rattle.std.proofs.Common.{arith}
use Rattle.scan_chain.specs.Scans.{contents, all_zero, cell_bit}
use Rattle.scan_chain.proofs.CellContents.{cells_size, scan_size}
use Rattle.scan_chain.proofs.Putting.{front_put}
use Rattle.scan_chain.proofs.cells.Chain.put_scan.Goals as goal

pub returns : goal.returns
returns c =
    let chain = c.args.self in
    let size = scan_size (contents chain.cells chain.drivers.now all_zero c.args.vector) in
    let cells = cells_size chain.cells (cell_bit chain.drivers.now all_zero c.args.vector) in
    let put = c.copy_from_slice.ensures.after in
    let start = c.args.start in
    rw put (front_put c.args.out.now c.scan_of.new.bytes _ start c.scan_length-size.result _ (omega arith) (omega arith)
    (omega arith) c.scan_of.ensures.scan)
