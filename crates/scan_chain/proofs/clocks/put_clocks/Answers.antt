use Rattle.std.proofs.Common.{arith}
use Rattle.scan_chain.specs.Scans.{all_zero}
use Rattle.scan_chain.proofs.Putting.{no_scan_put, scan_put, all_put}
use Rattle.scan_chain.proofs.clocks.put_clocks.Goals as goal

pub loop-t-init : goal.loop-t-init
loop-t-init c =
    let a = c.args in
    no_scan_put a.cells a.drivers.now all_zero a.vectors.now a.out.now

pub loop-t-preserved : goal.loop-t-preserved
loop-t-preserved c =
    let a = c.args in
    let l = c.loop-t in
    let put = rw (c.scanned.ensures, c.scan_length.ensures) at c.put_scan.ensures in
    scan_put a.cells a.drivers.now all_zero a.vectors.now a.out.now l.out l.t c.requires.6 l.invariant
    (omega arith) c.put_scan.new.out put

pub returns : goal.returns
returns c =
    let a = c.args in
    let l = c.loop-t in
    all_put a.cells a.drivers.now all_zero a.vectors.now a.out.now l.out l.t c.requires.6 l.invariant (omega arith)
