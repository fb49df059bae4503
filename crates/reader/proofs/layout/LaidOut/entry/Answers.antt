use Rattle.std.proofs.Common.{arith}
use Rattle.reader.proofs.Bodies.{entry_there, body_inside}
use Rattle.reader.proofs.layout.LaidOut.entry.Goals as goal

pub read-requires : goal.read-requires
read-requires c = entry_there c.args.self.file.now c.args.self.laid_out c.args.i c.requires

pub returns : goal.returns
returns c =
    let e = c.read.ensures in
    (e.kind, e.offset.0, e.length.0, omega (arith, e.offset.0, e.length.0, body_inside c.args.self.file.now c.args.self.laid_out c.args.i c.requires))
