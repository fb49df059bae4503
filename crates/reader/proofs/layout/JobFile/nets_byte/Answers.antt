use Rattle.std.proofs.Common.{arith, ap, ◌∙◌, List, ℕ}
use Rattle.words.specs.Bits.{at}
use Rattle.reader.proofs.Bodies.{nets_whole, part_at}
use Rattle.reader.proofs.layout.JobFile.nets_byte.Goals as goal

pub bounds-body-i : goal.bounds-body-i
bounds-body-i c = omega (arith, c.body.ensures.1, nets_whole c.args.self.laid_out.file.now c.args.self.laid_out.laid_out c.args.self.complete)

pub returns : goal.returns
returns c =
    let file = c.args.self.laid_out.file.now in
    ap (λ (body : List ℕ). at body c.args.i) c.body.ensures.0
    ∙ part_at file _ _ c.args.i (omega (arith, nets_whole file c.args.self.laid_out.laid_out c.args.self.complete))
