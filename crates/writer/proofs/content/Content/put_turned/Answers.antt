use Rattle.std.proofs.Common.{arith}
use Rattle.words.specs.Turning.{transpose}
use Rattle.words.proofs.Writing.{written_one}
use Rattle.writer.proofs.FileParts.{front, part_put, turned_put}
use Rattle.writer.proofs.content.Content.put_turned.Goals as goal

pub returns : goal.returns
returns c =
    let set = c.args.self.now.set in
    turned_put c.args.file.now _ _ _ (transpose set.nets.network.nets set.vectors.now) _
    (written_one c.args.file.now 0 _ (omega arith)) (part_put 1 _ _ _ _ c.put_words.ensures (omega arith))
    (front set.nets.network.nets set.vectors.now _ _ c.fill.ensures)
