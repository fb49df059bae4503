use Rattle.std.proofs.Common.{◌+◌, arith}
use Rattle.writer.proofs.ContentLaws.{bodies_put}
use Rattle.writer.proofs.FileParts.{part_put}
use Rattle.writer.proofs.content.Content.put_bodies.Goals as goal

pub returns : goal.returns
returns c =
    let size = c.vectors_size-size in
    bodies_put c.args.self.now c.args.file.now _ _ _ size.result size.ensures.0 c.put_nets.ensures
    (part_put 4 _ _ _ _ c.put_vectors.ensures (omega arith))
    (part_put (4 + size.result) _ _ _ _ c.put_words.ensures (omega arith))
