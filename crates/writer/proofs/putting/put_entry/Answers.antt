use Rattle.std.proofs.Common.{[], ◌∷◌, refl, ◌∙◌, arith}
use Rattle.words.proofs.Writing.{written_front, written_next, written_one}
use Rattle.jobfile.specs.Bytes.{bytes_of}
use Rattle.jobfile.proofs.ByteLaws.{bytes_count}
use Rattle.writer.specs.Writer.{entry_bytes}
use Rattle.writer.proofs.FileParts.{part_put}
use Rattle.writer.proofs.putting.put_entry.Goals as goal

pub returns : goal.returns
returns c =
    let a = c.args in
    let first = bytes_count 4 a.body in
    let one = written_one a.file.now 0 a.kind (omega arith) in
    let two = written_next a.file.now _ _ 0 1 (a.kind ∷ []) (bytes_of 4 a.body) one
    (part_put 1 _ _ _ _ c.put_number.ensures (omega arith)) refl (omega arith) in
    written_next a.file.now _ _ 0 5 (a.kind ∷ bytes_of 4 a.body) (bytes_of 4 a.size) two
    (part_put 5 _ _ _ _ c.put_number-2.ensures (omega arith)) (omega arith) (omega arith)
    ∙ written_front a.file.now (entry_bytes a.kind a.body a.size)
