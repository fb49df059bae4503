use Rattle.std.proofs.Common.{ap, ◌∙◌, take, arith}
use Rattle.std.specs.Int.{w64, to_le_bytes}
use Rattle.jobfile.specs.Bytes.{bytes_of}
use Rattle.jobfile.proofs.ByteLaws.{bytes_count, low_bytes}
use Rattle.writer.proofs.FileParts.{front_put}
use Rattle.writer.proofs.putting.put_number.Goals as goal

pub returns : goal.returns
returns c =
    let a = c.args in
    front_put a.count a.file.now _ (bytes_of a.count a.number)
    (c.copy_from_slice.ensures.after ∙ ap (take a.count) (c.to_le_bytes-bytes.ensures ∙ ap (to_le_bytes w64) (omega arith))
    ∙ low_bytes a.count a.number c.requires.1)
    (bytes_count a.count a.number)
