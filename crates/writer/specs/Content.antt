-- What a job file says, and its bytes.
use Rattle.std.specs.Prelude.{ℕ, List}
use Rattle.jobfile.specs.VectorsBody.{vectors_bytes}
use Rattle.writer.specs.Writer.{file_of}
use Rattle.jobfile.specs.BodyKind.{number_of_kind}
use Rattle.writer.specs.declared.content.Content.{Content}

-- the vectors' body
abbrev pub body_of : Content → List ℕ
body_of c = vectors_bytes (number_of_kind c.kind) c.set.nets.network.nets c.set.vectors.now

-- the whole file
abbrev pub bytes_of_content : Content → List ℕ
bytes_of_content c = file_of (number_of_kind c.kind) c.set.nets.network c.set.class c.set.vectors.now c.responses.now
