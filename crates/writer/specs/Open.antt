-- Names every definition here and below that computes.
use Rattle.std.specs.Prelude.{ℕ}
use Rattle.jobfile.specs.Open.{open_jobfile}
use Rattle.writer.specs.Writer.{file_of, write_answer}

unfoldable pub open_writer : ℕ
unfolding open_jobfile file_of write_answer
open_writer = 0
