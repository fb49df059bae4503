-- Names every definition here and below that computes.
use Rattle.std.specs.Prelude.{ℕ}
use Rattle.jobfile.specs.Open.{open_jobfile}
use Rattle.reader.specs.Reader.{content, read_answer}

unfoldable pub open_reader : ℕ
unfolding open_jobfile content read_answer
open_reader = 0
