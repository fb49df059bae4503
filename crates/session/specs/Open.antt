-- Names every definition here and below that computes.
use Rattle.std.specs.Prelude.{ℕ}
use Rattle.steps.specs.Open.{open_steps}
use Rattle.session.specs.Record.{is_zeros, all_hold, awaits_first, awaits_second}
use Rattle.session.specs.Calls.{stepped, begin_answer, first_answer, second_answer}
use Rattle.session.specs.Drive.{to_drive}

unfoldable pub open_session : ℕ
unfolding open_steps is_zeros all_hold awaits_first awaits_second stepped begin_answer first_answer second_answer to_drive
open_session = 0
