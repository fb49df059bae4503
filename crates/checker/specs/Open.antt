-- Names every definition here and below that computes.
use Rattle.std.specs.Prelude.{ℕ}
use Rattle.network.specs.Open.{open_network}
use Rattle.checker.specs.Rule.{shown_state, smaller_alike, bounded_verdict, extra_missing, full_verdict, verdict}
use Rattle.checker.specs.Check.{check_answer}

unfoldable pub open_checker : ℕ
unfolding open_network shown_state smaller_alike bounded_verdict extra_missing full_verdict verdict check_answer
open_checker = 0
