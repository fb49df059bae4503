-- Names every definition here and below that computes.
use Rattle.std.specs.Prelude.{ℕ}
use Rattle.network.specs.Open.{open_network}
use Rattle.turning.specs.Turn.{turn_answer, turn_back_answer}

unfoldable pub open_turning : ℕ
unfolding open_network turn_answer turn_back_answer
open_turning = 0
