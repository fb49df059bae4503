-- Names every definition here and below that computes.
use Rattle.std.specs.Prelude.{ℕ}
use Rattle.checker.specs.Open.{open_checker}
use Rattle.shorter.specs.Shorter.{without, trials, floor}
use Rattle.shorter.specs.Shorten.{shorten_answer}

unfoldable pub open_shorter : ℕ
unfolding open_checker without trials floor shorten_answer
open_shorter = 0
