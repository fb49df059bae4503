-- Names every definition here and below that computes.
use Rattle.std.specs.Prelude.{ℕ}
use Rattle.steps.specs.Open.{open_steps}
use Rattle.fewest.specs.Fewest.{walking_set}

unfoldable pub open_fewest : ℕ
unfolding open_steps walking_set
open_fewest = 0
