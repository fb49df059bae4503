use Rattle.std.proofs.Common.{◌≡◌, length}
use Rattle.words.proofs.Adding.{Added}
use Rattle.words.proofs.turning.columns.Given as goal

abbrev pub invariant-loop-t : goal.invariant-loop-t
invariant-loop-t g l = (length l.columns ≡ 64) × Added l.words l.inside l.t l.columns
