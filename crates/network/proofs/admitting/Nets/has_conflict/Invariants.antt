use Rattle.std.proofs.Common.{◌≡◌, length}
use Rattle.network.proofs.Holders.{Held}
use Rattle.network.proofs.admitting.Nets.has_conflict.Given as goal

abbrev pub invariant-loop-reach : goal.invariant-loop-reach
invariant-loop-reach l = (length l.holders ≡ 48) × Held l.state l.holders l.taken l.reach-index
