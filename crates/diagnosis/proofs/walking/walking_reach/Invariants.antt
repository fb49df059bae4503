use Rattle.std.proofs.Common.{◌≡◌}
use lib.Count.{count_trailing_zeros}
use Rattle.diagnosis.proofs.Gathering.{Gathering}
use Rattle.diagnosis.proofs.walking.walking_reach.Given as goal

-- t is the first active answer that is still to be looked at
abbrev pub invariant-loop-t : goal.invariant-loop-t
invariant-loop-t l = (l.t ≡ count_trailing_zeros 64 l.rest) × Gathering l.nets.network l.vectors l.initial.rest l.rest l.reach

abbrev pub decreases-loop-t : goal.decreases-loop-t
decreases-loop-t l = l.rest
