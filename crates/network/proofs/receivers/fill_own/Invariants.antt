use Rattle.std.proofs.Common.{◌≡◌, ◌++◌, length, take, drop}
use Rattle.network.specs.OwnReceivers.{own_receivers}
use Rattle.network.proofs.receivers.fill_own.Given as goal

abbrev pub invariant-loop-i : goal.invariant-loop-i
invariant-loop-i l = (length l.out ≡ length l.initial.out)
    × (l.out ≡ take l.i (own_receivers l.nets) ++ drop l.i l.initial.out)
