use Rattle.std.proofs.Common.{◌≡◌, take}
use Rattle.steps.specs.SecondStep.{fault_free_state}
use Rattle.steps.proofs.settling.fault_free.Given as goal

abbrev pub invariant-loop-i : goal.invariant-loop-i
invariant-loop-i l = l.reaches.items ≡ take l.i-index (fault_free_state l.fn.board.receivers.now)
