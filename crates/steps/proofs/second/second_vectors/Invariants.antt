use Rattle.std.proofs.Common.{◌≡◌}
use Rattle.steps.proofs.StepTwoVectors.{listed}
use Rattle.steps.proofs.second.second_vectors.Given as goal

abbrev pub invariant-loop-i : goal.invariant-loop-i
invariant-loop-i l =
    l.vectors.items ≡ listed l.fn.board.nets.network l.fn.board.receivers.now l.fn.answers l.i
