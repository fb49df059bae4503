use Rattle.std.proofs.Common.{◌≡◌, length}
use Rattle.diagnosis.proofs.Noting.{NotedBelow}
use Rattle.diagnosis.proofs.classes.note_all.Given as goal

abbrev pub invariant-loop-set : goal.invariant-loop-set
invariant-loop-set l =
    (length l.reaches ≡ length l.initial.reaches)
    × NotedBelow l.test.nets.network l.test.class l.test.vectors.now l.answers l.reaches l.set
