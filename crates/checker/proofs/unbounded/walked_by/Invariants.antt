use Rattle.checker.proofs.Walking.{Shown}
use Rattle.checker.proofs.unbounded.walked_by.Given as goal

abbrev pub invariant-loop-vector : goal.invariant-loop-vector
invariant-loop-vector l = Shown l.nets.network l.vectors l.vector-index l.extra l.drivers
