use Rattle.checker.specs.Passed.{passes}
use Rattle.shorter.proofs.Trying.{Going}
use Rattle.shorter.proofs.dropping.drop_vectors.Given as goal

abbrev pub invariant-loop-t : goal.invariant-loop-t
invariant-loop-t l = Going (passes l.set.nets.network l.set.class) l.set.vectors.now l.allowed l.kept.items l.t l.left

abbrev pub decreases-loop-t : goal.decreases-loop-t
decreases-loop-t l = l.left
