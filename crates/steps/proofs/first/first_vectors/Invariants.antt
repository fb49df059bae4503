use Rattle.std.proofs.Common.{◌≡◌, take}
use Rattle.steps.specs.FirstStep.{first_vectors}
use Rattle.steps.proofs.first.first_vectors.Given as goal

abbrev pub invariant-loop-t : goal.invariant-loop-t
invariant-loop-t l = l.vectors.items ≡ take l.t (first_vectors l.fn.nets.network)
