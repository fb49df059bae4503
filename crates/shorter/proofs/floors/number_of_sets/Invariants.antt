use Rattle.std.proofs.Common.{◌≡◌}
use Rattle.words.specs.Counting.{class_size}
use Rattle.shorter.proofs.floors.number_of_sets.Given as goal

abbrev pub invariant-loop-i : goal.invariant-loop-i
invariant-loop-i l = (l.one ≡ class_size l._i 1) × (l.two ≡ class_size l._i 2) × (l.three ≡ class_size l._i 3)
