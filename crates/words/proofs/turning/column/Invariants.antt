use Rattle.std.proofs.Common.{◌≡◌, map, take}
use Rattle.words.specs.Bits.{has, word}
use Rattle.words.proofs.turning.column.Given as goal

abbrev pub invariant-loop-t : goal.invariant-loop-t
invariant-loop-t l = l.w ≡ word (map (λ v. has v l.i) (take l.t l.rows))
