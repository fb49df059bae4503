use Rattle.std.proofs.Common.{ℕ, ◌<◌}
use Rattle.words.specs.Bits.{at}
use Rattle.checker.specs.Seen.{OnlyAnswer}
use Rattle.checker.proofs.bounded.look_up.Given as goal

abbrev pub invariant-loop-i : goal.invariant-loop-i
invariant-loop-i g l =
    let s = l.search in (z : ℕ) → z < l.i → OnlyAnswer s.net s.class s.vectors.now (at l.answers z) (at l.reaches z)
