use Rattle.std.proofs.Common.{◌≡◌, ℕ, ◌<◌, length}
use Rattle.words.specs.Bits.{at}
use Rattle.checker.specs.Seen.{OnlyAnswer}
use Rattle.diagnosis.proofs.walking.walking_reaches.Given as goal

-- the reaches of the receivers so far are read
abbrev pub invariant-loop-answered : goal.invariant-loop-answered
invariant-loop-answered l =
    (length l.reaches.items ≡ l.answered-index)
    × ((z : ℕ) → z < l.answered-index
    → OnlyAnswer l.test.nets.network l.test.class l.test.vectors.now (at l.answers z) (at l.reaches.items z))
