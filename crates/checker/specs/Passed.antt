-- Passed test sets, and row 13.
use Rattle.std.specs.Prelude.{ℕ, ◌<◌, Bool, true, false, List, length}
use Rattle.words.specs.Answers.{NoneHolds}
use Rattle.words.specs.Bits.{at}
use Rattle.network.specs.declared.Network.{Network}
use Rattle.network.specs.Rows.{SetRows}
use Rattle.checker.specs.declared.Verdict.{Verdict}
use Rattle.checker.specs.declared.Verdict.TheVariants.{Pass, Pair}
use Rattle.checker.specs.Rule.{Among, Rule, verdict}

-- a test set that its rows admit and the checker's rule passes
abbrev pub Passed : Network → ℕ → List ℕ → Type 0
Passed net k vectors = NoneHolds (SetRows net k vectors) × Rule net k vectors Pass

-- separation: the checker does not pass the set
abbrev pub Row13 : Network → ℕ → List ℕ → Type 0
Row13 net k vectors = ¬ (Rule net k vectors Pass)

-- ---- as a test

abbrev pub is_pass : Verdict → Bool
is_pass Pass = true
is_pass (Pair a b) = false

abbrev pub passes : Network → ℕ → List ℕ → Bool
passes net k vectors = is_pass (verdict net k vectors)

-- ---- a set and a larger one

-- each vector of the first list is among those of the second
abbrev pub Within : List ℕ → List ℕ → Type 0
Within vectors more = (t : ℕ) → t < length vectors → Among (at vectors t) more
