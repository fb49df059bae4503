use Rattle.std.proofs.Common.{◌≡◌, ℕ, ◌≤◌, ◌<◌, cond, List, eqb, length}
use Rattle.words.specs.Bits.{at}
use Rattle.diagnosis.proofs.classes.note.Given as goal

-- the first i entries are noted, the others as they were
abbrev pub Noted : (set word : ℕ) → (answers before now : List ℕ) → ℕ → Type 0
Noted set word answers before now i =
    (length now ≡ length before)
    × ((z : ℕ) → z < i → at now z ≡ cond (eqb (at answers z) word) set (at before z))
    × ((z : ℕ) → i ≤ z → at now z ≡ at before z)

abbrev pub invariant-loop-i : goal.invariant-loop-i
invariant-loop-i l = Noted l.set l.word l.answers l.initial.reaches l.reaches l.i
