use Rattle.std.proofs.Common.{◌≡◌, Bool, false, not, cond, ℕ, ◌≤◌, ◌<◌, ◌-◌, eqb, length}
use Rattle.words.specs.Bits.{at}
use Rattle.steps.proofs.second.only_from.Given as goal

-- a receiver speaks against it if it is the net's and did not return the word, or is another's and did: as `^` tests it
abbrev pub against : Bool → Bool → Bool
against own returned = cond own (not returned) returned

abbrev pub invariant-loop-r : goal.invariant-loop-r
invariant-loop-r l = (l.r ≤ length l.receivers)
    × ((z : ℕ) → z < l.r → against (eqb (at l.receivers z) l.i) (eqb (at l.words z) l.word) ≡ false)

abbrev pub decreases-loop-r : goal.decreases-loop-r
decreases-loop-r l = length l.receivers - l.r
