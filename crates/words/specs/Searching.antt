-- The smallest number that passes a test, and what is said with it.
use Rattle.std.specs.Prelude.{ℕ, zero, suc, Bool, true, false, cond, List, [], ◌∷◌, ◌++◌, eqb, leb, length}
use Rattle.std.specs.Int.Count.{ones}
use Rattle.words.specs.Bits.{at}
use Rattle.std.specs.Prelude.{Option}
use Rattle.std.specs.Prelude.{Some, None}

-- of the d numbers from x on, the smallest that passes
unfoldable pub least : ℕ → ℕ → (ℕ → Bool) → Option ℕ
least zero x p = None
least (suc d) x p = elim (p x) [ true ↦ Some x | false ↦ least d (suc x) p ]

unfoldable pub is_found : Option ℕ → Bool
is_found (Some x) = true
is_found None = false

-- the number found, and 0 where there is none
abbrev pub or_zero : Option ℕ → ℕ
or_zero (Some x) = x
or_zero None = 0

-- the numbers below n that pass, ascending
unfoldable pub passing : (ℕ → Bool) → ℕ → List ℕ
passing p zero = []
passing p (suc n) = let before = passing p n in cond (p n) (before ++ n ∷ []) before

-- the driver sets of class k below b, ascending: the words with at most k ones
unfoldable pub sets_of_class : ℕ → ℕ → List ℕ
sets_of_class k b = passing (λ set. leb (ones set) k) b

-- some number below n passes
unfoldable pub any : ℕ → (ℕ → Bool) → Bool
any n p = is_found (least n 0 p)

-- where a word stands first in a list
unfoldable pub position : ℕ → List ℕ → Option ℕ
position w ws = least (length ws) 0 (λ t. eqb (at ws t) w)

-- whether a word stands in a list
unfoldable pub among : ℕ → List ℕ → Bool
among w ws = is_found (position w ws)
