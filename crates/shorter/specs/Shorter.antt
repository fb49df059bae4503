-- Document 02, "Shorter sets within a budget": the rule by which vectors are dropped, and the floor.
use Rattle.std.specs.Prelude.{ℕ, zero, suc, ◌^◌, ◌≤◌, ◌≡◌, ◌⊎◌, Bool, cond, List, [], ◌∷◌, leb, length}
use Rattle.words.specs.Counting.{class_size}
use Rattle.words.specs.Searching.{least, or_zero, sets_of_class}
use Rattle.network.specs.declared.Network.{Network}
use Rattle.checker.specs.Passed.{passes}

-- ---- the rule

-- a list without its entry i
unfoldable pub without : ℕ → List ℕ → List ℕ
without i [] = []
without zero (x ∷ xs) = xs
without (suc i) (x ∷ xs) = x ∷ without i xs

-- what trials come to: the vectors kept, and the checks made
pub record Trials : Type 0 where
  pub kept : List ℕ
  pub checks : ℕ

-- one trial more: it costs one check
abbrev pub one_check : Trials → Trials
one_check later = record { kept = later.kept; checks = suc later.checks }

-- The vectors before index t are still to be tried, the last of them first, and `left` checks are left. A vector is
-- dropped if its removal from what is kept so far leaves a passed set. With no checks left, the rest is kept.
unfoldable pub trials : (passed : List ℕ → Bool) → (t left : ℕ) → (kept : List ℕ) → Trials
trials passed zero left kept = record { kept = kept; checks = 0 }
trials passed (suc t) zero kept = record { kept = kept; checks = 0 }
trials passed (suc t) (suc left) kept =
    let less = without t kept in
    one_check (trials passed t left (cond (passed less) less kept))

-- the trials on a whole set, with the checks that the caller allows; the check of that set is none of them
abbrev pub tried : Network → (k : ℕ) → (vectors : List ℕ) → (allowed : ℕ) → Trials
tried net k vectors allowed = trials (passes net k) (length vectors) allowed vectors

-- ---- the floor

-- the smallest q with 2 ^ q at least the number of sets of at most k drivers, the empty one included
pub record Floor (net : Network) (k q : ℕ) : Type 0 where
  pub enough : length (sets_of_class k (2 ^ net.nets)) ≤ 2 ^ q
  pub smallest : (z : ℕ) → length (sets_of_class k (2 ^ net.nets)) ≤ 2 ^ z → q ≤ z

-- the same computed: `class_size` is their number, and 2 ^ n is at least that
unfoldable pub floor : Network → ℕ → ℕ
floor net k = or_zero (least (suc net.nets) 0 (λ q. leb (class_size net.nets k) (2 ^ q)))

-- ---- vectors in the order given

-- the first list is the second with some entries taken out, or none
abbrev pub InOrder : List ℕ → List ℕ → Type 0
InOrder [] ys = Unit {0}
InOrder (x ∷ xs) [] = ⊥
InOrder (x ∷ xs) (y ∷ ys) = ((x ≡ y) × InOrder xs ys) ⊎ InOrder (x ∷ xs) ys
