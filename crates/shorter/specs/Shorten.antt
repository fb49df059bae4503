-- The call *shorten*: rows 5, 6, 17, 20, 7, 8, 12, 13, then the vectors kept, the checks made and the floor.
use Rattle.std.specs.Prelude.{ℕ, ◌<◌, ◌≡◌, ◌⊎◌, Bool, not, ◌||◌, List, [], ◌∷◌, ◌++◌, ltb, length}
use Rattle.words.specs.Answers.{Answer, refused, full, by_tests}
use Rattle.network.specs.declared.Network.{Network}
use Rattle.network.specs.Rows.{Row5, Row6, Row12, ClassRows, VectorRows, bad_net_count, bad_class, no_room}
use Rattle.network.specs.Rows.{class_tests, vector_tests}
use Rattle.checker.specs.Passed.{Row13, passes}
use Rattle.shorter.specs.declared.Shortened.{Shortened}
use Rattle.shorter.specs.Shorter.{tried, Floor, floor}

-- ---- the rows

-- class: as in the other calls, and here also every k above 3
abbrev pub SmallClassRow6 : Network → ℕ → Type 0
SmallClassRow6 net k = Row6 net k ⊎ (3 < k)

abbrev pub SmallClassRows : Network → ℕ → List ℕ → List (ℕ × Type 0)
SmallClassRows net k vectors = (5, Row5 net) ∷ ClassRows (SmallClassRow6 net k) net ++ VectorRows net vectors

-- the call's own rows: no room for the whole set given; that set is not passed
abbrev pub OwnRows : Network → (k : ℕ) → (vectors : List ℕ) → ℕ → List (ℕ × Type 0)
OwnRows net k vectors room = (12, Row12 (length vectors) room) ∷ (13, Row13 net k vectors) ∷ []

abbrev pub ShortenRows : Network → (k : ℕ) → (vectors : List ℕ) → ℕ → List (ℕ × Type 0)
ShortenRows net k vectors room = SmallClassRows net k vectors ++ OwnRows net k vectors room

-- ---- the same as tests

abbrev pub bad_small_class : Network → ℕ → Bool
bad_small_class net k = bad_class net k || ltb 3 k

abbrev pub small_class_tests : Network → ℕ → List ℕ → List (ℕ × Bool)
small_class_tests net k vectors = (5, bad_net_count net) ∷ class_tests (bad_small_class net k) net ++ vector_tests net vectors

abbrev pub own_tests : Network → (k : ℕ) → (vectors : List ℕ) → ℕ → List (ℕ × Bool)
own_tests net k vectors room = (12, no_room (length vectors) room) ∷ (13, not (passes net k vectors)) ∷ []

-- what the rows of the test set say alone
abbrev pub small_class_admission : Network → ℕ → List ℕ → Answer (Unit {0})
small_class_admission net k vectors = by_tests (small_class_tests net k vectors) tt

-- ---- the answer

-- a full result: the vectors kept, the checks made, the floor
pub record Shorter : Type 0 where
  pub kept : List ℕ
  pub checks : ℕ
  pub floor : ℕ

-- as document 02 says it: what the rule's trials keep, the checks that they make, and the floor
pub record IsShorter (net : Network) (k : ℕ) (vectors : List ℕ) (allowed : ℕ) (result : Shorter) : Type 0 where
  pub kept_by_rule : result.kept ≡ (tried net k vectors allowed).kept
  pub checks_of_rule : result.checks ≡ (tried net k vectors allowed).checks
  pub smallest_power : Floor net k result.floor

-- computed
abbrev pub shorter : Network → (k : ℕ) → (vectors : List ℕ) → (allowed : ℕ) → Shorter
shorter net k vectors allowed =
    let end = tried net k vectors allowed in
    record { kept = end.kept; checks = end.checks; floor = floor net k }

unfoldable pub shorten_answer : Network → (k : ℕ) → (vectors : List ℕ) → (allowed room : ℕ) → Answer Shorter
shorten_answer net k vectors allowed room =
    by_tests (small_class_tests net k vectors ++ own_tests net k vectors room) (shorter net k vectors allowed)

-- what is written into the lent list, and what is returned
abbrev pub kept_of : Answer Shorter → Answer (List ℕ)
kept_of (refused number) = refused number
kept_of (full result) = full result.kept

abbrev pub counted : Answer Shorter → Answer Shortened
counted (refused number) = refused number
counted (full result) =
    full (record { kept = length result.kept; checks = result.checks; floor = result.floor })
