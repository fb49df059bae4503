-- The call *diagnosis*: rows 5, 21, 6, 17, 20, 7, 8, 9, 10, 12, 13, 14, then the state.
use Rattle.std.specs.Prelude.{ℕ, Bool, not, List, [], ◌∷◌, ◌++◌, length}
use Rattle.words.specs.Answers.{Answer, by_tests}
use Rattle.network.specs.declared.Network.{Network}
use Rattle.network.specs.States.{Fits}
use Rattle.network.specs.Rows.{BoardSetRows, Row9, HighBit, Row12, board_set_tests, bad_response_count, has_high_bit}
use Rattle.network.specs.Rows.{no_room}
use Rattle.checker.specs.Passed.{Row13, passes}
use Rattle.diagnosis.specs.ReadBack.{read_back, no_state_fits}

-- fit: no state of the class fits
abbrev pub Row14 : Network → (m k : ℕ) → (vectors responses : List ℕ) → Type 0
Row14 net m k vectors responses = ¬ ((state : List ℕ) × Fits net m k vectors responses state)

-- the call's own rows: 9, 10, 12, 13 and 14, for m receivers
abbrev pub OwnRows : Network → (m k : ℕ) → (vectors responses : List ℕ) → ℕ → List (ℕ × Type 0)
OwnRows net m k vectors responses room =
    (9, Row9 (length vectors) (length responses))
    ∷ (10, HighBit m responses)
    ∷ (12, Row12 m room)
    ∷ (13, Row13 net k vectors)
    ∷ (14, Row14 net m k vectors responses)
    ∷ []

abbrev pub DiagnosisRows : Network → (owners : List ℕ) → ℕ → (vectors responses : List ℕ) → ℕ → List (ℕ × Type 0)
DiagnosisRows net owners k vectors responses room =
    BoardSetRows net owners k vectors ++ OwnRows net (length owners) k vectors responses room

abbrev pub own_tests : Network → (m k : ℕ) → (vectors responses : List ℕ) → ℕ → List (ℕ × Bool)
own_tests net m k vectors responses room =
    (9, bad_response_count (length vectors) (length responses))
    ∷ (10, has_high_bit m responses)
    ∷ (12, no_room m room)
    ∷ (13, not (passes net k vectors))
    ∷ (14, no_state_fits net m k vectors responses)
    ∷ []

-- row 14 alone, and then the state
unfoldable pub fit_answer : Network → (m k : ℕ) → (vectors responses : List ℕ) → Answer (List ℕ)
fit_answer net m k vectors responses =
    by_tests ((14, no_state_fits net m k vectors responses) ∷ []) (read_back net m k vectors responses)

-- the call's answer, computed
unfoldable pub diagnosis_answer : Network → (owners : List ℕ) → ℕ → (vectors responses : List ℕ) → ℕ → Answer (List ℕ)
diagnosis_answer net owners k vectors responses room =
    by_tests (board_set_tests net owners k vectors ++ own_tests net (length owners) k vectors responses room)
    (read_back net (length owners) k vectors responses)
