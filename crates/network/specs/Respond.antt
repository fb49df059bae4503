-- The call *response from a state*.
use Rattle.std.specs.Prelude.{ℕ, Bool, List, [], ◌∷◌, ◌++◌, length}
use Rattle.words.specs.Answers.{Answer, by_tests}
use Rattle.network.specs.declared.Network.{Network}
use Rattle.network.specs.Reading.{response}
use Rattle.network.specs.States.{not_a_state}
use Rattle.network.specs.Rows.{BoardSetRows, Row11, Row12, board_set_tests, no_room}

-- rows 5, 21, 6, 17, 20, 7, 8, then its own: 11 and 12
abbrev pub OwnRows : Network → (m k : ℕ) → (vectors state : List ℕ) → ℕ → List (ℕ × Type 0)
OwnRows net m k vectors state room = (11, Row11 net m k state) ∷ (12, Row12 (length vectors) room) ∷ []

abbrev pub ResponseRows : Network → List ℕ → ℕ → (vectors state : List ℕ) → ℕ → List (ℕ × Type 0)
ResponseRows net owners k vectors state room =
    BoardSetRows net owners k vectors ++ OwnRows net (length owners) k vectors state room

abbrev pub own_tests : Network → (m k : ℕ) → (vectors state : List ℕ) → ℕ → List (ℕ × Bool)
own_tests net m k vectors state room = (11, not_a_state net m k state) ∷ (12, no_room (length vectors) room) ∷ []

abbrev pub response_tests : Network → List ℕ → ℕ → (vectors state : List ℕ) → ℕ → List (ℕ × Bool)
response_tests net owners k vectors state room =
    board_set_tests net owners k vectors ++ own_tests net (length owners) k vectors state room

-- the call's answer, computed
unfoldable pub response_answer : Network → List ℕ → ℕ → (vectors state : List ℕ) → ℕ → Answer (List ℕ)
response_answer net owners k vectors state room =
    by_tests (response_tests net owners k vectors state room) (response net state vectors)
