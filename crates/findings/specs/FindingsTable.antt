-- The call *findings*: rows 5, 21, 17, 20, 11 with k = n, and 12, then a record a receiver.
use Rattle.std.specs.Prelude.{ℕ, ◌<◌, ◌≡◌, Bool, Result, Ok, Err, List, [], ◌∷◌, ◌++◌, map, length, get_or, replicate}
use Rattle.words.specs.Answers.{Answer, refused, full, by_tests}
use Rattle.words.specs.Turning.{tabulate}
use Rattle.network.specs.declared.Network.{Network}
use Rattle.network.specs.declared.refusal.Refusal.{Refusal}
use Rattle.network.specs.Refusing.{row_number}
use Rattle.network.specs.States.{not_a_state}
use Rattle.network.specs.Rows.{BoardRows, Row11, Row12, board_tests, no_room}
use Rattle.findings.specs.declared.Finding.{Finding}
use Rattle.findings.specs.Findings.{finding}

-- the rows of a board alone, then its own: 11 and 12
abbrev pub TableRows : Network → (m : ℕ) → (state : List ℕ) → ℕ → List (ℕ × Type 0)
TableRows net m state room = (11, Row11 net m net.nets state) ∷ (12, Row12 m room) ∷ []

abbrev pub FindingsRows : Network → (owners state : List ℕ) → ℕ → List (ℕ × Type 0)
FindingsRows net owners state room = BoardRows net owners ++ TableRows net (length owners) state room

-- as many records as receivers, and record r is what is found at receiver r
pub record Findings (net : Network) (owners state : List ℕ) (table : List Finding) : Type 0 where
  pub one_a_receiver : length table ≡ length state
  pub found : (r : ℕ) → r < length state → (other : Finding) → get_or table r other ≡ finding net owners state r

abbrev pub table_tests : Network → (m : ℕ) → (state : List ℕ) → ℕ → List (ℕ × Bool)
table_tests net m state room = (11, not_a_state net m net.nets state) ∷ (12, no_room m room) ∷ []

abbrev pub findings_tests : Network → (owners state : List ℕ) → ℕ → List (ℕ × Bool)
findings_tests net owners state room = board_tests net owners ++ table_tests net (length owners) state room

-- the records of all receivers, in order
unfoldable pub findings : Network → (owners state : List ℕ) → List Finding
findings net owners state = map (finding net owners state) (tabulate (length state) (λ r. r))

-- the call's answer, computed
unfoldable pub findings_answer : Network → (owners state : List ℕ) → ℕ → Answer (List Finding)
findings_answer net owners state room = by_tests (findings_tests net owners state room) (findings net owners state)

-- what the call returns, as its answer: accepted, m records, one a receiver; or the refusal, by its row's number
unfoldable pub table_meaning : {A : Type 0} (m : ℕ) → Result A Refusal → Answer ℕ
table_meaning m (Ok accepted) = full m
table_meaning m (Err refusal) = refused (row_number refusal)

-- a record with nothing in it, and a table of 64
abbrev pub blank : Finding
blank = record { kind = 0; reach = 0; partners = 0 }

abbrev pub blank_table : List Finding
blank_table = replicate 64 blank
