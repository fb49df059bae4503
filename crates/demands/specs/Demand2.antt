-- Demand 2: a response worked out from a wiring state, and a wiring state read back from a response, both follow the
-- wired-OR model, or at the gate AND the wired-AND model, with floating receivers at the soft level, opens and shorts
-- on one net included. With a passed test set, the state read back is of the stated class and gives exactly that
-- response, and, if no earlier refusal applies, "no state fits" is said exactly when no state of the class gives it.
use Rattle.std.specs.Prelude.{ℕ, ◌≡◌, ◌↔◌, true, false, List, [], ◌∷◌, ◌++◌, length, take, replicate}
use Rattle.words.specs.Answers.{refused, full, NoneHolds, Filled, FillsByTable}
use Rattle.words.specs.Bits.{has, at}
use Rattle.network.specs.declared.Network.{Network}
use Rattle.network.specs.Reading.{wired_or, wired_and, Response}
use Rattle.network.specs.States.{State, Fits}
use Rattle.network.specs.Rows.{BoardSetRows, Row9, HighBit, Row12}
use Rattle.network.specs.Respond.{ResponseRows}
use Rattle.checker.specs.Passed.{Row13}
use Rattle.diagnosis.specs.Diagnosis.{DiagnosisRows}
use Rattle.findings.specs.Findings.{finding}

-- ---- the response

-- a program for the call *response from a state*: what it returns, and the lent list after it
abbrev pub ResponseProgram : Type 0
ResponseProgram = Network → (owners : List ℕ) → ℕ → (vectors state lent : List ℕ) → Filled ℕ

-- On every input it refuses by the first row that holds and leaves the list as it was, or writes the response, word by
-- word and bit by bit, into the front of the list and keeps its tail.
abbrev pub Responds : ResponseProgram → Type 0
Responds program = (net : Network) (owners : List ℕ) (k : ℕ) (vectors state lent : List ℕ)
    → FillsByTable (ResponseRows net owners k vectors state (length lent)) (Response net state vectors) lent
    (program net owners k vectors state lent)

-- ---- reading back

-- a program for the call *diagnosis*
abbrev pub DiagnosisProgram : Type 0
DiagnosisProgram = Network → (owners : List ℕ) → ℕ → (vectors responses lent : List ℕ) → Filled ℕ

-- the rows before 14: those of the board and the test set, then 9, 10, 12 and 13
abbrev pub BeforeFitting : Network → (m k : ℕ) → (vectors responses : List ℕ) → ℕ → List (ℕ × Type 0)
BeforeFitting net m k vectors responses room =
    (9, Row9 (length vectors) (length responses)) ∷ (10, HighBit m responses) ∷ (12, Row12 m room)
    ∷ (13, Row13 net k vectors) ∷ []

abbrev pub EarlierRows : Network → (owners : List ℕ) → ℕ → (vectors responses : List ℕ) → ℕ → List (ℕ × Type 0)
EarlierRows net owners k vectors responses room =
    BoardSetRows net owners k vectors ++ BeforeFitting net (length owners) k vectors responses room

-- what one call did
pub record ReadsBack (net : Network) (owners : List ℕ) (k : ℕ) (vectors responses lent : List ℕ) (did : Filled ℕ) : Type 0 where
  -- refused by the first row that holds and the list as it was, or a state that fits and the tail as it was
  pub by_table : FillsByTable (DiagnosisRows net owners k vectors responses (length lent))
      (Fits net (length owners) k vectors responses) lent did
  -- an accepted call: the list then begins with a state of the class that gives exactly that response
  pub right : (count : ℕ) → did.returned ≡ full count → Fits net (length owners) k vectors responses (take (length owners) did.list)
  -- if no earlier refusal applies: a state of the class that gives the response is the one read back
  pub found : NoneHolds (EarlierRows net owners k vectors responses (length lent)) → (state : List ℕ)
      → Fits net (length owners) k vectors responses state
      → (did.returned ≡ full (length owners)) × (take (length owners) did.list ≡ state)
  -- and 14 is said exactly when there is none
  pub none : NoneHolds (EarlierRows net owners k vectors responses (length lent))
      → (did.returned ≡ refused 14) ↔ (¬ ((state : List ℕ) × Fits net (length owners) k vectors responses state))

abbrev pub Diagnoses : DiagnosisProgram → Type 0
Diagnoses program = (net : Network) (owners : List ℕ) (k : ℕ) (vectors responses lent : List ℕ)
    → ReadsBack net owners k vectors responses lent (program net owners k vectors responses lent)

-- ---- opens and shorts on one net

-- three nets with a receiver each: drivers 1 and 2 reach receivers 0 and 1, and receiver 2 floats
abbrev pub open_and_short : List ℕ
open_and_short = 6 ∷ 6 ∷ 0 ∷ []

-- A wiring state with an open and a short on one net: driver 0 is not in its own receiver's reach, and driver 1 reaches
-- that receiver and its own. On such a network the vectors are answered so, and the answers give the state.
pub record OpenAndShort (responds : ResponseProgram) (diagnoses : DiagnosisProgram) (net : Network)
    (vectors answers : List ℕ) : Type 0 where
  pub is_state : State net 3 3 open_and_short
  pub open_net : has (at open_and_short 0) 0 ≡ false
  pub shorted : (has (at open_and_short 0) 1 ≡ true) × (has (at open_and_short 1) 1 ≡ true)
  pub response : responds net (0 ∷ 1 ∷ 2 ∷ []) 3 vectors open_and_short (replicate (length vectors) 9)
      ≡ record { returned = full (length vectors); list = answers }
  pub and_back : diagnoses net (0 ∷ 1 ∷ 2 ∷ []) 3 vectors answers (9 ∷ 9 ∷ 9 ∷ []) ≡ record { returned = full 3; list = open_and_short }
  pub both_found : (finding net (0 ∷ 1 ∷ 2 ∷ []) open_and_short 0).kind ≡ 3

-- ---- demand 2, whole

pub record Demand2 (responds : ResponseProgram) (diagnoses : DiagnosisProgram) : Type 0 where
  pub response : Responds responds
  pub reading_back : Diagnoses diagnoses
  -- each gate at each soft level
  pub or_1 : OpenAndShort responds diagnoses (wired_or 3 1) (0 ∷ 1 ∷ 2 ∷ 4 ∷ []) (4 ∷ 4 ∷ 7 ∷ 7 ∷ [])
  pub or_0 : OpenAndShort responds diagnoses (wired_or 3 0) (0 ∷ 1 ∷ 2 ∷ 4 ∷ []) (0 ∷ 0 ∷ 3 ∷ 3 ∷ [])
  pub and_1 : OpenAndShort responds diagnoses (wired_and 3 1) (6 ∷ 5 ∷ 3 ∷ []) (7 ∷ 4 ∷ 4 ∷ [])
  pub and_0 : OpenAndShort responds diagnoses (wired_and 3 0) (7 ∷ 6 ∷ 5 ∷ 3 ∷ []) (3 ∷ 3 ∷ 0 ∷ 0 ∷ [])
