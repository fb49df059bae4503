-- The three calls on a session: the answer, with the words written to the lent list, and the record after the call.
use Rattle.std.specs.Prelude.{ℕ, not, Result, Ok, Err, List, [], ◌∷◌, ◌++◌, length}
use Rattle.words.specs.Answers.{Answer, refused, full, by_tests}
use Rattle.network.specs.declared.Network.{Network}
use Rattle.network.specs.declared.refusal.Refusal.{Refusal}
use Rattle.network.specs.Refusing.{row_number}
use Rattle.network.specs.Rows.{board_tests, bad_response_count, has_high_bit, no_room}
use Rattle.diagnosis.specs.ReadBack.{read_back, no_state_fits}
use Rattle.steps.specs.FirstStep.{first_vectors}
use Rattle.steps.specs.SecondStep.{unclear, second_vectors, session_vectors, fault_free_state}
use Rattle.session.specs.declared.Session.{Session}
use Rattle.session.specs.Record.{awaiting_first, awaiting_second, finished, held_owners, held_answers}
use Rattle.session.specs.Record.{awaits_first, awaits_second}

-- what a call on a session does: 0 if it is accepted, or the refusal's number; and the record after it
pub record Stepped : Type 0 where
  pub code : ℕ
  pub session : Session

-- that number of what the code answers
abbrev pub code_of : {A : Type 0} → Result A Refusal → ℕ
code_of (Ok x) = 0
code_of (Err refusal) = row_number refusal

-- the record after a step by value: the new one, or after a refusal the one that was given
abbrev pub after_step : Result Session Refusal → Session → Session
after_step (Ok new) old = new
after_step (Err refusal) old = old

-- document 01's number for an answer, and 0 if the call is accepted; the record as it was after a refusal, else the new
-- one
unfoldable pub stepped : Answer (List ℕ) → (new old : Session) → Stepped
stepped (refused number) new old = record { code = number; session = old }
stepped (full words) new old = record { code = 0; session = new }

-- ---- begin: rows 5, 21, 17, 20 and 12

-- the call's answer, computed
unfoldable pub begin_answer : Network → (owners : List ℕ) → ℕ → Answer (List ℕ)
begin_answer net owners room =
    by_tests (board_tests net owners ++ (12, no_room (length (first_vectors net)) room) ∷ []) (first_vectors net)

abbrev pub begun : Session → Network → (owners : List ℕ) → ℕ → Stepped
begun session net owners room = stepped (begin_answer net owners room) (awaiting_first net owners) session

-- ---- first answers: rows 4, 9, 10 and 12

-- the call's answer, computed
unfoldable pub first_answer : Session → List ℕ → ℕ → Answer (List ℕ)
first_answer session answers room =
    by_tests
    ((4, not (awaits_first session))
    ∷ (9, bad_response_count (length (first_vectors session.network)) (length answers))
    ∷ (10, has_high_bit (length (held_owners session)) answers)
    ∷ (12, no_room (length (second_vectors session.network (held_owners session) answers)) room)
    ∷ [])
    (second_vectors session.network (held_owners session) answers)

-- by the unclear nets: finished if there are none
abbrev pub answered_by : Network → (owners answers nets : List ℕ) → Session
answered_by net owners answers [] =
    finished net owners (fault_free_state owners) (length (session_vectors net owners answers))
answered_by net owners answers (i ∷ nets) = awaiting_second net owners answers

abbrev pub first_answered : Session → List ℕ → ℕ → Stepped
first_answered session answers room =
    stepped (first_answer session answers room)
    (answered_by session.network (held_owners session) answers
    (unclear session.network (held_owners session) answers)) session

-- ---- second answers: rows 4, 9, 10 and 14

-- all vectors of the session, and all answers
abbrev pub vectors_driven : Session → List ℕ
vectors_driven session = session_vectors session.network (held_owners session) (held_answers session)

abbrev pub all_answers : Session → List ℕ → List ℕ
all_answers session answers = held_answers session ++ answers

-- the call's answer, computed; nothing is written
unfoldable pub second_answer : Session → List ℕ → Answer (List ℕ)
second_answer session answers =
    by_tests
    ((4, not (awaits_second session))
    ∷ (
      9,
      bad_response_count (length (second_vectors session.network (held_owners session) (held_answers session)))
          (length answers),
    )
    ∷ (10, has_high_bit (length (held_owners session)) answers)
    ∷ (
      14,
      no_state_fits session.network (length (held_owners session)) session.network.nets
          (vectors_driven session) (all_answers session answers),
    )
    ∷ [])
    []

abbrev pub second_answered : Session → List ℕ → Stepped
second_answered session answers =
    stepped (second_answer session answers)
    (finished session.network (held_owners session)
    (read_back session.network (length (held_owners session)) session.network.nets (vectors_driven session)
    (all_answers session answers))
    (length (vectors_driven session)))
    session
