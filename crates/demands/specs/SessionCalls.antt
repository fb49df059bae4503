-- Lists of calls on one session record, and document 01's words for them: what goes on is told by the calls, what they
-- answered and what they wrote to the lists lent to them, and not by the record's fields.
use Rattle.std.specs.Prelude.{ℕ, ◌≡◌, ◌≢◌, List, [], ◌∷◌, ◌++◌, length, take}
use Rattle.words.specs.Answers.{Answer, refused, full}
use Rattle.network.specs.declared.Network.{Network}
use Rattle.network.specs.Reading.{response}
use Rattle.network.specs.States.{State}
use Rattle.steps.specs.SecondStep.{unclear}
use Rattle.session.specs.declared.Session.{Session}

-- a call with what it takes and the list lent to it
pub data Call : Type 0 where
  begin : (net : Network) (owners first_list : List ℕ) → Call
  first : (answers second_list : List ℕ) → Call
  second : (answers : List ℕ) → Call

-- the list lent; second answers are lent none
abbrev pub lent : Call → List ℕ
lent (begin net owners list) = list
lent (first answers list) = list
lent (second answers) = []

-- what one call did: its answer with the words that it wrote, the lent list after it, the record after it
pub record Did : Type 0 where
  pub answer : Answer (List ℕ)
  pub list : List ℕ
  pub session : Session

-- a program for the three calls
abbrev pub SessionProgram : Type 0
SessionProgram = Session → Call → Did

-- ---- a session, by the calls

-- With the receivers that begin was given (owners: the net of each), the vectors that begin wrote (v1), the first
-- answers (r1), the vectors that first answers wrote (v2), the second answers (r2).
pub data History : Type 0 where
  none : History
  waits_first : (net : Network) (owners v1 : List ℕ) → History
  waits_second : (net : Network) (owners v1 r1 v2 : List ℕ) → History
  finished_first : (net : Network) (owners v1 r1 v2 : List ℕ) → History
  finished_second : (net : Network) (owners v1 r1 v2 r2 : List ℕ) → History

-- accepted first answers: finished if no net is unclear
abbrev pub after_first : Network → (owners v1 r1 v2 nets : List ℕ) → History
after_first net owners v1 r1 v2 [] = finished_first net owners v1 r1 v2
after_first net owners v1 r1 v2 (i ∷ nets) = waits_second net owners v1 r1 v2

-- a call that is accepted, with the words it wrote
abbrev pub accepted : History → Call → List ℕ → History
accepted h (begin net owners list) written = waits_first net owners written
accepted none (first answers list) written = none
accepted (waits_first net owners v1) (first answers list) written = after_first net owners v1 answers written (unclear net owners answers)
accepted (waits_second net owners v1 r1 v2) (first answers list) written = waits_second net owners v1 r1 v2
accepted (finished_first net owners v1 r1 v2) (first answers list) written = finished_first net owners v1 r1 v2
accepted (finished_second net owners v1 r1 v2 r2) (first answers list) written = finished_second net owners v1 r1 v2 r2
accepted none (second answers) written = none
accepted (waits_first net owners v1) (second answers) written = waits_first net owners v1
accepted (waits_second net owners v1 r1 v2) (second answers) written = finished_second net owners v1 r1 v2 answers
accepted (finished_first net owners v1 r1 v2) (second answers) written = finished_first net owners v1 r1 v2
accepted (finished_second net owners v1 r1 v2 r2) (second answers) written = finished_second net owners v1 r1 v2 r2

-- a refused call changes nothing; the words written are read off the list, as many as the answer says
abbrev pub by_answer : History → Call → Answer (List ℕ) → List ℕ → History
by_answer h call (refused number) list = h
by_answer h call (full words) list = accepted h call (take (length words) list)

abbrev pub extended : History → Call → Did → History
extended h call did = by_answer h call did.answer did.list

-- ---- lists of calls: each gets the record as the one before left it

abbrev pub record_after : SessionProgram → Session → List Call → Session
record_after program start [] = start
record_after program start (call ∷ calls) = record_after program (program start call).session calls

abbrev pub history_from : SessionProgram → History → Session → List Call → History
history_from program h start [] = h
history_from program h start (call ∷ calls) =
    history_from program (extended h call (program start call)) (program start call).session calls

-- the session that the list of calls began last, or none
abbrev pub history : SessionProgram → Session → List Call → History
history program start calls = history_from program none start calls

-- accepted calls leave this record, in this session
pub record LeftBy (program : SessionProgram) (h : History) (session : Session) : Type 0 where
  pub start : Session
  pub calls : List Call
  pub leaves : record_after program start calls ≡ session
  pub in_session : history program start calls ≡ h
  pub begun : h ≢ none

-- ---- what a session waits for, received and spent

abbrev pub Awaits : History → Call → Type 0
Awaits h (begin net owners list) = Unit {0}
Awaits h (first answers list) = (net : Network) × (owners : List ℕ) × (v1 : List ℕ) × (h ≡ waits_first net owners v1)
Awaits h (second answers) =
    (net : Network) × (owners : List ℕ) × (v1 : List ℕ) × (r1 : List ℕ) × (v2 : List ℕ) × (h ≡ waits_second net owners v1 r1 v2)

-- a state of class n that gives the answers received, over the vectors written
abbrev pub FitsAnswers : History → List ℕ → Type 0
FitsAnswers none state = ⊥
FitsAnswers (waits_first net owners v1) state = State net (length owners) net.nets state
FitsAnswers (waits_second net owners v1 r1 v2) state = State net (length owners) net.nets state × (response net state v1 ≡ r1)
FitsAnswers (finished_first net owners v1 r1 v2) state = State net (length owners) net.nets state × (response net state v1 ≡ r1)
FitsAnswers (finished_second net owners v1 r1 v2 r2) state =
    State net (length owners) net.nets state × (response net state v1 ≡ r1) × (response net state v2 ≡ r2)

pub record OnlyFit (h : History) (state : List ℕ) : Type 0 where
  pub fits : FitsAnswers h state
  pub only : (other : List ℕ) → FitsAnswers h other → other ≡ state

-- the vectors spent: all that the session's begin and first answers wrote
abbrev pub vectors_spent : History → List ℕ
vectors_spent none = []
vectors_spent (waits_first net owners v1) = v1
vectors_spent (waits_second net owners v1 r1 v2) = v1 ++ v2
vectors_spent (finished_first net owners v1 r1 v2) = v1 ++ v2
vectors_spent (finished_second net owners v1 r1 v2 r2) = v1 ++ v2
