-- Demand 3, the two halves as one record.
use Rattle.std.specs.Prelude.{ℕ, ◌+◌, ◌-◌, ◌^◌, ◌<◌, ◌≡◌, ◌↔◌, ◌≢◌, List, [], ◌∷◌, ◌++◌, length, take, drop, replicate}
use Rattle.words.specs.Answers.{Answer, refused, full, ByTable, lent_after}
use Rattle.words.specs.Bits.{at}
use Rattle.network.specs.declared.Network.{Network}
use Rattle.network.specs.Reading.{extra_vectors, response}
use Rattle.network.specs.States.{State, AtMostOneFits}
use Rattle.network.specs.Rows.{BoardRows, SetRows, Row5, Row21, Row9, HighBit, Row12}
use Rattle.checker.specs.declared.Verdict.{Verdict}
use Rattle.checker.specs.declared.Verdict.TheVariants.{Pass, Pair}
use Rattle.checker.specs.Rule.{shown_state}
use Rattle.steps.specs.FirstStep.{word_length, sequential_words, first_vectors, WordLength, SmallestWords, VectorsOfWords}
use Rattle.steps.specs.SecondStep.{unclear, UnclearNets, second_vectors}
use Rattle.session.specs.declared.Session.{Session}
use Rattle.demands.specs.SessionCalls.{Call, begin, first, second, lent, SessionProgram, History, none}
use Rattle.demands.specs.SessionCalls.{waits_first, waits_second, finished_first, finished_second, record_after}
use Rattle.demands.specs.SessionCalls.{history, LeftBy, Awaits, FitsAnswers, OnlyFit, vectors_spent}

-- ---- first half
-- For each class and test set that document 01 admits, the checker passes the set for that class exactly when, whatever
-- the response, at most one wiring state of the class fits it. Otherwise it shows two different states of the class
-- with equal responses.

-- a program for the call *check*
abbrev pub CheckProgram : Type 0
CheckProgram = Network → ℕ → List ℕ → Answer Verdict

-- the two states of m receivers that a pair shows
pub record ShownPair (net : Network) (m k : ℕ) (vectors : List ℕ) (a b : ℕ) : Type 0 where
  pub first_state : State net m k (shown_state m a)
  pub second_state : State net m k (shown_state m b)
  pub different : shown_state m a ≢ shown_state m b
  pub equal_responses : response net (shown_state m a) vectors ≡ response net (shown_state m b) vectors

-- for every list of receivers that row 21 admits
pub record Judged (net : Network) (k : ℕ) (vectors : List ℕ) (verdict : Verdict) : Type 0 where
  pub passes : (owners : List ℕ) → ¬ (Row21 net owners) → (verdict ≡ Pass) ↔ AtMostOneFits net (length owners) k vectors
  pub shows : (owners : List ℕ) → ¬ (Row21 net owners) → (a b : ℕ) → verdict ≡ Pair a b
      → ShownPair net (length owners) k vectors a b

-- on every input: refused by the first row that holds, or judged so
abbrev pub Checks : CheckProgram → Type 0
Checks program = (net : Network) (k : ℕ) (vectors : List ℕ) → ByTable (SetRows net k vectors) (Judged net k vectors) (program net k vectors)

-- ---- second half
-- Every list of begins, first answers and second answers on one session record, refused ones included. Each call is
-- refused exactly where document 01's table says so. After the list, if its last accepted call finished a session begun
-- in it, exactly one state of class n fits all the answers received, and that state is the one reported. The vectors
-- spent are p if no net is unclear; if F nets are, p + F, and one more where there is an extra vector. Second answers
-- of a state of class n that gave the first ones are never refused with 14, so a state that stays the same through both
-- steps is the one reported.

-- row 4, where the session does not wait for the call
abbrev pub NotAwaited : List (ℕ × Type 0)
NotAwaited = (4, Unit {0}) ∷ []

abbrev pub BeginRows : Network → (owners list : List ℕ) → List (ℕ × Type 0)
BeginRows net owners list = BoardRows net owners ++ (12, Row12 (length (first_vectors net)) (length list)) ∷ []

abbrev pub FirstRows : History → (answers list : List ℕ) → List (ℕ × Type 0)
FirstRows none answers list = NotAwaited
FirstRows (waits_first net owners v1) answers list =
    (9, Row9 (length v1) (length answers)) ∷ (10, HighBit (length owners) answers)
    ∷ (12, Row12 (length (second_vectors net owners answers)) (length list)) ∷ []
FirstRows (waits_second net owners v1 r1 v2) answers list = NotAwaited
FirstRows (finished_first net owners v1 r1 v2) answers list = NotAwaited
FirstRows (finished_second net owners v1 r1 v2 r2) answers list = NotAwaited

abbrev pub SecondRows : History → (answers : List ℕ) → List (ℕ × Type 0)
SecondRows none answers = NotAwaited
SecondRows (waits_first net owners v1) answers = NotAwaited
SecondRows (waits_second net owners v1 r1 v2) answers =
    (9, Row9 (length v2) (length answers))
    ∷ (10, HighBit (length owners) answers)
    ∷ (14, ¬ ((state : List ℕ) × FitsAnswers (finished_second net owners v1 r1 v2 answers) state))
    ∷ []
SecondRows (finished_first net owners v1 r1 v2) answers = NotAwaited
SecondRows (finished_second net owners v1 r1 v2 r2) answers = NotAwaited

-- the rows of a call in a session
abbrev pub CallRows : History → Call → List (ℕ × Type 0)
CallRows h (begin net owners list) = BeginRows net owners list
CallRows h (first answers list) = FirstRows h answers list
CallRows h (second answers) = SecondRows h answers

abbrev pub second_words : History → List ℕ → List ℕ
second_words none answers = []
second_words (waits_first net owners v1) answers = second_vectors net owners answers
second_words (waits_second net owners v1 r1 v2) answers = []
second_words (finished_first net owners v1 r1 v2) answers = []
second_words (finished_second net owners v1 r1 v2 r2) answers = []

-- the words that an accepted call writes: the p vectors; the extra vector, if there is one, and the walking ones of the
-- unclear nets, or none; none
abbrev pub Written : History → Call → List ℕ → Type 0
Written h (begin net owners list) words = words ≡ first_vectors net
Written h (first answers list) words = words ≡ second_words h answers
Written h (second answers) words = words ≡ []

abbrev pub IsBegin : Call → Type 0
IsBegin call = (net : Network) × (owners : List ℕ) × (list : List ℕ) × (call ≡ begin net owners list)

-- one call on a record
pub record CallByTable (program : SessionProgram) (session : Session) (call : Call) : Type 0 where
  pub record_kept : (number : ℕ) → (program session call).answer ≡ refused number → (program session call).session ≡ session
  pub list_after : (program session call).list ≡ lent_after (program session call).answer (lent call)
  -- begin takes any record
  pub begins : (net : Network) (owners list : List ℕ) → call ≡ begin net owners list
      → ByTable (BeginRows net owners list) (λ words. words ≡ first_vectors net) (program session call).answer
  -- a record that accepted calls leave: by the session it stands in
  pub in_session : (h : History) → LeftBy program h session → ByTable (CallRows h call) (Written h call) (program session call).answer
  -- row 4's other half: no accepted calls leave such a record, waiting for this call
  pub no_session : ¬ (IsBegin call) → ((h : History) → LeftBy program h session → ¬ (Awaits h call))
      → (program session call).answer ≡ refused 4

-- what a finished record holds: the network and its receivers, its one state and nothing in the unused entries, and
-- the count
pub record Reported (h : History) (net : Network) (owners r1 : List ℕ) (session : Session) : Type 0 where
  pub network_held : session.network ≡ net
  pub receivers_held : session.receivers ≡ length owners
  pub owners_held : session.owners ≡ owners ++ replicate (64 - length owners) 0
  pub state : OnlyFit h (take (length owners) session.reaches)
  pub nothing_more : drop (length owners) session.reaches ≡ replicate (64 - length owners) 0
  pub count : session.spent ≡ length (vectors_spent h)
  pub none_unclear : length (unclear net owners r1) ≡ 0 → session.spent ≡ word_length net
  pub own_drivers : length (unclear net owners r1) ≡ 0 → (r : ℕ) → r < length owners → at session.reaches r ≡ 2 ^ at owners r
  pub some_unclear : length (unclear net owners r1) ≢ 0
      → session.spent ≡ word_length net + length (unclear net owners r1) + length (extra_vectors net)

abbrev pub Ended : History → Session → Type 0
Ended none session = Unit {0}
Ended (waits_first net owners v1) session = Unit {0}
Ended (waits_second net owners v1 r1 v2) session = Unit {0}
Ended (finished_first net owners v1 r1 v2) session = Reported (finished_first net owners v1 r1 v2) net owners r1 session
Ended (finished_second net owners v1 r1 v2 r2) session = Reported (finished_second net owners v1 r1 v2 r2) net owners r1 session

-- one list of calls, from one record
pub record SessionClaim (program : SessionProgram) (start : Session) (calls : List Call) : Type 0 where
  pub each : (before rest : List Call) (call : Call) → calls ≡ before ++ (call ∷ rest)
      → CallByTable program (record_after program start before) call
  pub ended : Ended (history program start calls) (record_after program start calls)
  -- a state that gave the first answers and gives these second ones: accepted, and reported
  pub stays : (net : Network) (owners v1 r1 v2 state : List ℕ) → history program start calls ≡ waits_second net owners v1 r1 v2
      → State net (length owners) net.nets state
      → response net state v1 ≡ r1
      → ((program (record_after program start calls) (second (response net state v2))).answer ≡ full [])
      × (take (length owners) (program (record_after program start calls) (second (response net state v2))).session.reaches ≡ state)
  -- and one that leaves no net unclear is reported after step one
  pub stays_first : (net : Network) (owners v1 r1 v2 state : List ℕ)
      → history program start calls ≡ finished_first net owners v1 r1 v2 → State net (length owners) net.nets state
      → response net state v1 ≡ r1 → take (length owners) (record_after program start calls).reaches ≡ state

abbrev pub Sessions : SessionProgram → Type 0
Sessions program = (start : Session) (calls : List Call) → SessionClaim program start calls

-- ---- demand 3, whole

pub record Demand3 (checks : CheckProgram) (sessions : SessionProgram) : Type 0 where
  pub checker : Checks checks
  pub session : Sessions sessions
  -- what p and the words of step one are
  pub length_of_words : (net : Network) → ¬ (Row5 net) → WordLength net (word_length net)
  pub words_of_step_one : (net : Network) → ¬ (Row5 net) → SmallestWords net (word_length net) (sequential_words net)
  -- and the vectors that begin writes
  pub vectors_of_step_one : (net : Network) → ¬ (Row5 net) → VectorsOfWords net (word_length net) (sequential_words net) (first_vectors net)
  -- which nets are unclear, whatever the first answers are; F is their count
  pub unclear_nets : (net : Network) (owners answers : List ℕ) → UnclearNets net owners answers (unclear net owners answers)
