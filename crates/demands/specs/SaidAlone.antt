-- Document 02 of receivers: "Said alone, m = n means receiver i on net i; then every earlier answer must come out as
-- before". Here are the answers of one receiver a net: no call takes receivers, row 21 is not there, and the session's
-- record keeps none. What asks which net a receiver is on is said anew, and what takes m alone is taken at m = n. The
-- theorem stands in the record `SaidAlone`, at the end.
use Rattle.std.specs.Prelude.{ℕ, ◌-◌, ◌^◌, ◌≡◌, Bool, not, ◌&&◌, ◌||◌, cond, List, [], ◌∷◌, ◌++◌, map, eqb, length, take, drop, replicate}
use Rattle.words.specs.Answers.{Answer, refused, full, by_tests, first_number, lent_after, count_of, Filled}
use Rattle.words.specs.Bits.{has, word, at}
use Rattle.words.specs.Searching.{any, passing}
use Rattle.words.specs.Turning.{tabulate, transpose}
use Rattle.network.specs.declared.Network.{Network}
use Rattle.network.specs.Reading.{meets, response}
use Rattle.network.specs.Rows.{Row5, Row21, bad_net_count, bad_level, bad_gate, set_tests, bad_response_count, has_high_bit, no_room}
use Rattle.network.specs.Respond.{own_tests as state_tests}
use Rattle.network.specs.OwnReceivers.{own_receivers}
use Rattle.diagnosis.specs.ReadBack.{read_back, no_state_fits}
use Rattle.diagnosis.specs.Diagnosis.{own_tests as answers_tests}
use Rattle.findings.specs.declared.Finding.{Finding}
use Rattle.findings.specs.Findings.{kind}
use Rattle.findings.specs.FindingsTable.{table_tests}
use Rattle.steps.specs.FirstStep.{word_length, sequential_words, first_vectors}
use Rattle.steps.specs.SecondStep.{settling_vectors}
use Rattle.session.specs.declared.Session.{Session}
use Rattle.session.specs.Record.{pad, is_zeros, all_hold}
use Rattle.session.specs.Calls.{Stepped, stepped, begin_answer, begun, first_answer, first_answered, second_answer, second_answered}
use Rattle.session.specs.Drive.{front, to_drive}
use Rattle.demands.specs.SessionCalls.{Call, begin as begin_with, first as first_with, second as second_with, Did}
use Rattle.demands.specs.Programs.{our_response, our_diagnosis, our_findings, our_sessions}

-- ---- response from a state: rows 5, 6, 17, 20, 7, 8, 11 and 12; a state has n reaches

unfoldable pub response_alone : Network → ℕ → (vectors state : List ℕ) → ℕ → Answer (List ℕ)
response_alone net k vectors state room =
    by_tests (set_tests net k vectors ++ state_tests net net.nets k vectors state room) (response net state vectors)

-- ---- diagnosis: rows 5, 6, 17, 20, 7, 8, 9, 10, 12, 13 and 14; a response word has n bits

unfoldable pub diagnosis_alone : Network → ℕ → (vectors responses : List ℕ) → ℕ → Answer (List ℕ)
diagnosis_alone net k vectors responses room =
    by_tests (set_tests net k vectors ++ answers_tests net net.nets k vectors responses room)
    (read_back net net.nets k vectors responses)

-- ---- findings: rows 5, 17, 20, 11 and 12, then a record a net

-- Nets i and j are partners "if one driver reaches both receivers, if one receiver is reached by both drivers, or if
-- either's driver reaches the other's receiver".
unfoldable pub partner_alone : Network → List ℕ → (i j : ℕ) → Bool
partner_alone net state i j =
    let one_driver = meets net (at state i) (at state j) in
    let one_receiver = any (length state) (λ s. has (at state s) i && has (at state s) j) in
    not (eqb i j) && (one_driver || (one_receiver || (has (at state j) i || has (at state i) j)))

-- the partners of net i as a parallel word
unfoldable pub partners_alone : Network → List ℕ → ℕ → ℕ
partners_alone net state i = word (map (partner_alone net state i) (tabulate net.nets (λ j. j)))

-- document 01's record of net i: it is open if its driver does not reach its receiver
unfoldable pub finding_alone : Network → List ℕ → ℕ → Finding
finding_alone net state i =
    let joined = partners_alone net state i in
    record { kind = kind (not (has (at state i) i)) (not (eqb joined 0)); reach = at state i; partners = joined }

-- the rows of a network alone
abbrev pub network_tests : Network → List (ℕ × Bool)
network_tests net = (5, bad_net_count net) ∷ (17, bad_level net) ∷ (20, bad_gate net) ∷ []

abbrev pub network_refusal : Network → ℕ
network_refusal net = first_number (network_tests net)

unfoldable pub findings_alone : Network → (state : List ℕ) → ℕ → Answer (List Finding)
findings_alone net state room =
    by_tests (network_tests net ++ table_tests net net.nets state room)
    (map (finding_alone net state) (tabulate (length state) (λ i. i)))

-- ---- the two steps of a session

-- entry i of a list is this word, and no other entry is
unfoldable pub only_at : ℕ → List ℕ → ℕ → Bool
only_at word words i =
    let other = any (length words) (λ j. not (eqb j i) && eqb (at words j) word) in
    eqb (at words i) word && not other

-- net i is clear if receiver i returned its own sequential word and no other receiver did; the answers turned are what
-- the receivers returned
unfoldable pub clear_alone : Network → (answers : List ℕ) → ℕ → Bool
clear_alone net answers i = only_at (at (sequential_words net) i) (transpose net.nets answers) i

-- the unclear nets, ascending
unfoldable pub unclear_alone : Network → (answers : List ℕ) → List ℕ
unclear_alone net answers = passing (λ i. not (clear_alone net answers i)) net.nets

-- the vectors of step two, by the first answers
unfoldable pub second_vectors_alone : Network → (answers : List ℕ) → List ℕ
second_vectors_alone net answers = settling_vectors net (unclear_alone net answers)

-- all vectors of a session
abbrev pub session_vectors_alone : Network → (answers : List ℕ) → List ℕ
session_vectors_alone net answers = first_vectors net ++ second_vectors_alone net answers

-- the state in which each reach is its own driver
unfoldable pub fault_free_alone : Network → List ℕ
fault_free_alone net = tabulate net.nets (λ i. 2 ^ i)

-- ---- the session's record, with 8 words of first answers and 48 reaches

pub record SessionAlone : Type 0 where
  pub step : ℕ
  pub network : Network
  pub first : List ℕ
  pub reaches : List ℕ
  pub spent : ℕ

-- begun: it waits for first answers
abbrev pub awaiting_first_alone : Network → SessionAlone
awaiting_first_alone net = record { step = 1; network = net; first = pad 8 []; reaches = pad 48 []; spent = 0 }

-- these first answers received, and nets unclear: it waits for second answers
abbrev pub awaiting_second_alone : Network → (answers : List ℕ) → SessionAlone
awaiting_second_alone net answers = record { step = 2; network = net; first = pad 8 answers; reaches = pad 48 []; spent = 0 }

-- finished: the reaches and the number of vectors spent
abbrev pub finished_alone : Network → (state : List ℕ) → ℕ → SessionAlone
finished_alone net state spent = record { step = 3; network = net; first = pad 8 []; reaches = pad 48 state; spent = spent }

-- the first answers that a record holds
abbrev pub held_alone : SessionAlone → List ℕ
held_alone session = take (word_length session.network) session.first

-- accepted calls leave this record, and it waits for first answers
unfoldable pub awaits_first_alone : SessionAlone → Bool
awaits_first_alone session =
    all_hold
    (eqb session.step 1
    ∷ eqb (network_refusal session.network) 0
    ∷ is_zeros 8 session.first
    ∷ is_zeros 48 session.reaches
    ∷ eqb session.spent 0
    ∷ [])

-- first answers that leave a net unclear, and then zeros
abbrev pub first_answers_held_alone : Network → (first : List ℕ) → Bool
first_answers_held_alone net first =
    all_hold
    (eqb (length first) 8
    ∷ is_zeros (8 - word_length net) (drop (word_length net) first)
    ∷ not (has_high_bit net.nets (take (word_length net) first))
    ∷ not (eqb (length (unclear_alone net (take (word_length net) first))) 0)
    ∷ [])

-- accepted calls leave this record, and it waits for second answers
unfoldable pub awaits_second_alone : SessionAlone → Bool
awaits_second_alone session =
    all_hold
    (eqb session.step 2
    ∷ eqb (network_refusal session.network) 0
    ∷ first_answers_held_alone session.network session.first
    ∷ is_zeros 48 session.reaches
    ∷ eqb session.spent 0
    ∷ [])

-- ---- the three calls on it

-- 0 if a call is accepted, or the refusal's number; and the record after it
pub record SteppedAlone : Type 0 where
  pub code : ℕ
  pub session : SessionAlone

unfoldable pub stepped_alone : Answer (List ℕ) → (new old : SessionAlone) → SteppedAlone
stepped_alone (refused number) new old = record { code = number; session = old }
stepped_alone (full words) new old = record { code = 0; session = new }

-- begin: rows 5, 17, 20 and 12
unfoldable pub begin_alone : Network → ℕ → Answer (List ℕ)
begin_alone net room = by_tests (network_tests net ++ (12, no_room (length (first_vectors net)) room) ∷ []) (first_vectors net)

abbrev pub begun_alone : SessionAlone → Network → ℕ → SteppedAlone
begun_alone session net room = stepped_alone (begin_alone net room) (awaiting_first_alone net) session

-- first answers: rows 4, 9, 10 and 12
unfoldable pub first_alone : SessionAlone → (answers : List ℕ) → ℕ → Answer (List ℕ)
first_alone session answers room =
    by_tests
    ((4, not (awaits_first_alone session))
    ∷ (9, bad_response_count (length (first_vectors session.network)) (length answers))
    ∷ (10, has_high_bit session.network.nets answers)
    ∷ (12, no_room (length (second_vectors_alone session.network answers)) room)
    ∷ [])
    (second_vectors_alone session.network answers)

-- by the unclear nets: finished if there are none
abbrev pub answered_by_alone : Network → (answers nets : List ℕ) → SessionAlone
answered_by_alone net answers [] = finished_alone net (fault_free_alone net) (length (session_vectors_alone net answers))
answered_by_alone net answers (i ∷ nets) = awaiting_second_alone net answers

abbrev pub first_answered_alone : SessionAlone → (answers : List ℕ) → ℕ → SteppedAlone
first_answered_alone session answers room =
    stepped_alone (first_alone session answers room)
    (answered_by_alone session.network answers (unclear_alone session.network answers)) session

-- second answers: rows 4, 9, 10 and 14
abbrev pub vectors_driven_alone : SessionAlone → List ℕ
vectors_driven_alone session = session_vectors_alone session.network (held_alone session)

unfoldable pub second_alone : SessionAlone → (answers : List ℕ) → Answer (List ℕ)
second_alone session answers =
    by_tests
    ((4, not (awaits_second_alone session))
    ∷ (9, bad_response_count (length (second_vectors_alone session.network (held_alone session))) (length answers))
    ∷ (10, has_high_bit session.network.nets answers)
    ∷ (
      14,
      no_state_fits session.network session.network.nets session.network.nets (vectors_driven_alone session)
          (held_alone session ++ answers),
    )
    ∷ [])
    []

abbrev pub second_answered_alone : SessionAlone → (answers : List ℕ) → SteppedAlone
second_answered_alone session answers =
    stepped_alone (second_alone session answers)
    (finished_alone session.network
    (read_back session.network session.network.nets session.network.nets (vectors_driven_alone session)
    (held_alone session ++ answers))
    (length (vectors_driven_alone session)))
    session

-- the vectors to drive next: of the first list or of the second, by what the record waits for
unfoldable pub to_drive_alone : SessionAlone → (first second : List ℕ) → List ℕ
to_drive_alone session first second =
    let settle = front (length (second_vectors_alone session.network (held_alone session))) second in
    cond (awaits_first_alone session) (front (length (first_vectors session.network)) first)
    (cond (awaits_second_alone session) settle [])

-- ---- the same record with its own receivers: receiver i on net i, and 16 more entries of 0 after the reaches

abbrev pub with_own : SessionAlone → Session
with_own session = record {
  step = session.step;
  network = session.network;
  receivers = session.network.nets;
  owners = pad 64 (own_receivers session.network.nets);
  first = session.first;
  reaches = session.reaches ++ replicate 16 0;
  spent = session.spent;
}

abbrev pub stepped_own : SteppedAlone → Stepped
stepped_own did = record { code = did.code; session = with_own did.session }

-- ---- lists of calls: each gets the record as the one before left it

-- a call with what it takes and the list lent to it
pub data CallAlone : Type 0 where
  begin : (net : Network) (list : List ℕ) → CallAlone
  first : (answers list : List ℕ) → CallAlone
  second : (answers : List ℕ) → CallAlone

-- what one call did: its answer with the words that it wrote, the lent list after it, the record after it
pub record DidAlone : Type 0 where
  pub answer : Answer (List ℕ)
  pub list : List ℕ
  pub session : SessionAlone

abbrev pub does_alone : SessionAlone → CallAlone → DidAlone
does_alone session (begin net list) =
    let answer = begin_alone net (length list) in
    record { answer = answer; list = lent_after answer list; session = (begun_alone session net (length list)).session }
does_alone session (first answers list) =
    let answer = first_alone session answers (length list) in
    record { answer = answer; list = lent_after answer list; session = (first_answered_alone session answers (length list)).session }
does_alone session (second answers) =
    let answer = second_alone session answers in
    record { answer = answer; list = lent_after answer []; session = (second_answered_alone session answers).session }

-- what each call of a list did
abbrev pub all_did_alone : SessionAlone → List CallAlone → List DidAlone
all_did_alone session [] = []
all_did_alone session (call ∷ calls) = does_alone session call ∷ all_did_alone (does_alone session call).session calls

-- and what our calls did; begin is given own receivers
abbrev pub own_call : CallAlone → Call
own_call (begin net list) = begin_with net (own_receivers net.nets) list
own_call (first answers list) = first_with answers list
own_call (second answers) = second_with answers

abbrev pub all_did : Session → List CallAlone → List Did
all_did session [] = []
all_did session (call ∷ calls) =
    let one = our_sessions session (own_call call) in
    one ∷ all_did one.session calls

abbrev pub did_own : DidAlone → Did
did_own did = record { answer = did.answer; list = did.list; session = with_own did.session }

-- ---- the theorem, for every input, refused or not

-- what a call with this answer returns, and the list lent to it after it
abbrev pub filled : {A : Type 0} → Answer (List A) → (lent : List A) → Filled A
filled answer lent = record { returned = count_of answer; list = lent_after answer lent }

pub record SaidAlone : Type 0 where
  -- row 21 never holds of own receivers where row 5 does not
  pub let_through : (net : Network) → ¬ (Row5 net) → ¬ (Row21 net (own_receivers net.nets))
  -- what each of these returns, and the list or table lent after it
  pub responds : (net : Network) (k : ℕ) (vectors state lent : List ℕ)
      → our_response net (own_receivers net.nets) k vectors state lent
      ≡ filled (response_alone net k vectors state (length lent)) lent
  pub diagnoses : (net : Network) (k : ℕ) (vectors responses lent : List ℕ)
      → our_diagnosis net (own_receivers net.nets) k vectors responses lent
      ≡ filled (diagnosis_alone net k vectors responses (length lent)) lent
  pub finds : (net : Network) (state : List ℕ) (lent : List Finding)
      → our_findings net (own_receivers net.nets) state lent ≡ filled (findings_alone net state (length lent)) lent
  -- begin on any record: the answer with the words written, and the record after it
  pub begin_answers : (net : Network) (room : ℕ) → begin_answer net (own_receivers net.nets) room ≡ begin_alone net room
  pub begins : (session : Session) (net : Network) (room : ℕ)
      → begun session net (own_receivers net.nets) room
      ≡ stepped (begin_alone net room) (with_own (awaiting_first_alone net)) session
  -- the other calls on a record with its own receivers, and what they leave is such a record again
  pub first_answers : (session : SessionAlone) (answers : List ℕ) (room : ℕ)
      → first_answer (with_own session) answers room ≡ first_alone session answers room
  pub first_steps : (session : SessionAlone) (answers : List ℕ) (room : ℕ)
      → first_answered (with_own session) answers room ≡ stepped_own (first_answered_alone session answers room)
  pub second_answers : (session : SessionAlone) (answers : List ℕ)
      → second_answer (with_own session) answers ≡ second_alone session answers
  pub second_steps : (session : SessionAlone) (answers : List ℕ)
      → second_answered (with_own session) answers ≡ stepped_own (second_answered_alone session answers)
  pub drives : (session : SessionAlone) (one two : List ℕ) → to_drive (with_own session) one two ≡ to_drive_alone session one two
  -- every list of calls: each answer, each list lent and each record
  pub all_calls : (session : SessionAlone) (calls : List CallAlone)
      → all_did (with_own session) calls ≡ map did_own (all_did_alone session calls)
  -- and from any record, once a begin is accepted
  pub from_begin : (session : Session) (other : SessionAlone) (net : Network) (list words : List ℕ) (calls : List CallAlone)
      → begin_alone net (length list) ≡ full words
      → all_did session (begin net list ∷ calls) ≡ map did_own (all_did_alone other (begin net list ∷ calls))
