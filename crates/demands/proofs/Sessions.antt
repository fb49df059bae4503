-- Demand 3's second half, of our session calls; row 4 and the part to drive beside it.
use Rattle.std.proofs.Common.{ℕ, le_refl, arith, ◌≡◌, refl, sym, ap, ap₂, ◌∙◌, subst, ◌≢◌, inl, inr, ⊎_elim, Bool}
use Rattle.std.proofs.Common.{true, false, cond, List, [], ◌∷◌, leb, length, take, eq-eqb, le-ltb, leb-true}
use Rattle.std.proofs.Common.{leb-false}
use Rattle.words.specs.Answers.{Answer, refused, full, ByTable, NoneHolds, by_tests, lent_after}
use Rattle.words.proofs.Tests.{cases}
use Rattle.words.proofs.Answers.{front_written, table_full, table_not_refused}
use Rattle.network.specs.declared.Network.{Network}
use Rattle.network.specs.Reading.{response}
use Rattle.network.specs.States.{State}
use Rattle.network.specs.Rows.{AdmittedBoard, HighBit, has_high_bit, no_room}
use Rattle.network.proofs.Reading.{response_is}
use Rattle.network.proofs.Rows.{board_admits, admitted_refusal}
use Rattle.steps.specs.FirstStep.{word_length, first_vectors}
use Rattle.steps.specs.SecondStep.{unclear, second_vectors}
use Rattle.steps.proofs.StepOneWords.{first_size}
use Rattle.session.specs.declared.Session.{Session}
use Rattle.session.specs.Record.{awaiting_first, awaiting_second, held_owners, held_answers, awaits_first, awaits_second}
use Rattle.session.specs.Calls.{stepped, begin_answer, first_answer, answered_by}
use Rattle.session.specs.Drive.{front, to_drive}
use Rattle.session.proofs.Records.{owners_front, awaits_first_of, awaits_first_is, held_of, WaitsForSecond, awaits_second_is}
use Rattle.demands.specs.SessionCalls.{Call, begin, first, second, lent, History, none, waits_first, waits_second}
use Rattle.demands.specs.SessionCalls.{finished_first, finished_second, after_first, by_answer, extended}
use Rattle.demands.specs.SessionCalls.{record_after, history, LeftBy, Awaits}
use Rattle.demands.specs.Demand3.{BeginRows, SecondRows, IsBegin, CallByTable, Ended, Sessions}
use Rattle.demands.specs.SessionRecords.{RowFour, Front, Drives}
use Rattle.demands.specs.Programs.{our_answer, our_new, our_sessions}
use Rattle.demands.proofs.Telling.{WaitsFirst, WaitsSecond, Stopped, Tells, awaits, not_first, first_refused}
use Rattle.demands.proofs.Telling.{second_refused, begin_by_table, told_by_table, call_tells, record_tells}
use Rattle.demands.proofs.Telling.{is_begun}

-- ---- calls that go through

begin_through : (net : Network) (owners : List ℕ) → AdmittedBoard net owners
    → begin_answer net owners (length (first_vectors net)) ≡ full (first_vectors net)
unfolding begin_answer by_tests
begin_through net owners good =
    let p = length (first_vectors net) in
    board_admits net owners ((12, no_room p p) ∷ []) (first_vectors net) (admitted_refusal net owners good) ∙ rw (le-ltb p p (le_refl p))

first_through : (net : Network) (owners answers : List ℕ) → AdmittedBoard net owners → length answers ≡ word_length net
    → has_high_bit (length owners) answers ≡ false
    → first_answer (awaiting_first net owners) answers (length (second_vectors net owners answers))
    ≡ full (second_vectors net owners answers)
unfolding first_answer by_tests
first_through net owners answers e size narrow =
    rw (
      awaits_first_of net owners e,
      owners_front owners,
      eq-eqb (length answers) (length (first_vectors net)) (size ∙ sym (first_size net)),
      narrow,
      le-ltb (length (second_vectors net owners answers)) (length (second_vectors net owners answers)) (le_refl _),
    )

-- what an accepted call does
pub goes_through : (session : Session) (call : Call) (words : List ℕ) → our_answer session call ≡ full words
    → ((our_sessions session call).session ≡ our_new session call)
    × ((h : History) → extended h call (our_sessions session call)
    ≡ by_answer h call (full words) (lent_after (full words) (lent call)))
unfolding stepped
goes_through session call words e = (
  ap (λ (a : Answer (List ℕ)). (stepped a (our_new session call) session).session) e,
  λ h. ap (λ (a : Answer (List ℕ)). by_answer h call a (lent_after a (lent call))) e,
)

-- ---- row 4: the tests of a record, and the calls that leave it

pub left_tells : (h : History) (session : Session) → LeftBy our_sessions h session → Tells h session
left_tells h session l =
    subst (λ (x : History). Tells x session) l.in_session
    (subst (λ (s : Session). Tells (history our_sessions l.start l.calls) s) l.leaves (record_tells l.start l.calls))

first_left : (session : Session) → awaits_first session ≡ true
    → LeftBy our_sessions (waits_first session.network (held_owners session) (first_vectors session.network)) session
first_left session e =
    let net = session.network in
    let owners = held_owners session in
    let vectors = first_vectors net in
    let told = awaits_first_is session e in
    let through = goes_through session (begin net owners vectors) vectors (begin_through net owners told.1) in record {
      start = session;
      calls = begin net owners vectors ∷ [];
      leaves = through.0 ∙ sym told.0;
      in_session = through.1 none ∙ ap (waits_first net owners) (front_written vectors vectors);
      begun = is_begun (waits_first net owners vectors) (λ z. omega arith);
    }

-- some net is unclear
after_some : (net : Network) (owners v1 r1 v2 nets : List ℕ) → length nets ≢ 0 → after_first net owners v1 r1 v2 nets
    ≡ waits_second net owners v1 r1 v2
after_some net owners v1 r1 v2 [] d = absurd (d refl)
after_some net owners v1 r1 v2 (i ∷ nets) d = refl

answered_some : (net : Network) (owners r1 nets : List ℕ) → length nets ≢ 0 → answered_by net owners r1 nets ≡ awaiting_second net owners r1
answered_some net owners r1 [] d = absurd (d refl)
answered_some net owners r1 (i ∷ nets) d = refl

module _ (session : Session) (e : awaits_second session ≡ true) where
  abbrev held_net : Network
  held_net = session.network

  abbrev held_board : List ℕ
  held_board = held_owners session

  abbrev held : List ℕ
  held = held_answers session

  abbrev vectors_one : List ℕ
  vectors_one = first_vectors held_net

  abbrev vectors_two : List ℕ
  vectors_two = second_vectors held_net held_board held

  abbrev call_one : Call
  call_one = begin held_net held_board vectors_one

  abbrev call_two : Call
  call_two = first held vectors_two

  told_second : WaitsForSecond session
  told_second = awaits_second_is session e

  through_one : ((our_sessions session call_one).session ≡ awaiting_first held_net held_board)
      × ((h : History) → extended h call_one (our_sessions session call_one)
      ≡ by_answer h call_one (full vectors_one) (lent_after (full vectors_one) vectors_one))
  through_one = goes_through session call_one vectors_one (begin_through held_net held_board told_second.board.admitted)

  through_two : ((our_sessions (awaiting_first held_net held_board) call_two).session
      ≡ our_new (awaiting_first held_net held_board) call_two)
      × ((h : History) → extended h call_two (our_sessions (awaiting_first held_net held_board) call_two)
      ≡ by_answer h call_two (full vectors_two) (lent_after (full vectors_two) vectors_two))
  through_two =
      goes_through (awaiting_first held_net held_board) call_two vectors_two
      (first_through held_net held_board held told_second.board.admitted told_second.one_a_vector told_second.no_high_bit)

  second_left : LeftBy our_sessions (waits_second held_net held_board vectors_one held vectors_two) session
  second_left = record {
    start = session;
    calls = call_one ∷ call_two ∷ [];
    leaves =
        ap (λ (s : Session). (our_sessions s call_two).session) through_one.0
        ∙ through_two.0
        ∙ ap (λ (owners : List ℕ). answered_by held_net owners held (unclear held_net owners held)) (owners_front held_board)
        ∙ answered_some held_net held_board held (unclear held_net held_board held) told_second.some_unclear
        ∙ sym told_second.is;
    in_session =
        ap₂ (λ (h : History) (s : Session). extended h call_two (our_sessions s call_two))
        (through_one.1 none ∙ ap (waits_first held_net held_board) (front_written vectors_one vectors_one))
        through_one.0
        ∙ through_two.1 (waits_first held_net held_board vectors_one)
        ∙ ap (λ (ws : List ℕ). after_first held_net held_board vectors_one held ws (unclear held_net held_board held))
        (front_written vectors_two vectors_two)
        ∙ after_some held_net held_board vectors_one held vectors_two (unclear held_net held_board held) told_second.some_unclear;
    begun = is_begun (waits_second held_net held_board vectors_one held vectors_two) (λ z. omega arith);
  }

awaits_of_first : (h : History) (session : Session) (answers list : List ℕ) → Tells h session
    → Awaits h (first answers list) → awaits_first session ≡ true
awaits_of_first h session answers list t (net, owners, v1, q) =
    let w : WaitsFirst net owners v1 session = subst (λ (x : History). Tells x session) q t in
    ap awaits_first w.is ∙ awaits_first_of net owners w.admitted

awaits_of_second : (h : History) (session : Session) (answers : List ℕ) → Tells h session → Awaits h (second answers)
    → awaits_second session ≡ true
awaits_of_second h session answers t (net, owners, v1, r1, v2, q) =
    let w : WaitsSecond net owners v1 r1 v2 session = subst (λ (x : History). Tells x session) q t in
    ap awaits_second w.is ∙ awaits net owners r1 w.admitted w.sized w.narrow w.some

pub row_four : RowFour our_sessions awaits_first awaits_second
row_four = record {
  first_answers = λ session answers list. (
    λ e. (
      waits_first session.network (held_owners session) (first_vectors session.network),
      first_left session e,
      (session.network, held_owners session, first_vectors session.network, refl),
    ),
    λ w. awaits_of_first w.0 session answers list (left_tells w.0 session w.1) w.2,
  );
  second_answers = λ session answers. (
    λ e. (
      waits_second (held_net session e) (held_board session e) (vectors_one session e) (held session e) (vectors_two session e),
      second_left session e,
      (held_net session e, held_board session e, vectors_one session e, held session e, vectors_two session e, refl),
    ),
    λ w. awaits_of_second w.0 session answers (left_tells w.0 session w.1) w.2,
  );
}

-- ---- one call

kept_if_refused : (session : Session) (call : Call) (number : ℕ) → our_answer session call ≡ refused number
    → (our_sessions session call).session ≡ session
unfolding stepped
kept_if_refused session call number e = ap (λ (a : Answer (List ℕ)). (stepped a (our_new session call) session).session) e

refused_four : (session : Session) (call : Call) → ¬ (IsBegin call)
    → ((h : History) → LeftBy our_sessions h session → ¬ (Awaits h call)) → our_answer session call ≡ refused 4
refused_four session (begin net owners list) other none! = absurd (other (net, owners, list, refl))
refused_four session (first answers list) other none! =
    first_refused session answers list
    (⊎_elim (λ e. let w = (row_four.first_answers session answers list).0 e in absurd (none! w.0 w.1 w.2))
    (λ e. e) (cases (awaits_first session)))
refused_four session (second answers) other none! =
    second_refused session answers
    (⊎_elim (λ e. let w = (row_four.second_answers session answers).0 e in absurd (none! w.0 w.1 w.2)) (λ e. e)
    (cases (awaits_second session)))

pub call_by_table : (session : Session) (call : Call) → CallByTable our_sessions session call
call_by_table session call = record {
  record_kept = λ number e. kept_if_refused session call number e;
  list_after = refl;
  begins = λ net owners list q. subst
      (λ (c : Call). ByTable (BeginRows net owners list) (λ words. words ≡ first_vectors net) (our_answer session c))
      (sym q) (begin_by_table session net owners list);
  in_session = λ h l. told_by_table h session call l.begun (left_tells h session l);
  no_session = λ other none!. refused_four session call other none!;
}

-- ---- after the list

pub ended : (h : History) (session : Session) → Tells h session → Ended h session
ended none session t = tt
ended (waits_first net owners v1) session t = tt
ended (waits_second net owners v1 r1 v2) session t = tt
ended (finished_first net owners v1 r1 v2) session t = t.reported
ended (finished_second net owners v1 r1 v2 r2) session t = t.reported

-- a response has no bit at or above m
response_low : (net : Network) (m : ℕ) (state vectors : List ℕ) → State net m net.nets state
    → ¬ (HighBit m (response net state vectors))
response_low net m state vectors of_class (t, l, high) =
    let low = rw of_class.size at ((response_is net state vectors).no_high_bit t l) in omega arith

module _ (net : Network) (owners v1 r1 v2 state : List ℕ) (session : Session) (t : WaitsSecond net owners v1 r1 v2 session)
    (of_class : State net (length owners) net.nets state)
    (gives : response net state v1 ≡ r1) where
  abbrev answers_two : List ℕ
  answers_two = response net state v2

  no_row : NoneHolds (SecondRows (waits_second net owners v1 r1 v2) answers_two)
  no_row = (
    λ d. d (response_is net state v2).one_a_vector,
    (response_low net (length owners) state v2 of_class, (λ no!. no! (state, (of_class, gives, refl)), tt)),
  )

  abbrev call : Call
  call = second answers_two

  accepts : our_answer session call ≡ full []
  accepts = go (our_answer session call)
      (told_by_table (waits_second net owners v1 r1 v2) session call
      (is_begun (waits_second net owners v1 r1 v2) (λ z. omega arith)) t)
    where
      go : (a : Answer (List ℕ))
          → ByTable (SecondRows (waits_second net owners v1 r1 v2) answers_two) (λ (words : List ℕ). words ≡ []) a
          → a ≡ full []
      go (refused number) b = absurd
          (table_not_refused (λ (words : List ℕ). words ≡ [])
          (SecondRows (waits_second net owners v1 r1 v2) answers_two) number no_row b)
      go (full words) b =
          ap full (table_full (λ (words : List ℕ). words ≡ []) (SecondRows (waits_second net owners v1 r1 v2) answers_two) words b)

  reported_same : take (length owners) (our_sessions session call).session.reaches ≡ state
  reported_same =
      let kept : Stopped (finished_second net owners v1 r1 v2 answers_two) net owners r1 (our_sessions session call).session =
      subst (λ (h : History). Tells h (our_sessions session call).session)
      ((goes_through session call [] accepts).1 (waits_second net owners v1 r1 v2))
      (call_tells (waits_second net owners v1 r1 v2) session call t) in
      sym (kept.reported.state.only state (of_class, gives, refl))

pub sessions : Sessions our_sessions
sessions start calls = record {
  each = λ before rest call q. call_by_table (record_after our_sessions start before) call;
  ended = ended (history our_sessions start calls) (record_after our_sessions start calls) (record_tells start calls);
  stays = λ net owners v1 r1 v2 state q of_class gives.
      let t : WaitsSecond net owners v1 r1 v2 (record_after our_sessions start calls) =
      subst (λ (h : History). Tells h (record_after our_sessions start calls)) q (record_tells start calls) in (
        accepts net owners v1 r1 v2 state (record_after our_sessions start calls) t of_class gives,
        reported_same net owners v1 r1 v2 state (record_after our_sessions start calls) t of_class gives,
      );
  stays_first = λ net owners v1 r1 v2 state q of_class gives.
      let t : Stopped (finished_first net owners v1 r1 v2) net owners r1 (record_after our_sessions start calls) =
      subst (λ (h : History). Tells h (record_after our_sessions start calls)) q (record_tells start calls) in
      sym (t.reported.state.only state (of_class, gives));
}

-- ---- the part to drive

front_is : (count : ℕ) (list : List ℕ) → Front count list (front count list)
front_is count list = go (leb count (length list)) refl
  where
    go : (b : Bool) → leb count (length list) ≡ b → Front count list (cond b (take count list) [])
    go true e = inl (leb-true _ _ e, refl)
    go false e = inr (leb-false _ _ e, refl)

step_two_not_one : ◌≢◌ {A = ℕ} 2 1
step_two_not_one e = omega arith

pub drives : Drives our_sessions to_drive
unfolding to_drive
drives session one two = record {
  step_one = λ net owners v1 l.
      let w : WaitsFirst net owners v1 session = left_tells (waits_first net owners v1) session l in
      rw (
        awaits_of_first (waits_first net owners v1) session [] [] w (net, owners, v1, refl),
        w.wrote,
        ap
            (λ (s : Session). s.network) w.is,
      ) (front_is (length (first_vectors net)) one);
  step_two = λ net owners v1 r1 v2 l.
      let w : WaitsSecond net owners v1 r1 v2 session = left_tells (waits_second net owners v1 r1 v2) session l in
      let held_same : held_answers session ≡ r1 = ap held_answers w.is ∙ held_of net owners r1 w.sized in
      let owners_same : held_owners session ≡ owners = ap held_owners w.is ∙ owners_front owners in
      rw (
        not_first session (λ e. step_two_not_one (sym (ap (λ (s : Session). s.step) w.is) ∙ e)),
        awaits_of_second
            (waits_second net owners v1 r1 v2) session [] w (net, owners, v1, r1, v2, refl),
        w.wrote_second,
        held_same,
        owners_same,
        ap
            (λ (s : Session). s.network) w.is,
      )
      (front_is (length (second_vectors net owners r1)) two);
  otherwise = λ no_first no_second. rw (
    ⊎_elim (λ e. absurd (no_first ((row_four.first_answers session [] []).0 e))) (λ e. e) (cases (awaits_first session)),
    ⊎_elim (λ e. absurd (no_second ((row_four.second_answers session []).0 e))) (λ e. e) (cases (awaits_second session)),
  );
}
