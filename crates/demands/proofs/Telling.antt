-- The record that our calls leave tells the session, and they answer by its rows.
use Rattle.std.proofs.Common.{ℕ, ◌+◌, ◌-◌, ◌≤◌, arith, ◌≡◌, refl, sym, ap, ap₂, ◌∙◌, subst, ◌≢◌, inl, ⊎_elim, Bool}
use Rattle.std.proofs.Common.{true, false, List, [], ◌∷◌, ◌++◌, length, length-append, replicate, eqb-true}
use lib.ListN.{get_or-append}
use lib.Seq.{drop-append_seam, take-append_seam}
use borrow.Author.Tests.{not-false}
use Rattle.words.specs.Answers.{Answer, refused, full, ByTable, NoneHolds, by_tests, Decides, Decided, lent_after}
use Rattle.words.specs.Bits.{at}
use Rattle.words.proofs.Tests.{cases, contrary, test_fails}
use Rattle.words.proofs.Answers.{tests_by_table, table_full, none_front, decided_append, let_through, front_written, refused_not_full}
use Rattle.network.specs.declared.Network.{Network}
use Rattle.network.specs.Reading.{extra_vectors, response}
use Rattle.network.specs.Rows.{BoardRows, AdmittedBoard, Row9, HighBit, Row12, board_tests, bad_response_count, has_high_bit, no_room}
use Rattle.network.proofs.Rows.{decides_board, decides_row_9, decides_high_bit, decides_row_12, nets_admitted}
use Rattle.network.proofs.Rows.{receivers_of_board, no_high_bit}
use Rattle.diagnosis.specs.ReadBack.{read_back, no_state_fits}
use Rattle.steps.specs.FirstStep.{word_length, first_vectors}
use Rattle.steps.specs.SecondStep.{unclear, second_vectors, session_vectors, fault_free_state}
use Rattle.steps.proofs.StepOneWords.{length_bounds, words_apart, first_size}
use Rattle.steps.proofs.BothSteps.{fits_parts, fits_both, second_size, second_none, both_read_back, both_fits}
use Rattle.steps.proofs.BothSteps.{fault_free_at, all_clear_fits, all_clear_only}
use Rattle.session.specs.declared.Session.{Session}
use Rattle.session.specs.Record.{awaiting_first, awaiting_second, finished, awaits_first, awaits_second}
use Rattle.session.specs.Calls.{stepped, begin_answer, first_answer, answered_by, second_answer}
use Rattle.session.proofs.Records.{owners_front, awaits_first_of, awaits_first_step, held_of, awaits_second_of, awaits_second_step}
use Rattle.demands.specs.SessionCalls.{Call, begin, first, second, lent, History, none, waits_first, waits_second}
use Rattle.demands.specs.SessionCalls.{finished_first, finished_second, after_first, accepted, by_answer}
use Rattle.demands.specs.SessionCalls.{extended, record_after, history_from, history, FitsAnswers, OnlyFit}
use Rattle.demands.specs.SessionCalls.{vectors_spent}
use Rattle.demands.specs.Demand3.{NotAwaited, BeginRows, FirstRows, SecondRows, CallRows, Written, Reported}
use Rattle.demands.specs.Programs.{our_answer, our_new, our_sessions}

-- ---- what the record tells of the session

pub record WaitsFirst (net : Network) (owners v1 : List ℕ) (session : Session) : Type 0 where
  pub admitted : AdmittedBoard net owners
  pub wrote : v1 ≡ first_vectors net
  pub is : session ≡ awaiting_first net owners

pub record WaitsSecond (net : Network) (owners v1 r1 v2 : List ℕ) (session : Session) : Type 0 where
  pub admitted : AdmittedBoard net owners
  pub wrote : v1 ≡ first_vectors net
  pub sized : length r1 ≡ word_length net
  pub narrow : ¬ (HighBit (length owners) r1)
  pub some : length (unclear net owners r1) ≢ 0
  pub wrote_second : v2 ≡ second_vectors net owners r1
  pub is : session ≡ awaiting_second net owners r1

pub record Stopped (h : History) (net : Network) (owners r1 : List ℕ) (session : Session) : Type 0 where
  pub step_three : session.step ≡ 3
  pub reported : Reported h net owners r1 session

abbrev pub Tells : History → Session → Type 0
Tells none session = Unit {0}
Tells (waits_first net owners v1) session = WaitsFirst net owners v1 session
Tells (waits_second net owners v1 r1 v2) session = WaitsSecond net owners v1 r1 v2 session
Tells (finished_first net owners v1 r1 v2) session = Stopped (finished_first net owners v1 r1 v2) net owners r1 session
Tells (finished_second net owners v1 r1 v2 r2) session = Stopped (finished_second net owners v1 r1 v2 r2) net owners r1 session

-- ---- tests and rows

-- tests that let a call through: its result
through : {A : Type 0} (rows : List (ℕ × Type 0)) (tests : List (ℕ × Bool)) (x y : A) → Decided rows tests
    → by_tests tests x ≡ full y → y ≡ x
through {A} rows tests x y d e =
    table_full (λ (z : A). z ≡ x) rows y
    (subst (λ (a : Answer A). ByTable rows (λ (z : A). z ≡ x) a) e
    (tests_by_table (λ (z : A). z ≡ x) rows tests x d (λ _. refl)))

begin_decided : (net : Network) (owners list : List ℕ)
    → Decided (BeginRows net owners list) (board_tests net owners ++ (12, no_room (length (first_vectors net)) (length list)) ∷ [])
begin_decided net owners list =
    let p = length (first_vectors net) in
    decided_append (BoardRows net owners) ((12, Row12 p (length list)) ∷ []) (board_tests net owners)
    ((12, no_room p (length list)) ∷ []) (decides_board net owners) (λ _. (refl, decides_row_12 p (length list), λ _. tt))

-- by the rows of begin
pub begin_by_table : (session : Session) (net : Network) (owners list : List ℕ)
    → ByTable (BeginRows net owners list) (λ words. words ≡ first_vectors net) (our_answer session (begin net owners list))
unfolding begin_answer
begin_by_table session net owners list =
    tests_by_table (λ words. words ≡ first_vectors net) (BeginRows net owners list) _ (first_vectors net)
    (begin_decided net owners list) (λ _. refl)

-- the tests of first answers after row 4
abbrev first_tests : Network → (owners answers list : List ℕ) → List (ℕ × Bool)
first_tests net owners answers list =
    (9, bad_response_count (length (first_vectors net)) (length answers))
    ∷ (10, has_high_bit (length owners) answers)
    ∷ (12, no_room (length (second_vectors net owners answers)) (length list))
    ∷ []

first_decided : (net : Network) (owners answers list : List ℕ)
    → Decided (FirstRows (waits_first net owners (first_vectors net)) answers list) (first_tests net owners answers list)
first_decided net owners answers list = (
  refl,
  decides_row_9 (length (first_vectors net)) (length answers),
  λ _. (
    refl,
    decides_high_bit (length owners) answers,
    λ _.
        (refl, decides_row_12 (length (second_vectors net owners answers)) (length list), λ _. tt),
  ),
)

-- row 4 alone
pub first_refused : (session : Session) (answers list : List ℕ) → awaits_first session ≡ false
    → our_answer session (first answers list) ≡ refused 4
unfolding first_answer by_tests
first_refused session answers list e = rw e

pub second_refused : (session : Session) (answers : List ℕ) → awaits_second session ≡ false
    → our_answer session (second answers) ≡ refused 4
unfolding second_answer by_tests
second_refused session answers e = rw e

first_passed : (net : Network) (owners answers list : List ℕ) → AdmittedBoard net owners
    → our_answer (awaiting_first net owners) (first answers list) ≡ by_tests (first_tests net owners answers list)
    (second_vectors net owners answers)
unfolding first_answer by_tests
first_passed net owners answers list good = rw (awaits_first_of net owners good, owners_front owners)

-- ---- second answers

abbrev second_tests : Network → (owners r1 answers : List ℕ) → List (ℕ × Bool)
second_tests net owners r1 answers =
    (9, bad_response_count (length (second_vectors net owners r1)) (length answers))
    ∷ (10, has_high_bit (length owners) answers)
    ∷ (14, no_state_fits net (length owners) net.nets (session_vectors net owners r1) (r1 ++ answers))
    ∷ []

module _ (net : Network) (owners r1 : List ℕ) (good : AdmittedBoard net owners) (sized : length r1 ≡ word_length net)
    (narrow : ¬ (HighBit (length owners) r1))
    (some : length (unclear net owners r1) ≢ 0) where
  pub awaits : awaits_second (awaiting_second net owners r1) ≡ true
  awaits =
      let b = nets_admitted net good.0 in
      awaits_second_of net owners r1 good sized (length_bounds net b.0 b.1).1
      (test_fails (decides_high_bit (length owners) r1) narrow) some

  second_passed : (answers : List ℕ) → our_answer (awaiting_second net owners r1) (second answers)
      ≡ by_tests (second_tests net owners r1 answers) []
  unfolding second_answer by_tests
  second_passed answers = rw (awaits, held_of net owners r1 sized, owners_front owners)

  abbrev both : List ℕ → History
  both answers = finished_second net owners (first_vectors net) r1 (second_vectors net owners r1) answers

  module _ (answers : List ℕ) (full_size : length answers ≡ length (second_vectors net owners r1))
      (no_high : ¬ (HighBit (length owners) answers)) where
    abbrev read : List ℕ
    read = read_back net (length owners) net.nets (session_vectors net owners r1) (r1 ++ answers)

    -- a state that fits is the one read back
    fits_read : (state : List ℕ) → FitsAnswers (both answers) state
        → (no_state_fits net (length owners) net.nets (session_vectors net owners r1) (r1 ++ answers) ≡ false) × (read ≡ state)
    fits_read state (of_class, one, two) =
        let b = nets_admitted net good.0 in
        both_read_back net (words_apart net b.0 b.1) owners (receivers_of_board net owners good) r1 answers state sized
        (fits_both net (first_vectors net) (second_vectors net owners r1) (length owners) net.nets r1 answers state
        (record { of_class = of_class; gives = one }) (record { of_class = of_class; gives = two }))

    read_fits : no_state_fits net (length owners) net.nets (session_vectors net owners r1) (r1 ++ answers) ≡ false
        → FitsAnswers (both answers) read
    read_fits e =
        let b = nets_admitted net good.0 in
        let f = both_fits net owners r1 answers sized full_size (no_high_bit (length owners) r1 narrow)
        (no_high_bit (length owners) answers no_high) e in
        let s = fits_parts net (first_vectors net) (second_vectors net owners r1) (length owners) net.nets r1 answers read
        (sized ∙ sym (first_size net)) f in (f.of_class, s.0.gives, s.1.gives)

    decides_row_14 : Decides (no_state_fits net (length owners) net.nets (session_vectors net owners r1) (r1 ++ answers))
        (¬ ((state : List ℕ) × FitsAnswers (both answers) state))
    decides_row_14 = (λ e w. contrary e (fits_read w.0 w.1).0, λ e no!. no! (read, read_fits e))

  as_many : (answers : List ℕ) → ¬ (Row9 (length (second_vectors net owners r1)) (length answers))
      → length answers ≡ length (second_vectors net owners r1)
  as_many answers h = eqb-true _ _ (not-false _ (test_fails (decides_row_9 (length (second_vectors net owners r1)) (length answers)) h))

  second_decided : (answers : List ℕ)
      → Decided (SecondRows (waits_second net owners (first_vectors net) r1 (second_vectors net owners r1)) answers)
      (second_tests net owners r1 answers)
  second_decided answers = (
    refl,
    decides_row_9 (length (second_vectors net owners r1)) (length answers),
    λ same. (refl, decides_high_bit (length owners) answers, λ low. (refl, decides_row_14 answers (as_many answers same) low, λ _. tt)),
  )

-- ---- the answer by the rows of the session

in_first : (net : Network) (owners answers list : List ℕ) → AdmittedBoard net owners
    → ByTable (FirstRows (waits_first net owners (first_vectors net)) answers list)
    (λ words. words ≡ second_vectors net owners answers) (our_answer (awaiting_first net owners) (first answers list))
in_first net owners answers list good =
    rw (first_passed net owners answers list good)
    (tests_by_table (λ words. words ≡ second_vectors net owners answers)
    (FirstRows (waits_first net owners (first_vectors net)) answers list) (first_tests net owners answers list)
    (second_vectors net owners answers) (first_decided net owners answers list) (λ _. refl))

in_second : (net : Network) (owners v1 r1 v2 answers : List ℕ) → WaitsSecond net owners v1 r1 v2 (awaiting_second net owners r1)
    → ByTable (SecondRows (waits_second net owners v1 r1 v2) answers) (λ words. words ≡ [])
    (our_answer (awaiting_second net owners r1) (second answers))
in_second net owners v1 r1 v2 answers w =
    rw (w.wrote, w.wrote_second, second_passed net owners r1 w.admitted w.sized w.narrow w.some answers)
    (tests_by_table (λ (words : List ℕ). words ≡ [])
    (SecondRows (waits_second net owners (first_vectors net) r1 (second_vectors net owners r1)) answers)
    (second_tests net owners r1 answers) []
    (second_decided net owners r1 w.admitted w.sized w.narrow w.some answers) (λ _. refl))

-- ---- what a record at each stage does not wait for

pub not_first : (session : Session) → session.step ≢ 1 → awaits_first session ≡ false
not_first session h = ⊎_elim (λ e. absurd (h (awaits_first_step session e))) (λ e. e) (cases (awaits_first session))

not_second : (session : Session) → session.step ≢ 2 → awaits_second session ≡ false
not_second session h = ⊎_elim (λ e. absurd (h (awaits_second_step session e))) (λ e. e) (cases (awaits_second session))

-- the step that a record of this session holds
abbrev pub step_of : History → ℕ
step_of none = 0
step_of (waits_first net owners v1) = 1
step_of (waits_second net owners v1 r1 v2) = 2
step_of (finished_first net owners v1 r1 v2) = 3
step_of (finished_second net owners v1 r1 v2 r2) = 3

pub is_begun : (h : History) → step_of h ≢ 0 → h ≢ none
is_begun h d e = d (ap step_of e)

pub step_told : (h : History) (session : Session) → h ≢ none → Tells h session → session.step ≡ step_of h
step_told none session begun t = absurd (begun refl)
step_told (waits_first net owners v1) session begun t = ap (λ (s : Session). s.step) t.is
step_told (waits_second net owners v1 r1 v2) session begun t = ap (λ (s : Session). s.step) t.is
step_told (finished_first net owners v1 r1 v2) session begun t = t.step_three
step_told (finished_second net owners v1 r1 v2 r2) session begun t = t.step_three

away_first : (h : History) (session : Session) (answers list : List ℕ) → h ≢ none → Tells h session → step_of h ≢ 1
    → our_answer session (first answers list) ≡ refused 4
away_first h session answers list begun t d =
    first_refused session answers list (not_first session (λ e. d (sym (step_told h session begun t) ∙ e)))

away_second : (h : History) (session : Session) (answers : List ℕ) → h ≢ none → Tells h session → step_of h ≢ 2
    → our_answer session (second answers) ≡ refused 4
away_second h session answers begun t d =
    second_refused session answers (not_second session (λ e. d (sym (step_told h session begun t) ∙ e)))

-- refused by row 4
by_row_4 : (result : List ℕ → Type 0) (a : Answer (List ℕ)) → a ≡ refused 4 → ByTable NotAwaited result a
by_row_4 result a e = inl (tt, e)

pub told_by_table : (h : History) (session : Session) (call : Call) → h ≢ none → Tells h session
    → ByTable (CallRows h call) (Written h call) (our_answer session call)
told_by_table h session (begin net owners list) begun t = begin_by_table session net owners list
told_by_table none session (first answers list) begun t = absurd (begun refl)
told_by_table (waits_first net owners v1) session (first answers list) begun t =
    rw (t.wrote, t.is) (in_first net owners answers list t.admitted)
told_by_table (waits_second net owners v1 r1 v2) session (first answers list) begun t =
    by_row_4 (λ (words : List ℕ). words ≡ []) (our_answer session (first answers list))
    (away_first (waits_second net owners v1 r1 v2) session answers list begun t (λ e. omega arith))
told_by_table (finished_first net owners v1 r1 v2) session (first answers list) begun t =
    by_row_4 (λ (words : List ℕ). words ≡ []) (our_answer session (first answers list))
    (away_first (finished_first net owners v1 r1 v2) session answers list begun t (λ e. omega arith))
told_by_table (finished_second net owners v1 r1 v2 r2) session (first answers list) begun t =
    by_row_4 (λ (words : List ℕ). words ≡ []) (our_answer session (first answers list))
    (away_first (finished_second net owners v1 r1 v2 r2) session answers list begun t (λ e. omega arith))
told_by_table none session (second answers) begun t = absurd (begun refl)
told_by_table (waits_first net owners v1) session (second answers) begun t =
    by_row_4 (λ (words : List ℕ). words ≡ []) (our_answer session (second answers))
    (away_second (waits_first net owners v1) session answers begun t (λ e. omega arith))
told_by_table (waits_second net owners v1 r1 v2) session (second answers) begun t =
    subst (λ (s : Session). ByTable (SecondRows (waits_second net owners v1 r1 v2) answers) (λ words. words ≡ [])
    (our_answer s (second answers))) (sym t.is)
    (in_second net owners v1 r1 v2 answers (subst (λ (s : Session). WaitsSecond net owners v1 r1 v2 s) t.is t))
told_by_table (finished_first net owners v1 r1 v2) session (second answers) begun t =
    by_row_4 (λ (words : List ℕ). words ≡ []) (our_answer session (second answers))
    (away_second (finished_first net owners v1 r1 v2) session answers begun t (λ e. omega arith))
told_by_table (finished_second net owners v1 r1 v2 r2) session (second answers) begun t =
    by_row_4 (λ (words : List ℕ). words ≡ []) (our_answer session (second answers))
    (away_second (finished_second net owners v1 r1 v2 r2) session answers begun t (λ e. omega arith))

-- ---- an accepted call

-- what a finished record reports
finished_reports : (h : History) (net : Network) (owners r1 state : List ℕ) (spent : ℕ) → length state ≡ length owners
    → OnlyFit h state → spent ≡ length (vectors_spent h)
    → (length (unclear net owners r1) ≡ 0 → (spent ≡ word_length net) × (state ≡ fault_free_state owners))
    → (length (unclear net owners r1) ≢ 0 → spent ≡ word_length net + length (unclear net owners r1) + length (extra_vectors net))
    → Stopped h net owners r1 (finished net owners state spent)
finished_reports h net owners r1 state spent size only count clear unclear! = record {
  step_three = refl;
  reported = record {
    network_held = refl;
    receivers_held = refl;
    owners_held = refl;
    state = rw (← size, take-append_seam state (replicate (64 - length state) 0)) only;
    nothing_more = rw (← size) (drop-append_seam state (replicate (64 - length state) 0));
    count = count;
    none_unclear = λ none!. (clear none!).0;
    own_drivers = λ none! i l. get_or-append state (replicate (64 - length state) 0) 0 i (rw size l)
        ∙ ap (λ (reaches : List ℕ). at reaches i) (clear none!).1 ∙ fault_free_at owners i l;
    some_unclear = unclear!;
  };
}

first_in : (net : Network) (owners v1 answers list words : List ℕ) → AdmittedBoard net owners → v1 ≡ first_vectors net
    → our_answer (awaiting_first net owners) (first answers list) ≡ full words
    → Tells (after_first net owners v1 answers words (unclear net owners answers))
    (our_new (awaiting_first net owners) (first answers list))
first_in net owners v1 answers list words good wrote e = rw (owners_front owners) (go (unclear net owners answers) refl)
  where
    past : by_tests (first_tests net owners answers list) (second_vectors net owners answers) ≡ full words
    past = sym (first_passed net owners answers list good) ∙ e

    free : NoneHolds (FirstRows (waits_first net owners (first_vectors net)) answers list)
    free = let_through (FirstRows (waits_first net owners (first_vectors net)) answers list) (first_tests net owners answers list)
        (second_vectors net owners answers) words (first_decided net owners answers list) past

    second_wrote : words ≡ second_vectors net owners answers
    second_wrote = through (FirstRows (waits_first net owners (first_vectors net)) answers list) (first_tests net owners answers list)
        (second_vectors net owners answers) words (first_decided net owners answers list) past

    sized : length answers ≡ word_length net
    sized = eqb-true _ _ (not-false _ (test_fails (decides_row_9 (length (first_vectors net)) (length answers)) free.0)) ∙ first_size net

    nets_low : 2 ≤ net.nets
    nets_low = (nets_admitted net good.0).0

    nets_high : net.nets ≤ 48
    nets_high = (nets_admitted net good.0).1

    go : (us : List ℕ) → unclear net owners answers ≡ us → Tells (after_first net owners v1 answers words us)
        (answered_by net owners answers us)
    go [] q =
        let clear : length (unclear net owners answers) ≡ 0 = ap length q in
        let nothing : second_vectors net owners answers ≡ [] = second_none net owners answers clear in
        let spent : length (session_vectors net owners answers) ≡ word_length net =
        length-append (first_vectors net) (second_vectors net owners answers)
        ∙ rw (nothing, first_size net) (omega arith) in
        let fits = all_clear_fits net (words_apart net nets_low nets_high) owners (receivers_of_board net owners good)
        answers clear sized (no_high_bit (length owners) answers free.1.0) in
        finished_reports (finished_first net owners v1 answers words) net owners answers (fault_free_state owners)
        (length (session_vectors net owners answers)) fits.of_class.size
        (record {
          fits = (fits.of_class, ap (response net (fault_free_state owners)) wrote ∙ fits.gives);
          only = λ other f. all_clear_only net (words_apart net nets_low nets_high) owners
              (receivers_of_board net owners good) answers clear other
              (record { of_class = f.0; gives = ap (response net other) (sym wrote) ∙ f.1 });
        })
        (rw (wrote, second_wrote)) (λ _. (spent, refl)) (λ d. absurd (d clear))
    go (i ∷ us) q = record {
      admitted = good;
      wrote = wrote;
      sized = sized;
      narrow = free.1.0;
      some = λ k. (let h = ap length q in omega arith);
      wrote_second = second_wrote;
      is = refl;
    }

second_in : (net : Network) (owners v1 r1 v2 answers words : List ℕ) → WaitsSecond net owners v1 r1 v2 (awaiting_second net owners r1)
    → our_answer (awaiting_second net owners r1) (second answers) ≡ full words
    → Stopped (finished_second net owners v1 r1 v2 answers) net owners r1 (our_new (awaiting_second net owners r1) (second answers))
second_in net owners v1 r1 v2 answers words w e = rw (held_of net owners r1 w.sized, owners_front owners) told
  where
    past : by_tests (second_tests net owners r1 answers) [] ≡ full words
    past = sym (second_passed net owners r1 w.admitted w.sized w.narrow w.some answers) ∙ e

    free : NoneHolds (SecondRows (waits_second net owners (first_vectors net) r1 (second_vectors net owners r1)) answers)
    free =
        let_through (SecondRows (waits_second net owners (first_vectors net) r1 (second_vectors net owners r1)) answers)
        (second_tests net owners r1 answers) [] words
        (second_decided net owners r1 w.admitted w.sized w.narrow w.some answers) past

    same : length answers ≡ length (second_vectors net owners r1)
    same = as_many net owners r1 w.admitted w.sized w.narrow w.some answers free.0

    state : List ℕ
    state = read net owners r1 w.admitted w.sized w.narrow w.some answers same free.1.0

    found : no_state_fits net (length owners) net.nets (session_vectors net owners r1) (r1 ++ answers) ≡ false
    found =
        test_fails (decides_row_14 net owners r1 w.admitted w.sized w.narrow w.some answers same free.1.0)
        free.1.1.0

    one : OnlyFit (both net owners r1 w.admitted w.sized w.narrow w.some answers) state
    one = record {
      fits = read_fits net owners r1 w.admitted w.sized w.narrow w.some answers same free.1.0 found;
      only = λ other f. sym (fits_read net owners r1 w.admitted w.sized w.narrow w.some answers same free.1.0 other f).1;
    }

    spent : length (session_vectors net owners r1) ≡ word_length net + length (unclear net owners r1) + length (extra_vectors net)
    spent = length-append (first_vectors net) (second_vectors net owners r1)
        ∙ (let a = first_size net in let b = second_size net owners r1 w.some in omega arith)

    told : Stopped (finished_second net owners v1 r1 v2 answers) net owners r1
        (finished net owners state (length (session_vectors net owners r1)))
    told =
        finished_reports (finished_second net owners v1 r1 v2 answers) net owners r1 state
        (length (session_vectors net owners r1)) one.fits.0.size
        (subst (λ (h : History). OnlyFit h state)
        (ap₂ (λ (x y : List ℕ). finished_second net owners x r1 y answers) (sym w.wrote)
        (sym w.wrote_second)) one)
        (rw (w.wrote, w.wrote_second)) (λ c. absurd (w.some c)) (λ _. spent)

pub begin_in : (session : Session) (net : Network) (owners list words : List ℕ) → our_answer session (begin net owners list) ≡ full words
    → WaitsFirst net owners words (awaiting_first net owners)
unfolding begin_answer
begin_in session net owners list words e = record {
  admitted = none_front (BoardRows net owners) ((12, Row12 (length (first_vectors net)) (length list)) ∷ [])
      (let_through (BeginRows net owners list) _ (first_vectors net) words (begin_decided net owners list) e);
  wrote = through (BeginRows net owners list) _ (first_vectors net) words (begin_decided net owners list) e;
  is = refl;
}

accepted_tells : (h : History) (session : Session) (call : Call) (words : List ℕ) → our_answer session call ≡ full words → Tells h session
    → Tells (accepted h call words) (our_new session call)
accepted_tells h session (begin net owners list) words e t = begin_in session net owners list words e
accepted_tells none session (first answers list) words e t = tt
accepted_tells (waits_first net owners v1) session (first answers list) words e t =
    subst
    (λ (s : Session). our_answer s (first answers list) ≡ full words
    → Tells (accepted (waits_first net owners v1) (first answers list) words) (our_new s (first answers list)))
    (sym t.is) (first_in net owners v1 answers list words t.admitted t.wrote) e
accepted_tells (waits_second net owners v1 r1 v2) session (first answers list) words e t =
    refused_not_full (away_first (waits_second net owners v1 r1 v2) session answers list
    (is_begun (waits_second net owners v1 r1 v2) (λ z. omega arith)) t (λ q. omega arith)) e
accepted_tells (finished_first net owners v1 r1 v2) session (first answers list) words e t =
    refused_not_full (away_first (finished_first net owners v1 r1 v2) session answers list
    (is_begun (finished_first net owners v1 r1 v2) (λ z. omega arith)) t (λ q. omega arith)) e
accepted_tells (finished_second net owners v1 r1 v2 r2) session (first answers list) words e t =
    refused_not_full (away_first (finished_second net owners v1 r1 v2 r2) session answers list
    (is_begun (finished_second net owners v1 r1 v2 r2) (λ z. omega arith)) t (λ q. omega arith)) e
accepted_tells none session (second answers) words e t = tt
accepted_tells (waits_first net owners v1) session (second answers) words e t =
    refused_not_full (away_second (waits_first net owners v1) session answers
    (is_begun (waits_first net owners v1) (λ z. omega arith)) t (λ q. omega arith)) e
accepted_tells (waits_second net owners v1 r1 v2) session (second answers) words e t =
    subst
    (λ (s : Session). our_answer s (second answers) ≡ full words
    → Stopped (finished_second net owners v1 r1 v2 answers) net owners r1 (our_new s (second answers)))
    (sym t.is) (second_in net owners v1 r1 v2 answers words (subst (λ (s : Session). WaitsSecond net owners v1 r1 v2 s) t.is t)) e
accepted_tells (finished_first net owners v1 r1 v2) session (second answers) words e t =
    refused_not_full (away_second (finished_first net owners v1 r1 v2) session answers
    (is_begun (finished_first net owners v1 r1 v2) (λ z. omega arith)) t (λ q. omega arith)) e
accepted_tells (finished_second net owners v1 r1 v2 r2) session (second answers) words e t =
    refused_not_full (away_second (finished_second net owners v1 r1 v2 r2) session answers
    (is_begun (finished_second net owners v1 r1 v2 r2) (λ z. omega arith)) t (λ q. omega arith)) e

-- ---- every call keeps it

pub call_tells : (h : History) (session : Session) (call : Call) → Tells h session
    → Tells (extended h call (our_sessions session call)) (our_sessions session call).session
unfolding stepped
call_tells h session call t = go (our_answer session call) refl
  where
    go : (a : Answer (List ℕ)) → our_answer session call ≡ a
        → Tells (by_answer h call a (lent_after a (lent call))) (stepped a (our_new session call) session).session
    go (refused number) e = t
    go (full words) e = rw (front_written words (lent call)) (accepted_tells h session call words e t)

calls_tell : (h : History) (session : Session) (calls : List Call) → Tells h session
    → Tells (history_from our_sessions h session calls) (record_after our_sessions session calls)
calls_tell h session [] t = t
calls_tell h session (call ∷ calls) t =
    calls_tell (extended h call (our_sessions session call)) (our_sessions session call).session calls (call_tells h session call t)

pub record_tells : (start : Session) (calls : List Call) → Tells (history our_sessions start calls) (record_after our_sessions start calls)
record_tells start calls = calls_tell none start calls tt
