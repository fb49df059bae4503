use Rattle.std.proofs.Common.{◌≡◌, refl, sym, ap, ◌∙◌, Bool, true, false, arith, ℕ, List, [], ◌++◌, ◌+◌, length}
use Rattle.std.proofs.Common.{length-append}
use Rattle.std.proofs.lemmas.Result.{err_from_is_err_and}
use Rattle.std.proofs.lemmas.Option.{MatchOption-at_some, MatchOption-at_none}
use Rattle.words.specs.Answers.{refused, full, by_tests, lent_after}
use Rattle.network.specs.declared.Network.{Network}
use Rattle.network.specs.declared.refusal.Refusal.TheVariants.{Record, NoStateFits}
use Rattle.network.specs.Rows.{bad_response_count, has_high_bit}
use Rattle.network.proofs.Rows.{decides_high_bit}
use Rattle.diagnosis.specs.ReadBack.{read_back, no_state_fits}
use Rattle.steps.specs.FirstStep.{first_vectors}
use Rattle.steps.specs.SecondStep.{second_vectors, session_vectors}
use Rattle.steps.proofs.StepOneWords.{first_size}
use Rattle.session.specs.declared.Session.{Session}
use Rattle.session.specs.declared.record.Asked.{Asked}
use Rattle.session.specs.Record.{finished, held_owners, held_answers, awaits_second}
use Rattle.session.specs.Calls.{second_answer, vectors_driven, all_answers}
use Rattle.session.proofs.Records.{awaits_second_board}
use Rattle.session.proofs.Stepping.{step_refused, step_full, none_code, count_told, width_told, same_for, asked_told}
use Rattle.session.proofs.second_step.Goals as goal

-- ---- the answer, row by row

abbrev asked : Session → List ℕ
asked session = second_vectors session.network (held_owners session) (held_answers session)

abbrev none_fits : Session → List ℕ → Bool
none_fits session answers =
    no_state_fits session.network (length (held_owners session)) session.network.nets (vectors_driven session)
    (all_answers session answers)

abbrev state_read : Session → List ℕ → List ℕ
state_read session answers =
    read_back session.network (length (held_owners session)) session.network.nets (vectors_driven session)
    (all_answers session answers)

module _ (session : Session) (answers : List ℕ) where
  row_4 : awaits_second session ≡ false → second_answer session answers ≡ refused 4
  unfolding second_answer by_tests
  row_4 e = rw e

  module _ (waits : awaits_second session ≡ true) where
    row_9 : bad_response_count (length (asked session)) (length answers) ≡ true
        → second_answer session answers ≡ refused 9
    unfolding second_answer by_tests
    row_9 e = rw (waits, e)

    module _ (nine : bad_response_count (length (asked session)) (length answers) ≡ false) where
      row_10 : has_high_bit (length (held_owners session)) answers ≡ true → second_answer session answers ≡ refused 10
      unfolding second_answer by_tests
      row_10 e = rw (waits, nine, e)

      module _ (ten : has_high_bit (length (held_owners session)) answers ≡ false) where
        row_14 : none_fits session answers ≡ true → second_answer session answers ≡ refused 14
        unfolding second_answer by_tests
        row_14 e = rw (waits, nine, ten, e)

        accepted : none_fits session answers ≡ false → second_answer session answers ≡ full []
        unfolding second_answer by_tests
        accepted e = rw (waits, nine, ten, e)

-- the record after accepted answers
abbrev new_record : Session → List ℕ → Session
new_record session answers =
    finished session.network (held_owners session) (state_read session answers) (length (vectors_driven session))

-- whether a state fits, and which is read back, by nets, receivers and first answers
abbrev none_for : List ℕ → Network → (owners first : List ℕ) → Bool
none_for answers net owners first =
    no_state_fits net (length owners) net.nets (session_vectors net owners first) (first ++ answers)

abbrev read_for : List ℕ → Network → (owners first : List ℕ) → List ℕ
read_for answers net owners first =
    read_back net (length owners) net.nets (session_vectors net owners first) (first ++ answers)

-- a list to which nothing is written
nothing : (list : List ℕ) → lent_after (full []) list ≡ list
unfolding lent_after
nothing list = refl

-- the number of vectors spent
spent_is : (session : Session) (asked : Asked) {count : ℕ} → asked.board.nets.network ≡ session.network
    → count ≡ length (second_vectors session.network (held_owners session) (held_answers session))
    → length asked.first.now + count ≡ length (vectors_driven session)
spent_is session asked net_is count =
    omega (
      arith,
      asked.one_a_word ∙ sym (first_size asked.board.nets.network) ∙ ap (λ (net : Network). length (first_vectors net)) net_is,
      count,
      length-append (first_vectors session.network)
          (second_vectors session.network (held_owners session) (held_answers session)),
    )

-- ---- the answers

pub returns-in_err-asked : goal.returns-in_err-asked
returns-in_err-asked c =
    let s = c.args.session in
    let answers = c.args.answers.now in
    let p = err_from_is_err_and c.from_residual.result c.from_residual.ensures.1 in
    let row = c.in_err-asked.ensures in
    let waits = MatchOption-at_none _ _ row.ok_part c.waiting_for_second.ensures in
    let owed = step_refused (second_answer s answers) (new_record s answers) s [] (row_4 s answers waits) in
    record { session = rw p.1 owed.0; code = rw (p.1, p.2, none_code Record row.value row.ok_part) owed.1.0 }

pub returns-in_err-refuse_if : goal.returns-in_err-refuse_if
returns-in_err-refuse_if c =
    let s = c.args.session in
    let answers = c.args.answers.now in
    let p = err_from_is_err_and c.from_residual-in_err-refuse_if.result c.from_residual-in_err-refuse_if.ensures.1 in
    let held = MatchOption-at_some _ _ _ c.in_ok-asked.ensures.ok_part c.waiting_for_second.ensures in
    let count = c.len-count.ensures.value ∙ ap length (asked_told s c.in_ok-asked.asked held.1 held.2 held.3) in
    let refused = c.in_err-refuse_if.ensures.refused in
    let test = count_told (length answers) count c.bad_response_count-bad_count.ensures ∙ refused.1 in
    let owed = step_refused (second_answer s answers) (new_record s answers) s [] (row_9 s answers held.0 test) in
    record { session = rw p.1 owed.0; code = rw (p.1, p.2, refused.0) owed.1.0 }

pub has_high_bit-high_bit-requires : goal.has_high_bit-high_bit-requires
has_high_bit-high_bit-requires c =
    let held = MatchOption-at_some _ _ _ c.in_ok-asked.ensures.ok_part c.waiting_for_second.ensures in
    (awaits_second_board c.args.session held.0).few

pub returns-in_err-refuse_if-2 : goal.returns-in_err-refuse_if-2
returns-in_err-refuse_if-2 c =
    let s = c.args.session in
    let answers = c.args.answers.now in
    let p = err_from_is_err_and c.from_residual-in_err-refuse_if-2.result c.from_residual-in_err-refuse_if-2.ensures.1 in
    let held = MatchOption-at_some _ _ _ c.in_ok-asked.ensures.ok_part c.waiting_for_second.ensures in
    let count = c.len-count.ensures.value ∙ ap length (asked_told s c.in_ok-asked.asked held.1 held.2 held.3) in
    let nine = count_told (length answers) count c.bad_response_count-bad_count.ensures ∙ c.in_ok-refuse_if.ensures.passed in
    let refused = c.in_err-refuse_if-2.ensures.refused in
    let test = width_told answers (awaits_second_board s held.0) c.has_high_bit-high_bit.ensures ∙ refused.1 in
    let owed = step_refused (second_answer s answers) (new_record s answers) s [] (row_10 s answers held.0 nine test) in
    record { session = rw p.1 owed.0; code = rw (p.1, p.2, refused.0) owed.1.0 }

pub settled-requires : goal.settled-requires
settled-requires c =
    let s = c.args.session in
    let answers = c.args.answers.now in
    let held = MatchOption-at_some _ _ _ c.in_ok-asked.ensures.ok_part c.waiting_for_second.ensures in
    let ten : has_high_bit (length c.in_ok-asked.asked.board.receivers.now) answers ≡ false =
    ap (λ (owners : List ℕ). has_high_bit (length owners) answers) held.2
    ∙ width_told answers (awaits_second_board s held.0) c.has_high_bit-high_bit.ensures ∙ c.in_ok-refuse_if-2.ensures.passed
    in
    (c.in_ok-asked.asked.narrow, (decides_high_bit (length c.in_ok-asked.asked.board.receivers.now) answers).1 ten)

pub returns-in_err-state : goal.returns-in_err-state
returns-in_err-state c =
    let s = c.args.session in
    let answers = c.args.answers.now in
    let p = err_from_is_err_and c.from_residual-in_err-state.result c.from_residual-in_err-state.ensures.1 in
    let held = MatchOption-at_some _ _ _ c.in_ok-asked.ensures.ok_part c.waiting_for_second.ensures in
    let count = c.len-count.ensures.value ∙ ap length (asked_told s c.in_ok-asked.asked held.1 held.2 held.3) in
    let nine = count_told (length answers) count c.bad_response_count-bad_count.ensures ∙ c.in_ok-refuse_if.ensures.passed in
    let ten = width_told answers (awaits_second_board s held.0) c.has_high_bit-high_bit.ensures ∙ c.in_ok-refuse_if-2.ensures.passed in
    let row = c.in_err-state.ensures in
    let none = MatchOption-at_none _ _ row.ok_part c.settled.ensures in
    let test = sym (same_for (none_for answers) held.1 held.2 held.3) ∙ none in
    let owed = step_refused (second_answer s answers) (new_record s answers) s [] (row_14 s answers held.0 nine ten test) in
    record { session = rw p.1 owed.0; code = rw (p.1, p.2, none_code NoStateFits row.value row.ok_part) owed.1.0 }

pub returns : goal.returns
returns c =
    let s = c.args.session in
    let answers = c.args.answers.now in
    let held = MatchOption-at_some _ _ _ c.in_ok-asked.ensures.ok_part c.waiting_for_second.ensures in
    let count = c.len-count.ensures.value ∙ ap length (asked_told s c.in_ok-asked.asked held.1 held.2 held.3) in
    let nine = count_told (length answers) count c.bad_response_count-bad_count.ensures ∙ c.in_ok-refuse_if.ensures.passed in
    let ten = width_told answers (awaits_second_board s held.0) c.has_high_bit-high_bit.ensures ∙ c.in_ok-refuse_if-2.ensures.passed in
    let state = MatchOption-at_some _ _ _ c.in_ok-state.ensures.ok_part c.settled.ensures in
    let test = sym (same_for (none_for answers) held.1 held.2 held.3) ∙ state.0 in
    let read = c.as_slice-2.ensures.value ∙ state.1 ∙ same_for (read_for answers) held.1 held.2 held.3 in
    let new = c.finished.ensures
    ∙ same_for (λ net owners reaches. finished net owners reaches (length c.in_ok-asked.asked.first.now + c.len-count.result))
    held.1 held.2 read
    ∙ ap (finished s.network (held_owners s) (state_read s answers)) (spent_is s c.in_ok-asked.asked held.1 count) in
    let owed = step_full (second_answer s answers) (new_record s answers) s c.finished.result [] [] []
    (accepted s answers held.0 nine ten test) new (sym (nothing [])) in
    record { session = owed.0; code = owed.1.0 }
