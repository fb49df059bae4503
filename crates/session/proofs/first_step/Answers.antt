use Rattle.std.proofs.Common.{◌≡◌, sym, ap, ap₂, ◌∙◌, true, false, arith, ℕ, List, length, eqb-true}
use Rattle.std.proofs.lemmas.Result.{err_from_is_err_and}
use Rattle.std.proofs.lemmas.Option.{MatchOption-at_some, MatchOption-at_none}
use borrow.Author.Tests.{not-false}
use Rattle.words.specs.Answers.{refused, full, by_tests, lent_after}
use Rattle.network.specs.declared.Network.{Network}
use Rattle.network.specs.declared.refusal.Refusal.TheVariants.{Record}
use Rattle.network.specs.Rows.{bad_response_count, has_high_bit, no_room}
use Rattle.steps.specs.FirstStep.{word_length}
use Rattle.steps.specs.SecondStep.{unclear, second_vectors}
use Rattle.steps.proofs.StepOneWords.{length_bounds, first_size}
use Rattle.session.specs.declared.Session.{Session}
use Rattle.session.specs.Record.{held_owners, awaits_first}
use Rattle.session.specs.Calls.{first_answer, answered_by}
use Rattle.session.proofs.Records.{awaits_first_board}
use Rattle.session.proofs.Stepping.{step_refused, step_full, none_code, count_told, width_told, room_told}
use Rattle.session.proofs.first_step.Goals as goal

-- ---- the answer, row by row

module _ (session : Session) (answers : List ℕ) (room : ℕ) where
  row_4 : awaits_first session ≡ false → first_answer session answers room ≡ refused 4
  unfolding first_answer by_tests
  row_4 e = rw e

  module _ (waits : awaits_first session ≡ true) where
    row_9 : bad_response_count (word_length session.network) (length answers) ≡ true
        → first_answer session answers room ≡ refused 9
    unfolding first_answer by_tests
    row_9 e = rw (waits, first_size session.network, e)

    module _ (nine : bad_response_count (word_length session.network) (length answers) ≡ false) where
      row_10 : has_high_bit (length (held_owners session)) answers ≡ true
          → first_answer session answers room ≡ refused 10
      unfolding first_answer by_tests
      row_10 e = rw (waits, first_size session.network, nine, e)

      module _ (ten : has_high_bit (length (held_owners session)) answers ≡ false) where
        row_12 : no_room (length (second_vectors session.network (held_owners session) answers)) room ≡ true
            → first_answer session answers room ≡ refused 12
        unfolding first_answer by_tests
        row_12 e = rw (waits, first_size session.network, nine, ten, e)

        accepted : no_room (length (second_vectors session.network (held_owners session) answers)) room ≡ false
            → first_answer session answers room ≡ full (second_vectors session.network (held_owners session) answers)
        unfolding first_answer by_tests
        accepted e = rw (waits, first_size session.network, nine, ten, e)

-- the record after accepted answers
abbrev new_record : Session → List ℕ → Session
new_record session answers =
    answered_by session.network (held_owners session) answers
    (unclear session.network (held_owners session) answers)

-- ---- the answers

pub returns-in_err-board : goal.returns-in_err-board
returns-in_err-board c =
    let s = c.args.session in
    let answers = c.args.answers.now in
    let list = c.args.list.now in
    let p = err_from_is_err_and c.from_residual.result c.from_residual.ensures.1 in
    let row = c.in_err-board.ensures in
    let waits = MatchOption-at_none _ _ row.ok_part c.waiting_for_first.ensures in
    let owed = step_refused (first_answer s answers (length list)) (new_record s answers) s list
    (row_4 s answers (length list) waits) in
    record { session = rw p.1 owed.0; code = rw (p.1, p.2, none_code Record row.value row.ok_part) owed.1.0; list = owed.1.1 }

pub returns-in_err-refuse_if : goal.returns-in_err-refuse_if
returns-in_err-refuse_if c =
    let s = c.args.session in
    let answers = c.args.answers.now in
    let list = c.args.list.now in
    let p = err_from_is_err_and c.from_residual-in_err-refuse_if.result c.from_residual-in_err-refuse_if.ensures.1 in
    let held = MatchOption-at_some _ _ _ c.in_ok-board.ensures.ok_part c.waiting_for_first.ensures in
    let refused = c.in_err-refuse_if.ensures.refused in
    let test = count_told (length answers) (c.word_length-p.ensures ∙ ap word_length held.1) c.bad_response_count-bad_count.ensures
    ∙ refused.1 in
    let owed = step_refused (first_answer s answers (length list)) (new_record s answers) s list
    (row_9 s answers (length list) held.0 test) in
    record { session = rw p.1 owed.0; code = rw (p.1, p.2, refused.0) owed.1.0; list = owed.1.1 }

pub has_high_bit-high_bit-requires : goal.has_high_bit-high_bit-requires
has_high_bit-high_bit-requires c =
    let held = MatchOption-at_some _ _ _ c.in_ok-board.ensures.ok_part c.waiting_for_first.ensures in
    (awaits_first_board c.args.session held.0).few

pub returns-in_err-refuse_if-2 : goal.returns-in_err-refuse_if-2
returns-in_err-refuse_if-2 c =
    let s = c.args.session in
    let answers = c.args.answers.now in
    let list = c.args.list.now in
    let p = err_from_is_err_and c.from_residual-in_err-refuse_if-2.result c.from_residual-in_err-refuse_if-2.ensures.1 in
    let held = MatchOption-at_some _ _ _ c.in_ok-board.ensures.ok_part c.waiting_for_first.ensures in
    let nine = count_told (length answers) (c.word_length-p.ensures ∙ ap word_length held.1) c.bad_response_count-bad_count.ensures
    ∙ c.in_ok-refuse_if.ensures.passed in
    let refused = c.in_err-refuse_if-2.ensures.refused in
    let test = width_told answers (awaits_first_board s held.0) c.has_high_bit-high_bit.ensures ∙ refused.1 in
    let owed = step_refused (first_answer s answers (length list)) (new_record s answers) s list
    (row_10 s answers (length list) held.0 nine test) in
    record { session = rw p.1 owed.0; code = rw (p.1, p.2, refused.0) owed.1.0; list = owed.1.1 }

pub second_vectors-vectors-requires : goal.second_vectors-vectors-requires
second_vectors-vectors-requires c =
    let nets = c.in_ok-board.board.nets in
    let many : length c.args.answers.now ≡ c.word_length-p.result =
    eqb-true _ _ (not-false _ (sym c.bad_response_count-bad_count.ensures ∙ c.in_ok-refuse_if.ensures.passed)) in
    omega (arith, many, c.word_length-p.ensures, length_bounds nets.network c.in_ok-board.board.two nets.few)

pub returns-in_err-refuse_if-3 : goal.returns-in_err-refuse_if-3
returns-in_err-refuse_if-3 c =
    let s = c.args.session in
    let answers = c.args.answers.now in
    let list = c.args.list.now in
    let p = err_from_is_err_and c.from_residual-in_err-refuse_if-3.result c.from_residual-in_err-refuse_if-3.ensures.1 in
    let held = MatchOption-at_some _ _ _ c.in_ok-board.ensures.ok_part c.waiting_for_first.ensures in
    let nine = count_told (length answers) (c.word_length-p.ensures ∙ ap word_length held.1) c.bad_response_count-bad_count.ensures
    ∙ c.in_ok-refuse_if.ensures.passed in
    let ten = width_told answers (awaits_first_board s held.0) c.has_high_bit-high_bit.ensures ∙ c.in_ok-refuse_if-2.ensures.passed in
    let vectors = c.second_vectors-vectors.ensures
    ∙ ap₂ (λ (net : Network) (owners : List ℕ). second_vectors net owners answers) held.1 held.2 in
    let refused = c.in_err-refuse_if-3.ensures.refused in
    let test = room_told (length list) (c.len.ensures.value ∙ ap length vectors) c.no_room-no_room.ensures ∙ refused.1 in
    let owed = step_refused (first_answer s answers (length list)) (new_record s answers) s list
    (row_12 s answers (length list) held.0 nine ten test) in
    record { session = rw p.1 owed.0; code = rw (p.1, p.2, refused.0) owed.1.0; list = owed.1.1 }

pub returns : goal.returns
returns c =
    let s = c.args.session in
    let answers = c.args.answers.now in
    let list = c.args.list.now in
    let held = MatchOption-at_some _ _ _ c.in_ok-board.ensures.ok_part c.waiting_for_first.ensures in
    let nine = count_told (length answers) (c.word_length-p.ensures ∙ ap word_length held.1) c.bad_response_count-bad_count.ensures
    ∙ c.in_ok-refuse_if.ensures.passed in
    let ten = width_told answers (awaits_first_board s held.0) c.has_high_bit-high_bit.ensures ∙ c.in_ok-refuse_if-2.ensures.passed in
    let vectors = c.second_vectors-vectors.ensures
    ∙ ap₂ (λ (net : Network) (owners : List ℕ). second_vectors net owners answers) held.1 held.2 in
    let test = room_told (length list) (c.len.ensures.value ∙ ap length vectors) c.no_room-no_room.ensures
    ∙ c.in_ok-refuse_if-3.ensures.passed in
    let new = c.answered.ensures
    ∙ ap₂ (λ (net : Network) (owners : List ℕ). answered_by net owners answers (unclear net owners answers)) held.1 held.2 in
    let owed = step_full (first_answer s answers (length list)) (new_record s answers) s c.answered.result
    (second_vectors s.network (held_owners s) answers) list c.copy_words.new.out
    (accepted s answers (length list) held.0 nine ten test) new
    (c.copy_words.ensures ∙ ap (λ (words : List ℕ). lent_after (full words) list) (c.as_slice.ensures.value ∙ vectors))
    in
    record { session = owed.0; code = owed.1.0; list = owed.1.1 }
