use Rattle.std.proofs.Common.{ℕ, ◌≡◌, true, false, List, length, sym, ap, ◌∙◌, ltb-false, eqb-true}
use Rattle.std.proofs.lemmas.Bool.{not-false}
use Rattle.std.proofs.lemmas.Result.{err_from_is_err_and}
use Rattle.words.specs.Answers.{refused, full, by_tests}
use Rattle.words.proofs.Answers.{owed_refused}
use Rattle.network.specs.declared.Network.{Network}
use Rattle.network.specs.Rows.{board_admission, bad_response_count, has_high_bit, no_room}
use Rattle.network.proofs.Rows.{board_set_refuses, board_set_admits, board_set_none_holds, receivers_of_board_set, decides_high_bit}
use Rattle.checker.specs.Passed.{is_pass, passes}
use Rattle.diagnosis.specs.ReadBack.{read_back}
use Rattle.diagnosis.specs.Diagnosis.{own_tests, fit_answer, diagnosis_answer}
use Rattle.diagnosis.proofs.diagnose.Goals as goal

-- the answer where the rows of a test set refuse, and by the call's own rows where they do not
module _ (net : Network) (owners : List ℕ) (k : ℕ) (vectors responses lent : List ℕ) where
  by_set : (number : ℕ) → board_admission net owners k vectors ≡ refused number
      → diagnosis_answer net owners k vectors responses (length lent) ≡ refused number
  unfolding diagnosis_answer
  by_set number e = board_set_refuses net owners k vectors
      (own_tests net (length owners) k vectors responses (length lent))
      (read_back net (length owners) k vectors responses) number e

  module _ (admitted : board_admission net owners k vectors ≡ full tt) where
    by_own : diagnosis_answer net owners k vectors responses (length lent)
        ≡ by_tests (own_tests net (length owners) k vectors responses (length lent))
        (read_back net (length owners) k vectors responses)
    unfolding diagnosis_answer
    by_own = board_set_admits net owners k vectors (own_tests net (length owners) k vectors responses (length lent))
        (read_back net (length owners) k vectors responses) admitted

    by_row_9 : bad_response_count (length vectors) (length responses) ≡ true
        → diagnosis_answer net owners k vectors responses (length lent) ≡ refused 9
    unfolding by_tests
    by_row_9 e = by_own ∙ rw e

    module _ (nine : bad_response_count (length vectors) (length responses) ≡ false) where
      by_row_10 : has_high_bit (length owners) responses ≡ true
          → diagnosis_answer net owners k vectors responses (length lent) ≡ refused 10
      unfolding by_tests
      by_row_10 e = by_own ∙ rw (nine, e)

      module _ (ten : has_high_bit (length owners) responses ≡ false) where
        by_row_12 : no_room (length owners) (length lent) ≡ true
            → diagnosis_answer net owners k vectors responses (length lent) ≡ refused 12
        unfolding by_tests
        by_row_12 e = by_own ∙ rw (nine, ten, e)

        module _ (twelve : no_room (length owners) (length lent) ≡ false) where
          by_row_13 : passes net k vectors ≡ false
              → diagnosis_answer net owners k vectors responses (length lent) ≡ refused 13
          unfolding by_tests
          by_row_13 e = by_own ∙ rw (nine, ten, twelve, e)

          by_fit : passes net k vectors ≡ true
              → diagnosis_answer net owners k vectors responses (length lent)
              ≡ fit_answer net (length owners) k vectors responses
          unfolding by_tests fit_answer
          by_fit e = by_own ∙ rw (nine, ten, twelve, e)

pub returns-in_err-board : goal.returns-in_err-board
returns-in_err-board c =
    let a = c.args in
    let p = err_from_is_err_and c.from_residual.result c.from_residual.ensures.1 in
    let owed = owed_refused _ _ a.out.now
    (by_set a.net a.receivers.now a.class a.vectors.now a.responses.now a.out.now _ (sym c.in_err-board.ensures.rows)) in
    record { answer = rw (p.1, p.2) owed.0; list = owed.1 }

pub returns-in_err-refuse_if : goal.returns-in_err-refuse_if
returns-in_err-refuse_if c =
    let a = c.args in
    let p = err_from_is_err_and c.from_residual-in_err-refuse_if.result c.from_residual-in_err-refuse_if.ensures.1 in
    let refused = c.in_err-refuse_if.ensures.refused in
    let owed = owed_refused _ 9 a.out.now
    (by_row_9 a.net a.receivers.now a.class a.vectors.now a.responses.now a.out.now (sym c.in_ok-board.ensures.rows)
    (sym c.bad_response_count.ensures ∙ refused.1)) in
    record { answer = rw (p.1, p.2, refused.0) owed.0; list = owed.1 }

pub returns-in_err-refuse_if-2 : goal.returns-in_err-refuse_if-2
returns-in_err-refuse_if-2 c =
    let a = c.args in
    let p = err_from_is_err_and c.from_residual-in_err-refuse_if-2.result c.from_residual-in_err-refuse_if-2.ensures.1 in
    let refused = c.in_err-refuse_if-2.ensures.refused in
    let owed = owed_refused _ 10 a.out.now
    (by_row_10 a.net a.receivers.now a.class a.vectors.now a.responses.now a.out.now (sym c.in_ok-board.ensures.rows)
    (sym c.bad_response_count.ensures ∙ c.in_ok-refuse_if.ensures.passed)
    (sym c.has_high_bit.ensures ∙ refused.1)) in
    record { answer = rw (p.1, p.2, refused.0) owed.0; list = owed.1 }

pub returns-in_err-refuse_if-3 : goal.returns-in_err-refuse_if-3
returns-in_err-refuse_if-3 c =
    let a = c.args in
    let p = err_from_is_err_and c.from_residual-in_err-refuse_if-3.result c.from_residual-in_err-refuse_if-3.ensures.1 in
    let refused = c.in_err-refuse_if-3.ensures.refused in
    let owed = owed_refused _ 12 a.out.now
    (by_row_12 a.net a.receivers.now a.class a.vectors.now a.responses.now a.out.now (sym c.in_ok-board.ensures.rows)
    (sym c.bad_response_count.ensures ∙ c.in_ok-refuse_if.ensures.passed)
    (sym c.has_high_bit.ensures ∙ c.in_ok-refuse_if-2.ensures.passed)
    (sym c.no_room.ensures ∙ refused.1)) in
    record { answer = rw (p.1, p.2, refused.0) owed.0; list = owed.1 }

pub returns-in_default : goal.returns-in_default
returns-in_default c =
    let a = c.args in
    let board = c.in_ok-board.ensures.admitted in
    let verdict = rw (board.1, board.2, board.3) at (ap is_pass (sym c.of-verdict.ensures ∙ c.in_default.is)) in
    let owed = owed_refused _ 13 a.out.now
    (by_row_13 a.net a.receivers.now a.class a.vectors.now a.responses.now a.out.now (sym c.in_ok-board.ensures.rows)
    (sym c.bad_response_count.ensures ∙ c.in_ok-refuse_if.ensures.passed)
    (sym c.has_high_bit.ensures ∙ c.in_ok-refuse_if-2.ensures.passed)
    (sym c.no_room.ensures ∙ c.in_ok-refuse_if-3.ensures.passed) verdict) in
    record { answer = owed.0; list = owed.1 }

pub invariant_of-passed : goal.invariant_of-passed
invariant_of-passed c = record { passed = ap is_pass (sym c.of-verdict.ensures ∙ c.in-Pass.is) }

pub read_back-requires : goal.read_back-requires
read_back-requires c =
    let a = c.args in
    let board = c.in_ok-board.ensures.admitted in
    let receivers = receivers_of_board_set a.net a.receivers.now a.class a.vectors.now
    (board_set_none_holds a.net a.receivers.now a.class a.vectors.now (sym c.in_ok-board.ensures.rows)) in (
      receivers.most,
      rw board.3 (eqb-true _ _ (not-false _ (sym c.bad_response_count.ensures ∙ c.in_ok-refuse_if.ensures.passed))),
      (decides_high_bit (length a.receivers.now) a.responses.now).1
          (sym c.has_high_bit.ensures ∙ c.in_ok-refuse_if-2.ensures.passed),
      ltb-false _ _ (sym c.no_room.ensures ∙ c.in_ok-refuse_if-3.ensures.passed),
    )

pub returns : goal.returns
returns c =
    let a = c.args in
    let board = c.in_ok-board.ensures.admitted in
    let passed = rw (board.1, board.2, board.3) at (ap is_pass (sym c.of-verdict.ensures ∙ c.in-Pass.is)) in
    let fit =
    by_fit a.net a.receivers.now a.class a.vectors.now a.responses.now a.out.now (sym c.in_ok-board.ensures.rows)
    (sym c.bad_response_count.ensures ∙ c.in_ok-refuse_if.ensures.passed)
    (sym c.has_high_bit.ensures ∙ c.in_ok-refuse_if-2.ensures.passed)
    (sym c.no_room.ensures ∙ c.in_ok-refuse_if-3.ensures.passed)
    passed in
    record {
      answer = rw fit (rw (board.1, board.2, board.3) at c.read_back.ensures.answer);
      list = rw fit (rw (board.1, board.2, board.3) at c.read_back.ensures.list);
    }
