use Rattle.std.proofs.Common.{ℕ, arith, ◌≡◌, sym, ◌∙◌, true, false, List, length, ltb-false}
use Rattle.words.specs.Answers.{refused, full, by_tests}
use Rattle.words.proofs.Answers.{owed_full}
use Rattle.network.proofs.Refusing.{refused_exit, row_exit}
use Rattle.network.specs.declared.Network.{Network}
use Rattle.network.specs.Reading.{response}
use Rattle.network.specs.States.{not_a_state}
use Rattle.network.specs.Rows.{board_admission, no_room}
use Rattle.network.specs.Respond.{own_tests, response_answer}
use Rattle.network.proofs.Reading.{response_is}
use Rattle.network.proofs.States.{test→state}
use Rattle.network.proofs.Rows.{board_set_refuses, board_set_admits, board_set_none_holds}
use Rattle.network.proofs.Rows.{receivers_of_board_set}
use Rattle.network.proofs.response_from_state.Goals as goal

module _ (net : Network) (owners : List ℕ) (k : ℕ) (vectors state lent : List ℕ) where
  -- the answer where the rows of a test set refuse
  by_set : (number : ℕ) → board_admission net owners k vectors ≡ refused number
      → response_answer net owners k vectors state (length lent) ≡ refused number
  unfolding response_answer
  by_set number e = board_set_refuses net owners k vectors (own_tests net (length owners) k vectors state (length lent))
      (response net state vectors) number e

  -- and where they admit the test set: rows 11 and 12, then the response
  by_own : board_admission net owners k vectors ≡ full tt
      → response_answer net owners k vectors state (length lent)
      ≡ by_tests (own_tests net (length owners) k vectors state (length lent)) (response net state vectors)
  unfolding response_answer
  by_own e = board_set_admits net owners k vectors (own_tests net (length owners) k vectors state (length lent))
      (response net state vectors) e

  by_row_11 : board_admission net owners k vectors ≡ full tt → not_a_state net (length owners) k state ≡ true
      → response_answer net owners k vectors state (length lent) ≡ refused 11
  unfolding by_tests
  by_row_11 e f = by_own e ∙ rw f

  by_row_12 : board_admission net owners k vectors ≡ full tt → not_a_state net (length owners) k state ≡ false
      → no_room (length vectors) (length lent) ≡ true
      → response_answer net owners k vectors state (length lent) ≡ refused 12
  unfolding by_tests
  by_row_12 e f g = by_own e ∙ rw (f, g)

  by_none : board_admission net owners k vectors ≡ full tt → not_a_state net (length owners) k state ≡ false
      → no_room (length vectors) (length lent) ≡ false
      → response_answer net owners k vectors state (length lent) ≡ full (response net state vectors)
  unfolding by_tests
  by_none e f g = by_own e ∙ rw (f, g)

response_size : (net : Network) (state vectors : List ℕ) → length (response net state vectors) ≡ length vectors
response_size net state vectors = (response_is net state vectors).one_a_vector

pub returns-in_err-board : goal.returns-in_err-board
returns-in_err-board c =
    let a = c.args in
    let exit = refused_exit _ c.in_err-board.field-0.0 _ a.out.now c.from_residual.ensures.1
    (by_set a.net a.receivers.now a.class a.vectors.now a.state.now a.out.now _ (sym c.in_err-board.ensures.rows)) in
    record { answer = exit.0; list = exit.1 }

pub returns-in_err-refuse_if : goal.returns-in_err-refuse_if
returns-in_err-refuse_if c =
    let a = c.args in
    let nets = c.in_ok-board.ensures.admitted.1 in
    let exit = row_exit _ c.in_err-refuse_if.field-0.0 _ a.out.now c.from_residual-in_err-refuse_if.ensures.1 c.in_err-refuse_if.ensures.refused
    (λ e. by_row_11 a.net a.receivers.now a.class a.vectors.now a.state.now a.out.now (sym c.in_ok-board.ensures.rows)
    (rw nets at (sym c.not_a_state.ensures ∙ e))) in
    record { answer = exit.0; list = exit.1 }

pub returns-in_err-refuse_if-2 : goal.returns-in_err-refuse_if-2
returns-in_err-refuse_if-2 c =
    let a = c.args in
    let nets = c.in_ok-board.ensures.admitted.1 in
    let exit = row_exit _ c.in_err-refuse_if-2.field-0.0 _ a.out.now c.from_residual-in_err-refuse_if-2.ensures.1 c.in_err-refuse_if-2.ensures.refused
    (λ e. by_row_12 a.net a.receivers.now a.class a.vectors.now a.state.now a.out.now (sym c.in_ok-board.ensures.rows)
    (rw nets at (sym c.not_a_state.ensures ∙ c.in_ok-refuse_if.ensures.passed)) (sym c.no_room.ensures ∙ e)) in
    record { answer = exit.0; list = exit.1 }

pub fill_response-requires : goal.fill_response-requires
fill_response-requires c =
    let a = c.args in
    let nets = c.in_ok-board.ensures.admitted.1 in
    let none = board_set_none_holds a.net a.receivers.now a.class a.vectors.now (sym c.in_ok-board.ensures.rows) in
    let receivers = receivers_of_board_set a.net a.receivers.now a.class a.vectors.now none in
    let state = test→state a.net (length a.receivers.now) a.class a.state.now
    (rw nets at (sym c.not_a_state.ensures ∙ c.in_ok-refuse_if.ensures.passed)) in
    let size = state.size in (
      omega (arith, receivers.most, size),
      λ i l. (state.reach i l).inside,
      ltb-false _ _ (sym c.no_room.ensures ∙ c.in_ok-refuse_if-2.ensures.passed),
    )

pub returns : goal.returns
returns c =
    let a = c.args in
    let nets = c.in_ok-board.ensures.admitted.1 in
    let owed = owed_full _ (length a.vectors.now) (response a.net a.state.now a.vectors.now) a.out.now _
    (by_none a.net a.receivers.now a.class a.vectors.now a.state.now a.out.now (sym c.in_ok-board.ensures.rows)
    (rw nets at (sym c.not_a_state.ensures ∙ c.in_ok-refuse_if.ensures.passed))
    (sym c.no_room.ensures ∙ c.in_ok-refuse_if-2.ensures.passed))
    (sym (response_size a.net a.state.now a.vectors.now)) c.fill_response.ensures in
    record { answer = owed.0; list = owed.1 }
