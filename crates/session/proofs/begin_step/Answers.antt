use Rattle.std.proofs.Common.{◌≡◌, sym, ap, ap₂, ◌∙◌, true, false, ℕ, List, [], ◌∷◌, length}
use Rattle.std.proofs.lemmas.Result.{err_from_is_err_and}
use Rattle.words.specs.Answers.{refused, full, by_tests, lent_after}
use Rattle.words.proofs.Answers.{shared_refuse, shared_pass}
use Rattle.network.specs.declared.Network.{Network}
use Rattle.network.specs.Rows.{board_tests, board_only_admission, no_room}
use Rattle.steps.specs.FirstStep.{first_vectors}
use Rattle.session.specs.Record.{awaiting_first}
use Rattle.session.specs.Calls.{begin_answer}
use Rattle.session.proofs.Stepping.{step_refused, step_full, room_told}
use Rattle.session.proofs.begin_step.Goals as goal

-- ---- the answer, row by row

module _ (net : Network) (owners : List ℕ) (room : ℕ) where
  by_board : {number : ℕ} → board_only_admission net owners ≡ refused number → begin_answer net owners room ≡ refused number
  unfolding begin_answer
  by_board {number} e = shared_refuse tt (first_vectors net) (board_tests net owners) _ number e

  module _ (good : board_only_admission net owners ≡ full tt) where
    by_room : begin_answer net owners room ≡ by_tests ((12, no_room (length (first_vectors net)) room) ∷ []) (first_vectors net)
    unfolding begin_answer
    by_room = shared_pass tt (first_vectors net) (board_tests net owners) _ tt good

    row_12 : no_room (length (first_vectors net)) room ≡ true → begin_answer net owners room ≡ refused 12
    unfolding by_tests
    row_12 e = by_room ∙ rw e

    accepted : no_room (length (first_vectors net)) room ≡ false → begin_answer net owners room ≡ full (first_vectors net)
    unfolding by_tests
    accepted e = by_room ∙ rw e

pub returns-in_err-board : goal.returns-in_err-board
returns-in_err-board c =
    let a = c.args in
    let p = err_from_is_err_and c.from_residual.result c.from_residual.ensures.1 in
    let owed = step_refused (begin_answer a.net a.receivers.now (length a.list.now)) (awaiting_first a.net a.receivers.now)
    a.session a.list.now (by_board a.net a.receivers.now (length a.list.now) (sym c.in_err-board.ensures.rows)) in
    record { session = rw p.1 owed.0; code = rw (p.1, p.2) owed.1.0; list = owed.1.1 }

pub returns-in_err-refuse_if : goal.returns-in_err-refuse_if
returns-in_err-refuse_if c =
    let a = c.args in
    let room = length a.list.now in
    let p = err_from_is_err_and c.from_residual-in_err-refuse_if.result c.from_residual-in_err-refuse_if.ensures.1 in
    let board = c.in_ok-board.ensures in
    let vectors = c.first_vectors-vectors.ensures ∙ ap first_vectors board.admitted.0 in
    let refused = c.in_err-refuse_if.ensures.refused in
    let test = room_told room (c.len.ensures.value ∙ ap length vectors) c.no_room-no_room.ensures ∙ refused.1 in
    let owed = step_refused (begin_answer a.net a.receivers.now room) (awaiting_first a.net a.receivers.now)
    a.session a.list.now (row_12 a.net a.receivers.now room (sym board.rows) test) in
    record { session = rw p.1 owed.0; code = rw (p.1, p.2, refused.0) owed.1.0; list = owed.1.1 }

pub returns : goal.returns
returns c =
    let a = c.args in
    let room = length a.list.now in
    let board = c.in_ok-board.ensures in
    let vectors = c.first_vectors-vectors.ensures ∙ ap first_vectors board.admitted.0 in
    let test = room_told room (c.len.ensures.value ∙ ap length vectors) c.no_room-no_room.ensures
    ∙ c.in_ok-refuse_if.ensures.passed in
    let owed = step_full (begin_answer a.net a.receivers.now room) (awaiting_first a.net a.receivers.now)
    a.session c.awaiting_first.result (first_vectors a.net) a.list.now c.copy_words.new.out
    (accepted a.net a.receivers.now room (sym board.rows) test)
    (c.awaiting_first.ensures ∙ ap₂ awaiting_first board.admitted.0 board.admitted.1)
    (c.copy_words.ensures ∙ ap (λ (words : List ℕ). lent_after (full words) a.list.now) (c.as_slice.ensures.value ∙ vectors))
    in
    record { session = owed.0; code = owed.1.0; list = owed.1.1 }
