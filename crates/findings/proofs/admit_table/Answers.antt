-- The answer by the rows: those of a board refuse before the others, and where none refuses there are as many records as receivers.
use Rattle.std.proofs.Common.{◌≡◌, false, length, sym, ◌∙◌}
use Rattle.std.proofs.lemmas.Result.{err_from_is_err_and}
use Rattle.words.specs.Answers.{by_tests, count_of}
use Rattle.words.proofs.Answers.{shared_refuse, shared_pass}
use Rattle.network.specs.States.{not_a_state}
use Rattle.network.specs.Rows.{board_tests}
use Rattle.network.proofs.States.{test→state}
use Rattle.findings.specs.FindingsTable.{table_tests, findings, findings_answer, table_meaning}
use Rattle.findings.proofs.FindingsLaws.{findings_size}
use Rattle.findings.proofs.admit_table.Goals as goal

pub returns-in_err-board-clause-answer : goal.returns-in_err-board-clause-answer
unfolding findings_answer count_of table_meaning
returns-in_err-board-clause-answer c =
    let a = c.args in
    let p = err_from_is_err_and c.from_residual.result c.from_residual.ensures.1 in
    let e = shared_refuse tt (findings a.net a.receivers.now a.state.now) (board_tests a.net a.receivers.now)
    (table_tests a.net (length a.receivers.now) a.state.now a.room) _ (sym c.in_err-board.ensures.rows) in
    rw (p.1, p.2, e)

pub returns-clause-answer : goal.returns-clause-answer
unfolding findings_answer count_of table_meaning by_tests
returns-clause-answer c =
    let a = c.args in
    let n = c.in_ok-board.ensures.admitted.0 in
    let rows = c.in_ok-board.ensures.rows in
    let eleven : not_a_state a.net (length a.receivers.now) a.net.nets a.state.now ≡ false =
    rw n at (sym c.not_a_state.ensures ∙ c.in_ok-refuse_if.ensures.passed) in
    let size = findings_size a.net a.receivers.now a.state.now
    ∙ (test→state a.net (length a.receivers.now) a.net.nets a.state.now eleven).size in
    let twelve = sym c.no_room.ensures ∙ c.in_ok-refuse_if-2.ensures.passed in
    let e = shared_pass tt (findings a.net a.receivers.now a.state.now) (board_tests a.net a.receivers.now)
    (table_tests a.net (length a.receivers.now) a.state.now a.room) _ (sym rows) in
    rw (e, eleven, twelve, size)
