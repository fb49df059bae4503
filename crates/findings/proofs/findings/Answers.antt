use Rattle.std.proofs.Common.{List, ◌<◌, arith, length, refl, sym, ap, ◌∙◌, set}
use Rattle.std.proofs.lemmas.Result.{err_from_is_err_and}
use Rattle.words.specs.Answers.{Answer, lent_after}
use Rattle.words.proofs.Answers.{owed_refused}
use Rattle.findings.specs.declared.Finding.{Finding}
use Rattle.findings.specs.FindingsTable.{table_meaning}
use Rattle.findings.proofs.FindingsLaws.{table_accepted, table_refused, filled, filled_next, filled_all}
use Rattle.findings.proofs.findings.Goals as goal

pub returns-in_err-board-clause-answer : goal.returns-in_err-board-clause-answer
unfolding table_meaning
returns-in_err-board-clause-answer c =
    let p = err_from_is_err_and c.from_residual.result c.from_residual.ensures.1 in
    rw (p.1, p.2) c.in_err-board.ensures.answer

pub returns-in_err-board-clause-table : goal.returns-in_err-board-clause-table
returns-in_err-board-clause-table c =
    let a = c.args in
    let answer = table_refused a.net a.receivers.now a.state.now (length a.table.now) _ _ c.in_err-board.was
    c.admit_table.ensures.answer in
    (owed_refused _ _ a.table.now answer).1

pub loop-r-init : goal.loop-r-init
unfolding filled
loop-r-init c = refl

pub finding_of-requires : goal.finding_of-requires
finding_of-requires c =
    let a = c.args in
    let ok = table_accepted a.net a.receivers.now a.state.now _ _ _ c.in_ok-board.was c.admit_table.ensures.answer in
    let same = c.in_ok-board.ensures.admitted in
    let here : c.loop-r.r < length a.receivers.now = omega (arith, ok.is_state.size) in
    rw (same.0, same.1) (here, ok.is_state)

pub offset_bounds-table-r : goal.offset_bounds-table-r
offset_bounds-table-r c =
    let a = c.args in
    let ok = table_accepted a.net a.receivers.now a.state.now _ _ _ c.in_ok-board.was c.admit_table.ensures.answer in
    omega (arith, ok.fits)

pub bounds-table-r : goal.bounds-table-r
bounds-table-r c =
    let a = c.args in
    let ok = table_accepted a.net a.receivers.now a.state.now _ _ _ c.in_ok-board.was c.admit_table.ensures.answer in
    omega (arith, ok.fits)

pub loop-r-preserved : goal.loop-r-preserved
loop-r-preserved c =
    let a = c.args in
    let l = c.loop-r in
    let ok = table_accepted a.net a.receivers.now a.state.now _ _ _ c.in_ok-board.was c.admit_table.ensures.answer in
    let same = c.in_ok-board.ensures.admitted in
    let found = rw (same.0, same.1) at c.finding_of.ensures in
    ap (λ (t : List Finding). set t l.r c.finding_of.result) l.invariant
    ∙ ap (λ (f : Finding). set (filled a.net a.receivers.now a.state.now l.r a.table.now) l.r f) found
    ∙ filled_next a.net a.receivers.now a.state.now a.table.now l.r c.loop-r-test.true (omega (arith, ok.fits))

pub returns-clause-answer : goal.returns-clause-answer
unfolding table_meaning
returns-clause-answer c = c.in_ok-board.ensures.answer

pub returns-clause-table : goal.returns-clause-table
returns-clause-table c =
    let a = c.args in
    let l = c.loop-r in
    let ok = table_accepted a.net a.receivers.now a.state.now _ _ _ c.in_ok-board.was c.admit_table.ensures.answer in
    l.invariant ∙ filled_all a.net a.receivers.now a.state.now a.table.now l.r (omega arith)
    ∙ ap (λ (x : Answer (List Finding)). lent_after x a.table.now) (sym ok.answer)
