use Rattle.std.proofs.Common.{◌≡◌, length}
use Rattle.std.proofs.lemmas.Result.{err_from_is_err_and}
use Rattle.findings.specs.FindingsTable.{table_meaning}
use Rattle.findings.proofs.by_value.Goals as goal

pub returns-in_err-findings-clause-answer : goal.returns-in_err-findings-clause-answer
unfolding table_meaning
returns-in_err-findings-clause-answer c =
    let p = err_from_is_err_and c.from_residual.result c.from_residual.ensures.1 in
    rw (p.1, p.2) c.in_err-findings.ensures.answer

pub returns-clause-answer : goal.returns-clause-answer
unfolding table_meaning
returns-clause-answer c = c.in_ok-findings.ensures.answer
