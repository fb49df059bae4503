use Rattle.std.proofs.Common.{sym, ◌∙◌}
use Rattle.std.proofs.lemmas.Result.{err_from_is_err_and}
use Rattle.words.specs.Answers.{by_tests}
use Rattle.network.proofs.Rows.{decides_row_21}
use Rattle.network.proofs.admitting.admit_board_set.Goals as goal

pub returns-in_err-nets-clause-rows : goal.returns-in_err-nets-clause-rows
unfolding by_tests
returns-in_err-nets-clause-rows c =
    let p = err_from_is_err_and c.from_residual.result c.from_residual.ensures.1 in
    let refused = c.in_err-nets.ensures.refused in
    rw (p.1, p.2, refused.0, refused.1)

pub returns-in_err-refuse_if-clause-rows : goal.returns-in_err-refuse_if-clause-rows
unfolding by_tests
returns-in_err-refuse_if-clause-rows c =
    let p = err_from_is_err_and c.from_residual-in_err-refuse_if.result c.from_residual-in_err-refuse_if.ensures.1 in
    let refused = c.in_err-refuse_if.ensures.refused in
    rw (p.1, p.2, refused.0, c.in_ok-nets.ensures.admitted.1, rw c.in_ok-nets.ensures.admitted.0 at (sym c.bad_receivers.ensures ∙ refused.1))

pub returns-in_err-set-clause-rows : goal.returns-in_err-set-clause-rows
unfolding by_tests
returns-in_err-set-clause-rows c =
    let p = err_from_is_err_and c.from_residual-in_err-set.result c.from_residual-in_err-set.ensures.1 in
    let five = c.in_ok-nets.ensures.admitted.1 in
    let rows = rw five at c.in_err-set.ensures.rows in
    rw (p.1, p.2, five, rw c.in_ok-nets.ensures.admitted.0 at (sym c.bad_receivers.ensures ∙ c.in_ok-refuse_if.ensures.passed)) rows

pub invariant_of-result : goal.invariant_of-result
invariant_of-result c =
    let a = c.args in record {
      owned = rw c.in_ok-set.ensures.admitted.0 ((decides_row_21 a.net a.receivers.now).1
          (rw c.in_ok-nets.ensures.admitted.0 at (sym c.bad_receivers.ensures ∙ c.in_ok-refuse_if.ensures.passed)));
    }

pub returns-clause-rows : goal.returns-clause-rows
unfolding by_tests
returns-clause-rows c =
    let five = c.in_ok-nets.ensures.admitted.1 in
    let rows = rw five at c.in_ok-set.ensures.rows in
    rw (five, rw c.in_ok-nets.ensures.admitted.0 at (sym c.bad_receivers.ensures ∙ c.in_ok-refuse_if.ensures.passed)) rows
