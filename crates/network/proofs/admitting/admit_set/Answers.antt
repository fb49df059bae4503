use Rattle.std.proofs.Common.{sym, ◌∙◌}
use Rattle.std.proofs.lemmas.Result.{err_from_is_err_and}
use Rattle.network.specs.Rows.{vector_tests, has_high_bit}
use Rattle.network.proofs.Rows.{network_refuses, then_row_7, then_row_8, then_none, set_none_holds}
use Rattle.network.proofs.admitting.admit_set.Goals as goal

pub returns-in_err-nets-clause-rows : goal.returns-in_err-nets-clause-rows
returns-in_err-nets-clause-rows c =
    let a = c.args in
    let p = err_from_is_err_and c.from_residual.result c.from_residual.ensures.1 in
    rw (p.1, p.2) (sym (network_refuses a.net a.class (vector_tests a.net a.vectors.now) tt _ (sym c.in_err-nets.ensures.rows)))

pub returns-in_err-refuse_if-clause-rows : goal.returns-in_err-refuse_if-clause-rows
returns-in_err-refuse_if-clause-rows c =
    let a = c.args in
    let p = err_from_is_err_and c.from_residual-in_err-refuse_if.result c.from_residual-in_err-refuse_if.ensures.1 in
    let refused = c.in_err-refuse_if.ensures.refused in
    rw (p.1, p.2, refused.0) (sym (then_row_7 a.net a.class _ (has_high_bit a.net.nets a.vectors.now) (sym c.in_ok-nets.ensures.rows)
    (sym c.bad_count.ensures ∙ refused.1)))

pub returns-in_err-refuse_if-2-clause-rows : goal.returns-in_err-refuse_if-2-clause-rows
returns-in_err-refuse_if-2-clause-rows c =
    let a = c.args in
    let p = err_from_is_err_and c.from_residual-in_err-refuse_if-2.result c.from_residual-in_err-refuse_if-2.ensures.1 in
    let refused = c.in_err-refuse_if-2.ensures.refused in
    rw (p.1, p.2, refused.0) (sym (then_row_8 a.net a.class _ _ (sym c.in_ok-nets.ensures.rows)
    (sym c.bad_count.ensures ∙ c.in_ok-refuse_if.ensures.passed) (sym c.has_high_bit.ensures ∙ refused.1)))

pub invariant_of-result : goal.invariant_of-result
invariant_of-result c =
    let a = c.args in record {
      admitted = rw c.in_ok-nets.ensures.admitted (set_none_holds a.net a.class a.vectors.now
          (then_none a.net a.class _ _ (sym c.in_ok-nets.ensures.rows)
          (sym c.bad_count.ensures ∙ c.in_ok-refuse_if.ensures.passed)
          (sym c.has_high_bit.ensures ∙ c.in_ok-refuse_if-2.ensures.passed)));
    }

pub returns-clause-rows : goal.returns-clause-rows
returns-clause-rows c =
    let a = c.args in
    sym (then_none a.net a.class _ _ (sym c.in_ok-nets.ensures.rows)
    (sym c.bad_count.ensures ∙ c.in_ok-refuse_if.ensures.passed)
    (sym c.has_high_bit.ensures ∙ c.in_ok-refuse_if-2.ensures.passed))
