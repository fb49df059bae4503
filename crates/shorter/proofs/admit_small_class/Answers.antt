use Rattle.std.proofs.Common.{sym, ltb-true}
use Rattle.std.proofs.lemmas.Result.{err_from_is_err_and}
use Rattle.shorter.proofs.ShortenTable.{by_nets, by_class}
use Rattle.shorter.proofs.admit_small_class.Goals as goal

pub returns-in_err-admit_nets-clause-rows : goal.returns-in_err-admit_nets-clause-rows
returns-in_err-admit_nets-clause-rows c =
    let a = c.args in
    let p = err_from_is_err_and c.from_residual.result c.from_residual.ensures.1 in
    let refused = c.in_err-admit_nets.ensures.refused in
    rw (p.1, p.2, refused.0) (sym (by_nets a.net a.class a.vectors.now refused.1))

pub returns-in_err-refuse_if-clause-rows : goal.returns-in_err-refuse_if-clause-rows
returns-in_err-refuse_if-clause-rows c =
    let a = c.args in
    let p = err_from_is_err_and c.from_residual-in_err-refuse_if.result c.from_residual-in_err-refuse_if.ensures.1 in
    let refused = c.in_err-refuse_if.ensures.refused in
    rw (p.1, p.2, refused.0) (sym (by_class a.net a.class a.vectors.now c.in_ok-admit_nets.ensures.admitted.1 (ltb-true 3 a.class refused.1)))
