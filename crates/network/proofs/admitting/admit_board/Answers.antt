use Rattle.std.proofs.Common.{sym, ◌∙◌}
use Rattle.network.proofs.Rows.{board_admitted, decides_row_5, nets_admitted}
use Rattle.network.proofs.admitting.admit_board.Goals as goal

pub invariant_of-result : goal.invariant_of-result
invariant_of-result c =
    let a = c.args in
    let admitted = c.in_ok-nets.ensures.admitted in record {
      two = rw admitted.0 (nets_admitted a.net ((decides_row_5 a.net).1 admitted.1)).0;
      admitted = rw admitted.0 (board_admitted a.net a.receivers.now
          (rw (
            admitted.1,
            rw admitted.0 at (sym c.bad_receivers.ensures ∙ c.in_ok-refuse_if.ensures.passed),
            sym c.bad_level.ensures ∙ c.in_ok-refuse_if-2.ensures.passed,
            sym c.bad_gate.ensures ∙ c.in_ok-refuse_if-3.ensures.passed,
          )));
    }
