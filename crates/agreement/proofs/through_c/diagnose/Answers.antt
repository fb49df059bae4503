use Rattle.std.proofs.Common.{refl, sym, ◌∙◌}
use Rattle.exports.proofs.CallLaws.{code_counted}
use Rattle.agreement.proofs.through_c.diagnose.Goals as goal

pub returns : goal.returns
returns c =
    let done = c.fontarelga_diagnose in
    record {
      returned = done.ensures.answer ∙ sym (code_counted _ _ refl);
      state = done.ensures.state;
    }
