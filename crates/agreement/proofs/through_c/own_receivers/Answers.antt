use Rattle.std.proofs.Common.{refl, sym, ◌∙◌}
use Rattle.exports.proofs.CallLaws.{code_counted}
use Rattle.agreement.proofs.through_c.own_receivers.Goals as goal

pub returns : goal.returns
returns c =
    let done = c.fontarelga_own_receivers in
    record {
      returned = done.ensures.answer ∙ sym (code_counted _ _ refl);
      receivers = done.ensures.receivers;
    }
