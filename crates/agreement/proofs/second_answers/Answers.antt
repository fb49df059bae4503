use Rattle.std.proofs.Common.{◌∙◌}
use Rattle.exports.proofs.CallLaws.{answered_code, stepped_code}
use Rattle.agreement.proofs.second_answers.Goals as goal

pub returns : goal.returns
returns c = let done = c.second_answers in
    record {
      returned = answered_code done.result ∙ done.ensures.code ∙ stepped_code _ _ _;
      session = done.ensures.session;
    }
