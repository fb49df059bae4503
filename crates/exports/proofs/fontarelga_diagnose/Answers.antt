use Rattle.std.proofs.Common.{◌∙◌}
use Rattle.exports.proofs.CallLaws.{code_counted}
use Rattle.exports.proofs.fontarelga_diagnose.Goals as goal

pub returns : goal.returns
returns c = record {
  answer = c.code_of.ensures ∙ code_counted _ _ c.diagnose.ensures.answer;
  state = c.diagnose.ensures.list;
}
