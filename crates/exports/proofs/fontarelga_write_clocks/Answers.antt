use Rattle.std.proofs.Common.{◌∙◌}
use Rattle.exports.proofs.CallLaws.{code_counted}
use Rattle.exports.proofs.fontarelga_write_clocks.Goals as goal

pub returns-clause-answer : goal.returns-clause-answer
returns-clause-answer c = c.code_of.ensures ∙ code_counted _ _ c.write_clocks.ensures.answer
