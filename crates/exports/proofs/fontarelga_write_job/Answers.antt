use Rattle.std.proofs.Common.{◌∙◌}
use Rattle.exports.proofs.CallLaws.{code_returned, fixed_returned, wrote_in_words}
use Rattle.exports.proofs.fontarelga_write_job.Goals as goal

pub returns-clause-answer : goal.returns-clause-answer
returns-clause-answer c =
    c.code_in_words.ensures.code ∙ code_returned _ _ _ _ _ c.write_job.ensures.answer (wrote_in_words _)

pub returns-clause-size : goal.returns-clause-size
returns-clause-size c =
    fixed_returned _ _ _ _ _ c.write_job.ensures.answer (wrote_in_words _) _ _ c.code_in_words.ensures.words
