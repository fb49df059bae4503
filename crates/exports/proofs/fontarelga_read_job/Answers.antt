use Rattle.std.proofs.Common.{◌∙◌}
use Rattle.exports.proofs.CallLaws.{code_returned, fixed_returned, read_in_words}
use Rattle.exports.proofs.fontarelga_read_job.Goals as goal

pub returns-clause-answer : goal.returns-clause-answer
returns-clause-answer c =
    c.code_in_words.ensures.code ∙ code_returned _ _ _ _ _ c.read_job.ensures.answer (read_in_words _)

pub returns-clause-job : goal.returns-clause-job
returns-clause-job c =
    fixed_returned _ _ _ _ _ c.read_job.ensures.answer (read_in_words _) _ _ c.code_in_words.ensures.words
