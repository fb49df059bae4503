use Rattle.std.proofs.Common.{◌∙◌}
use Rattle.exports.proofs.CallLaws.{code_returned, fixed_returned, shortened_in_words}
use Rattle.exports.proofs.fontarelga_shorten.Goals as goal

pub returns-clause-answer : goal.returns-clause-answer
returns-clause-answer c =
    c.code_in_words.ensures.code ∙ code_returned _ _ _ _ _ c.shorten.ensures.answer (shortened_in_words _)

pub returns-clause-shortened : goal.returns-clause-shortened
returns-clause-shortened c =
    fixed_returned _ _ _ _ _ c.shorten.ensures.answer (shortened_in_words _) _ _ c.code_in_words.ensures.words
