use Rattle.std.proofs.Common.{ℕ, List, ap, ◌∙◌, replicate}
use Rattle.words.specs.Answers.{full, lent_after}
use Rattle.listing.proofs.report.Goals as goal

pub returns-clause-bytes : goal.returns-clause-bytes
returns-clause-bytes c =
    c.copy_words.ensures
    ∙ ap (λ (text : List ℕ). lent_after (full text) (replicate 4142 0)) (c.as_slice.ensures.value ∙ c.report_text-text.ensures)
