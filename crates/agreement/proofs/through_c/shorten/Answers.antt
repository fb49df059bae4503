use Rattle.std.proofs.Common.{ℕ, refl, sym, ap, ◌∙◌, List, length}
use Rattle.words.specs.Answers.{Answer}
use Rattle.network.specs.Reading.{network_with}
use Rattle.shorter.specs.Shorten.{shorten_answer}
use Rattle.exports.specs.Exported.{fixed_after}
use Rattle.exports.proofs.CallLaws.{code_returned, shortened_in_words}
use Rattle.agreement.proofs.through_c.shorten.Goals as goal

pub returns : goal.returns
returns c =
    let a = c.args in
    let e = c.fontarelga_shorten.ensures in
    let answer = shorten_answer (network_with a.nets a.level a.gate) a.class a.vectors.now a.allowed
    (length a.kept.now) in
    let counts = ap (λ (b : Answer (List ℕ)). fixed_after b a.shortened.now) (shortened_in_words answer) in
    record {
      returned = e.answer ∙ sym (code_returned _ _ answer _ _ refl (shortened_in_words answer));
      kept = e.kept;
      shortened = e.shortened ∙ counts;
    }
