use Rattle.std.proofs.Common.{ℕ, refl, sym, ap, ◌∙◌, List, length}
use Rattle.words.specs.Answers.{Answer}
use Rattle.reader.specs.Reader.{read_answer}
use Rattle.exports.specs.Exported.{fixed_after}
use Rattle.exports.proofs.CallLaws.{code_returned, read_in_words}
use Rattle.agreement.proofs.through_c.read_job.Goals as goal

pub returns : goal.returns
returns c =
    let a = c.args in
    let e = c.fontarelga_read_job.ensures in
    let answer = read_answer a.file.now (length a.vectors.now) (length a.responses.now) in
    let job = ap (λ (b : Answer (List ℕ)). fixed_after b a.job.now) (read_in_words answer) in
    record {
      returned = e.answer ∙ sym (code_returned _ _ answer _ _ refl (read_in_words answer));
      vectors = e.vectors;
      responses = e.responses;
      job = e.job ∙ job;
    }
