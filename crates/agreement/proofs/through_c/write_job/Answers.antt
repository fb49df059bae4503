use Rattle.std.proofs.Common.{ℕ, refl, sym, ap, ◌∙◌, List, length}
use Rattle.words.specs.Answers.{Answer}
use Rattle.writer.specs.Writer.{write_answer}
use Rattle.network.specs.Reading.{network_with}
use Rattle.exports.specs.Exported.{fixed_after}
use Rattle.exports.proofs.CallLaws.{code_counted}
use Rattle.exports.proofs.CallLaws.{wrote_in_words}
use Rattle.agreement.proofs.through_c.write_job.Goals as goal

pub returns : goal.returns
returns c =
    let a = c.args in
    let e = c.fontarelga_write_job.ensures in
    let net = network_with a.nets a.level a.gate in
    let answer = write_answer a.kind net a.class a.vectors.now a.responses.now (length a.file.now) in
    let size = ap (λ (b : Answer (List ℕ)). fixed_after b a.size.now) (wrote_in_words answer) in
    record {
      returned = e.answer ∙ sym (code_counted answer _ refl);
      file = e.file;
      size = e.size ∙ size;
    }
