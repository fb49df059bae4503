use Rattle.std.proofs.Common.{◌≡◌, true, sym, ◌∙◌, arith, eq-eqb}
use Rattle.jobfile.specs.Layout.{entry_count, has_responses}
use Rattle.reader.proofs.Bodies.{responses_given, words_of_third}
use Rattle.reader.proofs.layout.JobFile.responses.Goals as goal

pub returns : goal.returns
returns c =
    let file = c.args.self.laid_out.file.now in
    let third : has_responses file ≡ true = eq-eqb (entry_count file) 3 (omega arith) in
    (third, c.words_in.ensures ∙ rw c.body.ensures.0 (words_of_third file c.args.self.laid_out.laid_out c.args.self.complete third) ∙ sym (responses_given file third))
