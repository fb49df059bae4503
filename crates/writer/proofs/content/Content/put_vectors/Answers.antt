use Rattle.std.proofs.Common.{List, ℕ, ap, ◌∙◌, arith}
use Rattle.words.specs.Answers.{full, lent_after}
use Rattle.writer.proofs.ContentLaws.{plain_body, plain_size, turned_body, turned_size}
use Rattle.writer.proofs.content.Content.put_vectors.Goals as goal

pub put_words-requires : goal.put_words-requires
put_words-requires c = omega (arith, c.requires, (plain_size c.args.self.now c.in-Vectors.is).0)

pub put_turned-requires : goal.put_turned-requires
put_turned-requires c = omega (arith, c.requires, (turned_size c.args.self.now c.in-NetByNet.is).0)

pub returns-in-Vectors : goal.returns-in-Vectors
returns-in-Vectors c =
    c.put_words.ensures
    ∙ ap (λ (bytes : List ℕ). lent_after (full bytes) c.args.file.now) (plain_body c.args.self.now c.in-Vectors.is)

pub returns-in-NetByNet : goal.returns-in-NetByNet
returns-in-NetByNet c =
    c.put_turned.ensures
    ∙ ap (λ (bytes : List ℕ). lent_after (full bytes) c.args.file.now) (turned_body c.args.self.now c.in-NetByNet.is)
