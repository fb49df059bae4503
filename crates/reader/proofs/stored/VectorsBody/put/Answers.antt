use Rattle.std.proofs.Common.{◌≡◌, ℕ, List, take, length, sym, ap₂, ◌∙◌}
use Rattle.std.proofs.lemmas.List.{length-map}
use Rattle.words.proofs.Answers.{front_written}
use Rattle.jobfile.specs.Bytes.{number_of}
use Rattle.jobfile.specs.VectorsBody.{vectors_of}
use Rattle.reader.specs.Stored.{stored_words}
use Rattle.reader.proofs.stored.VectorsBody.put.Goals as goal

pub returns-in-Vectors : goal.returns-in-Vectors
unfolding vectors_of
returns-in-Vectors c = rw c.in-Vectors.is c.put_words.ensures

pub returns-in-NetByNet : goal.returns-in-NetByNet
unfolding vectors_of
returns-in-NetByNet c =
    let stored = c.args.self.words.now in
    let words_are : take (length stored) c.put_words-in-NetByNet.new.out ≡ stored_words stored =
    ap₂ (λ (n : ℕ) (l : List ℕ). take n l) (sym (length-map stored number_of)) c.put_words-in-NetByNet.ensures
    ∙ front_written (stored_words stored) _ in
    rw c.in-NetByNet.is (rw words_are at c.fill.ensures)
