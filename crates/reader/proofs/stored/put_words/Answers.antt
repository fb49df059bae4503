use Rattle.std.proofs.Common.{ℕ, List, ap₂, ◌∙◌, arith}
use Rattle.std.proofs.lemmas.List.{length-map}
use Rattle.std.proofs.Math.ListN.{set}
use Rattle.words.specs.Answers.{lent_after}
use Rattle.words.proofs.Making.{list_fill, list_filled}
use Rattle.jobfile.specs.Bytes.{number_of}
use Rattle.reader.specs.Stored.{stored_words}
use Rattle.reader.proofs.StoredWords.{word_read}
use Rattle.reader.proofs.stored.put_words.Goals as goal

pub loop-t-preserved : goal.loop-t-preserved
loop-t-preserved c =
    let stored = c.args.stored.now in
    let t = c.loop-t.t in
    let size = length-map stored number_of in
    let there = c.loop-t-test.true in
    ap₂ (λ (m : List ℕ) (x : ℕ). set m t x) c.loop-t.invariant
    (c.from_le_bytes.ensures ∙ word_read stored t there (c.told-stored t there))
    ∙ list_fill (stored_words stored) c.args.out.now t (omega arith) (omega arith)

pub returns : goal.returns
unfolding lent_after
returns c =
    let stored = c.args.stored.now in
    let size = length-map stored number_of in
    c.loop-t.invariant ∙ list_filled (stored_words stored) c.args.out.now c.loop-t.t (omega arith) (omega arith)
