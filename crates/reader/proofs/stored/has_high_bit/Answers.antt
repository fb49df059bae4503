use Rattle.std.proofs.Common.{◌≡◌, ◌^◌, false, length, sym, ◌∙◌, arith, below_more, le-leb, pow_pos}
use Rattle.std.proofs.lemmas.List.{length-map}
use borrow.Author.Tests.{lt-leb}
use Rattle.std.specs.Prelude.{leb}
use Rattle.words.specs.Bits.{at}
use Rattle.words.proofs.Searching.{any_at, any_none}
use Rattle.network.specs.Rows.{has_high_bit}
use Rattle.jobfile.specs.Bytes.{number_of}
use Rattle.reader.specs.Stored.{stored_words}
use Rattle.reader.proofs.StoredWords.{word_read}
use Rattle.reader.proofs.stored.has_high_bit.Goals as goal

pub returns-then-last-from_le_bytes : goal.returns-then-last-from_le_bytes
unfolding has_high_bit
returns-then-last-from_le_bytes c =
    let stored = c.args.stored.now in
    let t = c.loop-word.word-index in
    let size = length-map stored number_of in
    let there = c.loop-word-test.true in
    let word = c.from_le_bytes.ensures ∙ word_read stored t there (c.told-stored t there) in
    let broken = le-leb (2 ^ c.args.width) (at (stored_words stored) t)
    (omega (arith, word, c.low_ones-last.ensures, c.if-last-from_le_bytes.true, pow_pos c.args.width)) in
    sym (any_at (λ z. leb (2 ^ c.args.width) (at (stored_words stored) z)) (length (stored_words stored)) t (omega arith) broken)

pub loop-word-preserved : goal.loop-word-preserved
loop-word-preserved c =
    let stored = c.args.stored.now in
    let t = c.loop-word.word-index in
    let there = c.loop-word-test.true in
    let word = c.from_le_bytes.ensures ∙ word_read stored t there (c.told-stored t there) in
    below_more (λ z. leb (2 ^ c.args.width) (at (stored_words stored) z) ≡ false) t c.loop-word.invariant
    (lt-leb (2 ^ c.args.width) (at (stored_words stored) t)
    (omega (arith, word, c.low_ones-last.ensures, c.if-last-from_le_bytes.false, pow_pos c.args.width)))

pub returns : goal.returns
unfolding has_high_bit
returns c =
    let stored = c.args.stored.now in
    let size = length-map stored number_of in
    sym (any_none (λ z. leb (2 ^ c.args.width) (at (stored_words stored) z)) (length (stored_words stored))
    (λ z l. c.loop-word.invariant z (omega (arith, c.loop-word-test.false))))
