use Rattle.std.proofs.Common.{◌≡◌, ℕ, ◌<◌, ◌^◌, false}
use Rattle.std.specs.Prelude.{leb}
use Rattle.words.specs.Bits.{at}
use Rattle.reader.specs.Stored.{stored_words}
use Rattle.reader.proofs.stored.has_high_bit.Given as goal

abbrev pub invariant-loop-word : goal.invariant-loop-word
invariant-loop-word l = (z : ℕ) → z < l.word-index → leb (2 ^ l.width) (at (stored_words l.stored) z) ≡ false
