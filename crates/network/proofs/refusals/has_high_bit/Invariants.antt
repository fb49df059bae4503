use Rattle.std.proofs.Common.{◌≡◌, ℕ, ◌<◌, ◌^◌, false, leb}
use Rattle.words.specs.Bits.{at}
use Rattle.network.proofs.refusals.has_high_bit.Given as goal

abbrev pub invariant-loop-word : goal.invariant-loop-word
invariant-loop-word l = (z : ℕ) → z < l.word-index → leb (2 ^ l.width) (at l.words z) ≡ false
