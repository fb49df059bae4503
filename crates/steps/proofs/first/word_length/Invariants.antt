use Rattle.std.proofs.Common.{ℕ, ◌<◌}
use Rattle.words.specs.Bits.{at}
use Rattle.steps.proofs.StepOneWords.{central_numbers}
use Rattle.steps.proofs.first.word_length.Given as goal

abbrev pub invariant-loop-p : goal.invariant-loop-p
invariant-loop-p l = (q : ℕ) → q < l.p → at central_numbers q < l.fn.nets.network.nets
