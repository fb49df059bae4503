use Rattle.std.proofs.Common.{◌≡◌}
use Rattle.steps.proofs.WordsTaken.{words_taken}
use Rattle.steps.proofs.first.sequential_words.Given as goal

abbrev pub invariant-loop-word : goal.invariant-loop-word
invariant-loop-word l = l.words.items ≡ words_taken l.fn.nets.network l.word
