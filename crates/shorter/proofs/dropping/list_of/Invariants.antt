use Rattle.std.proofs.Common.{◌≡◌, take}
use Rattle.shorter.proofs.dropping.list_of.Given as goal

abbrev pub invariant-loop-word : goal.invariant-loop-word
invariant-loop-word l = l.list.items ≡ take l.word-index l.words
