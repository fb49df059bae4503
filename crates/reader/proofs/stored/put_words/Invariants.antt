use Rattle.std.proofs.Common.{◌≡◌, ◌++◌, take, drop}
use Rattle.reader.specs.Stored.{stored_words}
use Rattle.reader.proofs.stored.put_words.Given as goal

abbrev pub invariant-loop-t : goal.invariant-loop-t
invariant-loop-t l = l.out ≡ take l.t (stored_words l.stored) ++ drop l.t l.initial.out
