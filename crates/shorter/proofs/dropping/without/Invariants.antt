use Rattle.std.proofs.Common.{◌≡◌, take}
use Rattle.shorter.specs.Shorter.{without}
use Rattle.shorter.proofs.dropping.without.Given as goal

-- of the words so far
abbrev pub invariant-loop-t : goal.invariant-loop-t
invariant-loop-t l = l.less.items ≡ without l.fn.i (take l.t l.word-items)
