use Rattle.std.proofs.Common.{◌≡◌, ◌++◌, length, take, drop}
use Rattle.words.specs.Turning.{transpose}
use Rattle.turning.proofs.fill.Given as goal

abbrev pub invariant-loop-i : goal.invariant-loop-i
invariant-loop-i g l =
    (length l.out ≡ length l.initial.out) × (l.out ≡ take l.i (transpose l.count l.rows) ++ drop l.i l.initial.out)
