use Rattle.std.proofs.Common.{◌≡◌, ℕ, ◌^◌, ◌<◌, false, leb}
use Rattle.shorter.proofs.floors.floor.Given as goal

abbrev pub invariant-loop-q : goal.invariant-loop-q
invariant-loop-q l = (z : ℕ) → z < l.q → leb l.count (2 ^ z) ≡ false
