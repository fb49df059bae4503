use Rattle.std.proofs.Common.{◌≡◌, length}
use Rattle.diagnosis.proofs.classes.no_reaches.Given as goal

abbrev pub invariant-loop-i : goal.invariant-loop-i
invariant-loop-i l = length l.reaches.items ≡ l._i
