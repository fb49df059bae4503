use Rattle.std.proofs.Common.{◌≡◌, ℕ, ◌<◌, false}
use Rattle.jobfile.specs.Layout.{bad_entry}
use Rattle.reader.proofs.layout.bad_layout.Given as goal

abbrev pub invariant-loop-i : goal.invariant-loop-i
invariant-loop-i l = (z : ℕ) → z < l.i → bad_entry l.file z ≡ false
