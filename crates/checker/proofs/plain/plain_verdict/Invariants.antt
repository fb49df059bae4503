use Rattle.std.proofs.Common.{◌≡◌, false, ℕ, ◌<◌}
use Rattle.checker.proofs.Ascending.{confused_at}
use Rattle.checker.proofs.plain.plain_verdict.Given as goal

abbrev pub invariant-loop-b : goal.invariant-loop-b
invariant-loop-b l = (z : ℕ) → z < l.b → confused_at l.net l.class l.vectors z ≡ false
