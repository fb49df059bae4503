use Rattle.std.proofs.Common.{◌≡◌}
use Rattle.findings.proofs.FindingsLaws.{filled}
use Rattle.findings.proofs.findings.Given as goal

-- the table is filled up to the turn's receiver
abbrev pub invariant-loop-r : goal.invariant-loop-r
invariant-loop-r l = l.table ≡ filled l.fn.net l.fn.receivers l.fn.state l.r l.fn.table
