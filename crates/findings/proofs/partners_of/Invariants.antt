use Rattle.std.proofs.Common.{◌≡◌, ℕ}
use Rattle.words.specs.Bits.{has}
use Rattle.words.specs.Searching.{any}
use Rattle.findings.specs.Findings.{joins_at}
use Rattle.findings.proofs.partners_of.Given as goal

abbrev pub invariant-loop-s : goal.invariant-loop-s
invariant-loop-s l = (j : ℕ) → has l.joined j ≡ any l.s (joins_at l.board.receivers.now l.state l.r j)
