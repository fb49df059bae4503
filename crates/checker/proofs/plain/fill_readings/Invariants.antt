use Rattle.std.proofs.Common.{◌≡◌, ℕ, ◌<◌}
use Rattle.words.specs.Bits.{at}
use Rattle.network.specs.Reading.{sequential_response}
use Rattle.checker.proofs.plain.fill_readings.Given as goal

abbrev pub invariant-loop-set : goal.invariant-loop-set
invariant-loop-set l = (z : ℕ) → z < l.set → at l.words z ≡ sequential_response l.net l.vectors z
