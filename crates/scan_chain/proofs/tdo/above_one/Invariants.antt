use Rattle.std.proofs.Common.{◌≡◌, ltb}
use Rattle.words.specs.Bits.{at}
use Rattle.words.specs.Searching.{any}
use Rattle.scan_chain.proofs.tdo.above_one.Given as goal

-- whether one of the bytes so far is above 1
abbrev pub invariant-loop-byte : goal.invariant-loop-byte
invariant-loop-byte l = l.found ≡ any l.byte-index (λ z. ltb 1 (at l.bytes z))
