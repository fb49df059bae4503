use Rattle.std.proofs.Common.{ℕ, ◌≡◌, map, take}
use Rattle.words.specs.Bits.{word}
use Rattle.network.specs.Reading.{active, reads}
use Rattle.network.specs.Joint.{ActiveBits}
use Rattle.network.proofs.receivers.response_word.Given as goal

-- the active readings so far, on any vector that has these active bits
abbrev pub invariant-loop-i : goal.invariant-loop-i
invariant-loop-i l = (vector : ℕ) → ActiveBits l.net 64 vector l.bits
    → l.w ≡ word (map (λ reach. active l.net (reads l.net reach vector)) (take l.i l.state))
