use Rattle.std.proofs.Common.{◌≡◌, map, take}
use Rattle.words.specs.Bits.{word}
use Rattle.network.specs.Reading.{active, reads}
use Rattle.network.proofs.receivers.sequential_response.Given as goal

-- the active readings so far
abbrev pub invariant-loop-t : goal.invariant-loop-t
invariant-loop-t l = l.w ≡ word (map (λ vector. active l.net (reads l.net l.reach vector)) (take l.t l.vectors))
