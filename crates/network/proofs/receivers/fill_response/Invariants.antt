use Rattle.std.proofs.Common.{◌≡◌, map, ◌++◌, length, take, drop}
use Rattle.network.specs.Reading.{response_word}
use Rattle.network.proofs.receivers.fill_response.Given as goal

abbrev pub invariant-loop-written : goal.invariant-loop-written
invariant-loop-written l = (length l.out ≡ length l.initial.out)
    × (l.out ≡ map (response_word l.net l.state) (take l.written l.vectors) ++ drop l.written l.initial.out)
