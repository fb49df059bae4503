use Rattle.std.proofs.Common.{ℕ, ◌<◌, ◌≡◌, List, ◌++◌, length}
use Rattle.words.specs.Bits.{at}
use Rattle.network.specs.declared.Network.{Network}
use Rattle.network.specs.States.{Fits}
use Rattle.steps.specs.SecondStep.{session_vectors}
use Rattle.steps.proofs.settling.decoded.Given as goal

-- receiver i has this reach in every state that fits
abbrev pub OnlyReach : Network → (owners first second : List ℕ) → ℕ → ℕ → Type 0
OnlyReach net owners first second i reach = (state : List ℕ)
    → Fits net (length owners) net.nets (session_vectors net owners first) (first ++ second) state
    → reach ≡ at state i

abbrev pub invariant-loop-r : goal.invariant-loop-r
invariant-loop-r l =
    let both = l.fn.both in
    let owners = both.board.receivers.now in
    (length l.reaches.items ≡ l.r)
    × ((z : ℕ) → z < l.r → OnlyReach both.board.nets.network owners both.first.now both.second.now z (at l.reaches.items z))
