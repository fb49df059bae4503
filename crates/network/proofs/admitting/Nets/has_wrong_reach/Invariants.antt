use Rattle.std.proofs.Common.{◌≡◌, Bool, false, not, ◌&&◌, ℕ, ◌<◌, ◌^◌, ltb}
use Rattle.words.specs.Bits.{at}
use Rattle.network.specs.declared.Network.{Network}
use Rattle.network.specs.States.{few_drivers}
use Rattle.network.proofs.admitting.Nets.has_wrong_reach.Given as goal

abbrev pub wrong : Network → ℕ → ℕ → Bool
wrong net class reach = not (ltb reach (2 ^ net.nets) && few_drivers net class reach)

abbrev pub invariant-loop-reach : goal.invariant-loop-reach
invariant-loop-reach l = (z : ℕ) → z < l.reach-index → wrong l.self.network l.class (at l.state z) ≡ false
