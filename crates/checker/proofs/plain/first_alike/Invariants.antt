use Rattle.std.proofs.Common.{◌≡◌, Bool, false, ◌&&◌, List, ℕ, ◌<◌, eqb}
use Rattle.words.specs.Bits.{at}
use Rattle.network.specs.declared.Network.{Network}
use Rattle.network.specs.States.{few_drivers}
use Rattle.checker.proofs.plain.first_alike.Given as goal

-- what the search tests
abbrev pub alike : Network → ℕ → List ℕ → ℕ → ℕ → Bool
alike net class words word set = few_drivers net class set && eqb (at words set) word

abbrev pub invariant-loop-set : goal.invariant-loop-set
invariant-loop-set l = (z : ℕ) → z < l.set → alike l.net l.class l.words l.word z ≡ false
