-- With the readings of all driver sets, what a look at those of the sets below one finds.
use Rattle.std.proofs.Common.{◌≡◌, ap, ◌∙◌, ◌&&◌, List, ℕ, ◌^◌, ◌≤◌, ◌<◌, arith, eqb, length, take, length-take-le}
use Rattle.std.proofs.Common.{get_or-take}
use Rattle.words.specs.Bits.{at}
use Rattle.words.specs.Searching.{least}
use Rattle.words.proofs.Searching.{least_same}
use Rattle.network.specs.declared.Network.{Network}
use Rattle.network.specs.Reading.{sequential_response}
use Rattle.network.specs.States.{few_drivers}
use Rattle.checker.specs.Rule.{smaller_alike}
use Rattle.checker.specs.Seen.{AllRead, first_alike}

module _ (net : Network) (k : ℕ) (vectors words : List ℕ) (read : AllRead net vectors words) where
  -- among the sets below b, the smallest of the class that reads as b does
  pub finds_smaller : (b : ℕ) → b < 2 ^ net.nets → b ≤ length words
      → first_alike net k (take b words) (at words b) ≡ smaller_alike net k vectors b
  unfolding smaller_alike
  finds_smaller b inside room =
      ap (first_alike net k (take b words)) (read b inside)
      ∙ ap (λ (n : ℕ). least n 0 (λ set. few_drivers net k set && eqb (at (take b words) set) own))
      (length-take-le b words room)
      ∙ least_same _ _ b (λ z l. ap (λ (w : ℕ). few_drivers net k z && eqb w own)
      (get_or-take b words z 0 l ∙ read z (omega arith)))
    where
      own : ℕ
      own = sequential_response net vectors b
