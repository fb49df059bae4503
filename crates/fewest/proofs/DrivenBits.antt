-- No receiver reads the bits of a vector at or above n.
use Rattle.std.proofs.Common.{◌≡◌, refl, ap, ap₂, ◌∙◌, Bool, ◌&&◌, List, [], ◌∷◌, map, ℕ, ◌^◌, ◌<◌, mod-lt, bit_and}
use Rattle.std.proofs.Common.{pow_pos}
use lib.Bits.{and_mask}
use Rattle.words.specs.Bits.{has, at}
use Rattle.words.proofs.Tests.{and_true}
use Rattle.words.proofs.Bits.{has_and}
use Rattle.words.proofs.Making.{made_equal}
use Rattle.network.specs.declared.Network.{Network}
use Rattle.network.specs.Reading.{all_drivers, reads, response_word, response}
use Rattle.network.specs.States.{Fits}
use Rattle.network.proofs.Reading.{has_every, reads_same}
use Rattle.fewest.specs.Fewest.{Separates}

-- what the n drivers drive on a vector
unfoldable pub driven_bits : Network → ℕ → ℕ
driven_bits net vector = bit_and vector (all_drivers net)

module _ (net : Network) where
  pub driven_bits_below : (vector : ℕ) → driven_bits net vector < 2 ^ net.nets
  unfolding driven_bits all_drivers
  driven_bits_below vector = rw (and_mask vector net.nets) (mod-lt vector (pow_pos net.nets))

  has_driven_bits : (vector j : ℕ) → j < net.nets → has (driven_bits net vector) j ≡ has vector j
  unfolding driven_bits
  has_driven_bits vector j l =
      has_and vector (all_drivers net) j ∙ ap (λ (b : Bool). has vector j && b) (has_every net j l) ∙ and_true (has vector j)

  pub response_driven_bits : (state vectors : List ℕ) → response net state (map (driven_bits net) vectors) ≡ response net state vectors
  unfolding response response_word
  response_driven_bits state [] = refl
  response_driven_bits state (v ∷ vectors) =
      ap₂ ◌∷◌
      (made_equal (λ reach. reads net reach (driven_bits net v)) state (λ reach. reads net reach v)
      (λ i l. reads_same net (at state i) (driven_bits net v) v (has_driven_bits v)))
      (response_driven_bits state vectors)

  -- vectors tell states apart if they do without the bits at or above n
  pub separates_by_bits : (vectors : List ℕ) → Separates net (map (driven_bits net) vectors) → Separates net vectors
  separates_by_bits vectors one responses s u p q = one responses s u (low s p) (low u q)
    where
      low : (state : List ℕ) → Fits net net.nets net.nets vectors responses state
          → Fits net net.nets net.nets (map (driven_bits net) vectors) responses state
      low state f = record { of_class = f.of_class; gives = response_driven_bits state vectors ∙ f.gives }
