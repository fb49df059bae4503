-- The driver that a walking vector names.
use Rattle.std.proofs.Common.{◌≡◌, refl, sym, ap, ◌∙◌, true, ⊎_elim, ◌≢◌, ◌↔◌, ℕ, ◌^◌, ◌≤◌, ◌<◌, arith, eqb, pow_pos}
use Rattle.std.proofs.Common.{eq-eqb, ne_eqb}
use lib.Count.{count_trailing_zeros}
use lib.Pow.{pow-lt}
use Rattle.words.specs.Bits.{has}
use Rattle.words.proofs.Tests.{contrary, three_ways}
use Rattle.words.proofs.Bits.{has_zero, has_power, has_only}
use Rattle.words.proofs.Classes.{has_where_zeros_end, none_below_lowest}
use Rattle.network.specs.declared.Network.{Network}
use Rattle.network.specs.Reading.{active, walking_vector}
use Rattle.network.specs.Joint.{ActiveBits}
use Rattle.network.proofs.Reading.{active_walking}

-- the trailing zeros of the active bits of a walking vector are its net
pub walking_names : (net : Network) (vector bits i : ℕ) → net.nets ≤ 48 → i < net.nets → ActiveBits net net.nets vector bits
    → vector ≡ walking_vector net i → count_trailing_zeros 64 bits ≡ i
walking_names net vector bits i most l shown e = ⊎_elim low (λ w. ⊎_elim (λ q. q) high w) (three_ways (count_trailing_zeros 64 bits) i)
  where
    bit_at : (j : ℕ) → j < net.nets → has bits j ≡ eqb i j
    bit_at j m = shown j m ∙ ap (λ (w : ℕ). active net (has w j)) e ∙ active_walking net i j l m

    low : count_trailing_zeros 64 bits < i → count_trailing_zeros 64 bits ≡ i
    low h =
        contrary (has_where_zeros_end 64 bits (omega arith))
        (bit_at (count_trailing_zeros 64 bits) (omega arith) ∙ ne_eqb _ _ (λ (q : i ≡ count_trailing_zeros 64 bits). omega arith))

    high : i < count_trailing_zeros 64 bits → count_trailing_zeros 64 bits ≡ i
    high h = contrary (bit_at i l ∙ eq-eqb i i refl) (none_below_lowest 64 bits i h)

-- what the set says of the vectors that name its driver
abbrev pub Names : Network → ℕ → ℕ → Type 0
Names net vector set = (set < 2 ^ net.nets) × ((i : ℕ) → i < net.nets → (has set i ≡ true) ↔ (vector ≡ walking_vector net i))

pub names_none : (net : Network) (vector : ℕ) → ((i : ℕ) → i < net.nets → vector ≢ walking_vector net i) → Names net vector 0
names_none net vector h = (pow_pos net.nets, λ i l. (λ e. contrary e (has_zero i), λ e. absurd (h i l e)))

-- a walking vector names one driver
pub names_one : (net : Network) (vector j : ℕ) → j < net.nets → vector ≡ walking_vector net j → Names net vector (2 ^ j)
names_one net vector j l e = (
  pow-lt l,
  λ i m. (
    λ h. e ∙ ap (walking_vector net) (has_only j i h),
    λ q. has_power j i ∙ sym (active_walking net j i l m) ∙ ap (λ (w : ℕ). active net (has w i)) (sym e ∙ q)
        ∙ active_walking net i i m m ∙ eq-eqb i i refl,
  ),
)
