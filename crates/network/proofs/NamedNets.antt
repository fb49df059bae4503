-- What the nets named so far say of row 21.
use Rattle.std.proofs.Common.{◌≡◌, sym, ap, ◌∙◌, Bool, true, false, not, ◌||◌, ⊎_elim, List, ℕ, ◌+◌, ◌^◌, ◌<◌}
use Rattle.std.proofs.Common.{not-suc-le-zero, arith, bit_or, pow_pos, below_more, eqb, length, eq-eqb, ne_eqb}
use lib.Bits.{or_lt}
use lib.Pow.{pow-lt}
use borrow.Author.Tests.{not-true, not-false}
use Rattle.words.specs.Bits.{has, at}
use Rattle.words.specs.Searching.{any, among}
use Rattle.words.proofs.Bits.{words_equal, has_zero, has_own, has_only, has_or}
use Rattle.words.proofs.Searching.{any_some, any_false, decides_among}
use Rattle.words.proofs.Tests.{cases, contrary, same_truth, test_passes, or_right, or_cases}
use Rattle.network.specs.declared.Network.{Network}
use Rattle.network.specs.Reading.{all_drivers}
use Rattle.network.proofs.Reading.{all_below, has_every}

-- the nets of the first r receivers, as a set
pub record Named (net : Network) (owners : List ℕ) (named r : ℕ) : Type 0 where
  pub inside : named < 2 ^ net.nets
  pub nets : (z : ℕ) → z < r → at owners z < net.nets
  pub sound : (i : ℕ) → has named i ≡ true → (z : ℕ) × (z < r) × (at owners z ≡ i)
  pub complete : (z : ℕ) → z < r → has named (at owners z) ≡ true

-- of all receivers: some net has none exactly where it is not every net
module _ (net : Network) (owners : List ℕ) (named : ℕ) (all : Named net owners named (length owners)) where
  is_named : (i : ℕ) → among i owners ≡ has named i
  is_named i =
      same_truth (among i owners) (has named i)
      (λ e. let w = (decides_among i owners).0 e in ap (has named) (sym w.2) ∙ all.complete w.0 w.1)
      (λ e. test_passes (decides_among i owners) (all.sound i e))

  pub every_net_named : not (eqb named (all_drivers net)) ≡ any net.nets (λ i. not (among i owners))
  every_net_named = same_truth _ _ there back
    where
      there : not (eqb named (all_drivers net)) ≡ true → any net.nets (λ i. not (among i owners)) ≡ true
      there e = ⊎_elim (λ f. f) (λ f. contrary (eq-eqb _ _ (every f)) (not-true _ e))
          (cases (any net.nets (λ i. not (among i owners))))
        where
          every : any net.nets (λ i. not (among i owners)) ≡ false → named ≡ all_drivers net
          every f =
              words_equal net.nets named (all_drivers net) all.inside (all_below net)
              (λ i l. sym (is_named i) ∙ not-false _ (any_false (λ x. not (among x owners)) net.nets i l f)
              ∙ sym (has_every net i l))

      back : any net.nets (λ i. not (among i owners)) ≡ true → not (eqb named (all_drivers net)) ≡ true
      back e =
          let w = any_some (λ i. not (among i owners)) net.nets e in
          ap not (ne_eqb named (all_drivers net)
          (λ q. contrary (is_named w.0 ∙ ap (λ (x : ℕ). has x w.0) q ∙ has_every net w.0 w.1)
          (not-true _ w.2)))

-- one receiver more
module _ (net : Network) (owners : List ℕ) (named r : ℕ) (so_far : Named net owners named r)
    (inside : at owners r < net.nets) where
  pub named_more : Named net owners (bit_or named (2 ^ at owners r)) (r + 1)
  named_more = record {
    inside = or_lt net.nets named (2 ^ at owners r) so_far.inside (pow-lt inside);
    nets = below_more (λ z. at owners z < net.nets) r so_far.nets inside;
    sound = λ i e. ⊎_elim
        (λ f. let w = so_far.sound i f in (w.0, omega (arith, w.1), w.2))
        (λ f. (r, omega arith, has_only (at owners r) i f))
        (or_cases (has named i) (has (2 ^ at owners r) i) (sym (has_or named (2 ^ at owners r) i) ∙ e));
    complete = below_more (λ z. has (bit_or named (2 ^ at owners r)) (at owners z) ≡ true) r
        (λ z l. has_or named (2 ^ at owners r) (at owners z)
        ∙ ap (λ (b : Bool). b || has (2 ^ at owners r) (at owners z)) (so_far.complete z l))
        (has_or named (2 ^ at owners r) (at owners r) ∙ or_right (has named (at owners r)) _ (has_own (at owners r)));
  }

pub named_none : (net : Network) (owners : List ℕ) → Named net owners 0 0
named_none net owners = record {
  inside = pow_pos net.nets;
  nets = λ z l. absurd (not-suc-le-zero l);
  sound = λ i e. contrary e (has_zero i);
  complete = λ z l. absurd (not-suc-le-zero l);
}
