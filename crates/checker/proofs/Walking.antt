-- The verdict for k = n, from one pass over the vectors.
use Rattle.std.proofs.Common.{◌≡◌, sym, ap, ap₂, ◌∙◌, Bool, true, false, not, ◌||◌, List, ℕ, ◌+◌, ◌-◌, ◌^◌, ◌≤◌, ◌<◌}
use Rattle.std.proofs.Common.{not-suc-le-zero, lt_of_not-le, arith, bit_or, eqb, length, pow_pos, pow_mono, eq-eqb}
use Rattle.std.proofs.Common.{eqb-true}
use lib.Bits.{or_lt}
use lib.Count.{count_trailing_zeros}
use borrow.Author.Tests.{not-true}
use Rattle.words.specs.Bits.{has, at}
use Rattle.words.specs.Searching.{position, any, among}
use Rattle.words.proofs.Bits.{has_zero, has_or, has_all_less}
use Rattle.words.proofs.Classes.{lowest_one_at_most, has_lowest_one, none_below_lowest}
use Rattle.words.proofs.Searching.{least_found, least_missing, any_none, any_more}
use Rattle.words.proofs.Tests.{same_truth}
use Rattle.network.specs.declared.Network.{Network}
use Rattle.network.specs.Reading.{all_drivers, all_but, walking_vector, extra_vector}
use Rattle.network.proofs.Walking.{Names}
use Rattle.checker.specs.declared.Verdict.TheVariants.{Pass, Pair}
use Rattle.checker.specs.Rule.{pair_without, extra_missing, full_verdict}

module _ (net : Network) (vectors : List ℕ) where
  -- the walking vectors of the nets below i are there
  abbrev pub WalkingBelow : ℕ → Type 0
  WalkingBelow i = (z : ℕ) → z < i → not (among (walking_vector net z) vectors) ≡ false

  pub no_extra : extra_missing net vectors ≡ true → full_verdict net vectors ≡ Pair 0 (all_drivers net)
  unfolding full_verdict
  no_extra e = rw e

  pub no_walking : (i : ℕ) → i < net.nets → extra_missing net vectors ≡ false → WalkingBelow i
      → among (walking_vector net i) vectors ≡ false
      → full_verdict net vectors ≡ Pair (all_but net i) (all_drivers net)
  unfolding full_verdict
  no_walking i l e h f = rw e
      (ap (pair_without net) (least_found (λ z. not (among (walking_vector net z) vectors)) net.nets i l h
      (ap not f)))

  pub all_there : (i : ℕ) → net.nets ≤ i → extra_missing net vectors ≡ false → WalkingBelow i → full_verdict net vectors ≡ Pass
  unfolding full_verdict
  all_there i l e h =
      rw e (ap (pair_without net) (least_missing (λ z. not (among (walking_vector net z) vectors)) net.nets (λ z m. h z (omega arith))))

  -- ---- the pass

  -- whether a word is among the first t vectors
  abbrev among_first : ℕ → ℕ → Bool
  among_first t word = any t (λ u. eqb (at vectors u) word)

  -- what the first t vectors show
  pub record Shown (t : ℕ) (extra : Bool) (drivers : ℕ) : Type 0 where
    pub extra_is : extra ≡ among_first t (extra_vector net)
    pub inside : drivers < 2 ^ net.nets
    pub drivers_are : (i : ℕ) → i < net.nets → has drivers i ≡ among_first t (walking_vector net i)

  nothing_first : (word : ℕ) → among_first 0 word ≡ false
  nothing_first word = any_none (λ u. eqb (at vectors u) word) 0 (λ u l. absurd (not-suc-le-zero l))

  pub shown_first : Shown 0 false 0
  shown_first = record {
    extra_is = sym (nothing_first (extra_vector net));
    inside = pow_pos net.nets;
    drivers_are = λ i l. has_zero i ∙ sym (nothing_first (walking_vector net i));
  }

  pub shown_more : (t : ℕ) (extra : Bool) (drivers set : ℕ) → Shown t extra drivers → Names net (at vectors t) set
      → Shown (t + 1) (extra || eqb (at vectors t) (extra_vector net)) (bit_or drivers set)
  shown_more t extra drivers set s (small, names) = record {
    extra_is = ap (λ (b : Bool). b || eqb (at vectors t) (extra_vector net)) s.extra_is
        ∙ sym (any_more (λ u. eqb (at vectors u) (extra_vector net)) t);
    inside = or_lt net.nets drivers set s.inside small;
    drivers_are = λ i l. has_or drivers set i ∙ ap₂ (λ (a b : Bool). a || b) (s.drivers_are i l) (named i l)
        ∙ sym (any_more (λ u. eqb (at vectors u) (walking_vector net i)) t);
  }
    where
      named : (i : ℕ) → i < net.nets → has set i ≡ eqb (at vectors t) (walking_vector net i)
      named i l = same_truth _ _ (λ e. eq-eqb _ _ ((names i l).0 e)) (λ e. (names i l).1 (eqb-true _ _ e))

  -- all vectors, said as the rule asks
  pub shown_all : (extra : Bool) (drivers : ℕ) → Shown (length vectors) extra drivers
      → (extra ≡ among (extra_vector net) vectors)
      × (drivers < 2 ^ net.nets)
      × ((i : ℕ) → i < net.nets → has drivers i ≡ among (walking_vector net i) vectors)
  unfolding among position any
  shown_all extra drivers s = (s.extra_is, s.inside, s.drivers_are)

  -- ---- the drivers that are missing

  module _ (all drivers : ℕ) (all_is : all ≡ all_drivers net) (inside : drivers < 2 ^ net.nets)
      (walked : (i : ℕ) → i < net.nets → has drivers i ≡ among (walking_vector net i) vectors) where
    abbrev missing : ℕ
    missing = all - drivers

    pub at_most_all : drivers ≤ all
    unfolding all_drivers
    at_most_all = omega (arith, all_is, inside)

    has_missing : (i : ℕ) → i < net.nets → has missing i ≡ not (among (walking_vector net i) vectors)
    unfolding all_drivers
    has_missing i l =
        ap (λ (x : ℕ). has (x - drivers) i) all_is ∙ has_all_less net.nets drivers i inside l ∙ ap not (walked i l)

    missing_below : missing < 2 ^ net.nets
    unfolding all_drivers
    missing_below = let h = pow_pos net.nets in omega (arith, all_is)

    pub none_missing : missing ≡ 0 → extra_missing net vectors ≡ false → full_verdict net vectors ≡ Pass
    none_missing none e =
        all_there net.nets (omega arith) e (λ z l. sym (has_missing z l) ∙ ap (λ (x : ℕ). has x z) none ∙ has_zero z)

    module _ (some : 0 < missing) where
      pub lowest_inside : count_trailing_zeros 64 missing < net.nets
      lowest_inside =
          lt_of_not-le
          (λ l. let h = pow_mono {i = net.nets} {j = count_trailing_zeros 64 missing} l in
          omega (arith, missing_below, lowest_one_at_most 64 missing some))

      pub lowest_missing : net.nets ≤ 48 → extra_missing net vectors ≡ false
          → full_verdict net vectors ≡ Pair (all_but net (count_trailing_zeros 64 missing)) (all_drivers net)
      lowest_missing most e =
          let h = pow_mono {i = net.nets} {j = 64} (omega arith) in
          no_walking (count_trailing_zeros 64 missing) lowest_inside e
          (λ z l. sym (has_missing z (omega (arith, lowest_inside))) ∙ none_below_lowest 64 missing z l)
          (not-true _ (sym (has_missing _ lowest_inside) ∙ has_lowest_one 64 missing some (omega (arith, missing_below))))
