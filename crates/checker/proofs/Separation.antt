-- What a verdict of the rule shows: pass tells the sets of the class apart, so that at most one state fits a response;
-- a pair is two sets that no vector tells apart, and two states with equal responses.
use Rattle.std.proofs.Common.{◌≡◌, refl, sym, ap, ◌∙◌, subst, true, ◌⊎◌, inl, inr, ⊎_elim, ◌≢◌, List, ℕ, zero, suc}
use Rattle.std.proofs.Common.{◌-◌, ◌^◌, ◌≤◌, ◌<◌, zero-le, arith, length, replicate, pow_pos}
use lib.ListN.{length-replicate, get_or-replicate, get_or-eq_default}
use Rattle.words.specs.Bits.{has, at}
use Rattle.words.proofs.Tests.{contrary, three_ways, less_or_not}
use Rattle.words.proofs.Bits.{has_zero}
use Rattle.words.proofs.Classes.{ones_at_most, ones_of_zero}
use Rattle.network.specs.declared.Network.{Network}
use Rattle.network.specs.Reading.{all_drivers, all_but, walking_vector, extra_vector, reads, ReadAlike, response}
use Rattle.network.specs.States.{DriverSet, State, AtMostOneFits}
use Rattle.network.proofs.Reading.{all_below, all_but_less, all_not_empty, walking_apart, empty_as_all, all_but_as_all}
use Rattle.network.proofs.Reading.{response_alike, alike_response}
use Rattle.network.proofs.States.{states_equal}
use Rattle.checker.specs.declared.Verdict.{Verdict}
use Rattle.checker.specs.declared.Verdict.TheVariants.{Pass, Pair}
use Rattle.checker.specs.Rule.{Among, FullRule, BoundedRule, Rule, shown_state}

-- no two sets of the class read alike
abbrev pub SetsApart : Network → ℕ → List ℕ → Type 0
SetsApart net k vectors = (a b : ℕ) → DriverSet net k a → DriverSet net k b → ReadAlike net vectors a b → a ≡ b

-- two different sets of the class that read alike
pub record SetsAlike (net : Network) (k : ℕ) (vectors : List ℕ) (a b : ℕ) : Type 0 where
  pub first_set : DriverSet net k a
  pub second_set : DriverSet net k b
  pub differ : a ≢ b
  pub read_alike : ReadAlike net vectors a b

abbrev pub Shows : Network → ℕ → List ℕ → Verdict → Type 0
Shows net k vectors Pass = SetsApart net k vectors
Shows net k vectors (Pair a b) = SetsAlike net k vectors a b

-- ---- k below n

pub bounded_shows : (net : Network) (k : ℕ) (vectors : List ℕ) (v : Verdict) → BoundedRule net k vectors v → Shows net k vectors v
bounded_shows net k vectors Pass none = λ a b p q h. apart a b p q h (three_ways a b)
  where
    apart : (a b : ℕ) → DriverSet net k a → DriverSet net k b → ReadAlike net vectors a b → (a < b) ⊎ ((a ≡ b) ⊎ (b < a)) → a ≡ b
    apart a b p q h (inl l) = absurd (none a b (record { smaller = l; first_set = p; second_set = q; read_alike = h }))
    apart a b p q h (inr (inl e)) = e
    apart a b p q h (inr (inr l)) =
        absurd (none b a (record { smaller = l; first_set = q; second_set = p; read_alike = λ t m. sym (h t m) }))
bounded_shows net k vectors (Pair a b) r = record {
  first_set = r.0.first_set;
  second_set = r.0.second_set;
  differ = (let l = r.0.smaller in λ e. omega arith);
  read_alike = r.0.read_alike;
}

-- ---- k = n

module _ (net : Network) (vectors : List ℕ) (two : 2 ≤ net.nets)
    (narrow : (t : ℕ) → t < length vectors → at vectors t < 2 ^ net.nets) where
  any_set : (set : ℕ) → set < 2 ^ net.nets → DriverSet net net.nets set
  any_set set l = record { inside = l; few = ones_at_most net.nets set }

  -- a vector of the set is not a word that is missing from it
  not_missing : (word t : ℕ) → t < length vectors → ¬ (Among word vectors) → at vectors t ≢ word
  not_missing word t l none e = none (t, l, e)

  full_shows : (v : Verdict) → FullRule net vectors v → Shows net net.nets vectors v
  full_shows Pass (extra, walking) = λ a b p q h.
      walking_apart net a b p.inside q.inside (λ s. on a b h (extra_vector net) (extra s))
      (λ i l. on a b h (walking_vector net i) (walking i l))
    where
      on : (a b : ℕ) → ReadAlike net vectors a b → (word : ℕ) → Among word vectors → reads net a word ≡ reads net b word
      on a b h word (t, l, e) = subst (λ (x : ℕ). reads net a x ≡ reads net b x) e (h t l)
  full_shows (Pair a b) (inl (none, x, y)) = record {
    first_set = rw x (any_set 0 (pow_pos net.nets));
    second_set = rw y (any_set (all_drivers net) (all_below net));
    differ = λ e. all_not_empty net (omega arith) (sym y ∙ sym e ∙ x);
    read_alike = λ t l. rw (x, y)
        (empty_as_all net none.0 (at vectors t) (narrow t l) (not_missing (extra_vector net) t l none.1));
  }
  full_shows (Pair a b) (inr (some, (i, l, none, smaller, x, y))) =
      let less = all_but_less net i l in
      let below = all_below net in record {
        first_set = rw x (any_set (all_but net i) (omega arith));
        second_set = rw y (any_set (all_drivers net) below);
        differ = λ e. let q : all_but net i ≡ all_drivers net = sym x ∙ e ∙ y in omega arith;
        read_alike = λ t m. rw (x, y)
            (all_but_as_all net i (at vectors t) two l (narrow t m) (not_missing (walking_vector net i) t m none));
      }

pub rule_shows : (net : Network) (k : ℕ) (vectors : List ℕ) (v : Verdict) → 2 ≤ net.nets
    → ((t : ℕ) → t < length vectors → at vectors t < 2 ^ net.nets)
    → Rule net k vectors v → Shows net k vectors v
rule_shows net k vectors v two narrow (inl (e, r)) =
    subst (λ (x : ℕ). Shows net x vectors v) (sym e) (full_shows net vectors two narrow v r)
rule_shows net k vectors v two narrow (inr (e, r)) = bounded_shows net k vectors v r

-- ---- states

-- sets apart: at most one state of the class fits a response
pub apart_one_fits : (net : Network) (m k : ℕ) (vectors : List ℕ) → SetsApart net k vectors
    → AtMostOneFits net m k vectors
apart_one_fits net m k vectors h responses s u p q =
    let size : length s ≡ length u = p.of_class.size ∙ sym q.of_class.size in
    states_equal net m k s u p.of_class q.of_class
    (λ i l. h (at s i) (at u i) (p.of_class.reach i l) (q.of_class.reach i (rw size at l))
    (response_alike net s u vectors size (p.gives ∙ sym q.gives) i l))

-- two different states of the class with equal responses: both fit
pub not_one_fits : (net : Network) (m k : ℕ) (vectors s u : List ℕ) → State net m k s → State net m k u → s ≢ u
    → response net s vectors ≡ response net u vectors → ¬ (AtMostOneFits net m k vectors)
not_one_fits net m k vectors s u p q differ e one =
    differ (one (response net u vectors) s u (record { of_class = p; gives = e }) (record { of_class = q; gives = refl }))

module _ (net : Network) (m k : ℕ) (some : 1 ≤ m) where
  shown_first : (set : ℕ) → at (shown_state m set) 0 ≡ set
  unfolding shown_state
  shown_first set = refl

  shown_later : (set i : ℕ) → at (shown_state m set) (suc i) ≡ 0
  unfolding shown_state
  shown_later set i = ⊎_elim (get_or-replicate (m - 1) i 0 0)
      (λ l. get_or-eq_default (replicate (m - 1) 0) 0 (rw length-replicate l))
      (less_or_not i (m - 1))

  shown_size : (set : ℕ) → length (shown_state m set) ≡ m
  unfolding shown_state
  shown_size set = let h = length-replicate {A = ℕ} (m - 1) 0 in omega arith

  pub shown_is_state : (set : ℕ) → DriverSet net k set → State net m k (shown_state m set)
  shown_is_state set h = record {
    size = shown_size set;
    reach = λ i l. elim i as (λ x. DriverSet net k (at (shown_state m set) x)) [
      | zero ↦ rw (shown_first set) h
      | suc x ↦ rw (shown_later set x) (record { inside = pow_pos net.nets; few = rw (ones_of_zero net.nets) zero-le })
    ];
    meet_only_if_equal = λ i j x li lj lx p q. meet i j x p q;
  }
    where
      meet : (i j x : ℕ) → has (at (shown_state m set) i) x ≡ true → has (at (shown_state m set) j) x ≡ true
          → at (shown_state m set) i ≡ at (shown_state m set) j
      meet zero zero x p q = refl
      meet zero (suc j) x p q = contrary q (ap (λ (y : ℕ). has y x) (shown_later set j) ∙ has_zero x)
      meet (suc i) j x p q = contrary p (ap (λ (y : ℕ). has y x) (shown_later set i) ∙ has_zero x)

  pub shown_differ : (a b : ℕ) → a ≢ b → shown_state m a ≢ shown_state m b
  shown_differ a b d e = d (sym (shown_first a) ∙ ap (λ (s : List ℕ). at s 0) e ∙ shown_first b)

  pub shown_alike : (vectors : List ℕ) (a b : ℕ) → ReadAlike net vectors a b
      → response net (shown_state m a) vectors ≡ response net (shown_state m b) vectors
  shown_alike vectors a b h =
      alike_response net (shown_state m a) (shown_state m b) vectors (shown_size a ∙ sym (shown_size b))
      (λ i l. each i)
    where
      each : (i : ℕ) → ReadAlike net vectors (at (shown_state m a) i) (at (shown_state m b) i)
      each zero t l =
          ap (λ (x : ℕ). reads net x (at vectors t)) (shown_first a) ∙ h t l
          ∙ ap (λ (x : ℕ). reads net x (at vectors t)) (sym (shown_first b))
      each (suc i) t l = ap (λ (x : ℕ). reads net x (at vectors t)) (shown_later a i ∙ sym (shown_later b i))
