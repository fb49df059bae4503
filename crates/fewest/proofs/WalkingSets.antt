-- No set that is passed for k = n is smaller than the walking vectors with the extra vector, if there is one.
use Rattle.std.proofs.Common.{◌≡◌, refl, sym, ap, ◌∙◌, subst, true, false, inl, inr, ⊎_elim, ◌≢◌, List, map, ℕ, ◌+◌}
use Rattle.std.proofs.Common.{◌-◌, ◌^◌, ◌≤◌, ◌<◌, not-suc-le-zero, arith, length, eq-eqb, eqb-true}
use lib.ListN.{length-map}
use Rattle.words.specs.Bits.{has, at}
use Rattle.words.specs.Turning.{tabulate}
use Rattle.words.proofs.Tests.{cases, contrary, less_or_not, not_less}
use Rattle.words.proofs.Making.{map_at}
use Rattle.words.proofs.Columns.{length_tabulate, tabulate_at}
use Rattle.words.proofs.Places.{no_longer}
use Rattle.network.specs.declared.Network.{Network}
use Rattle.network.specs.Reading.{active, walking_vector, extra_vector, needs_extra, extra_vectors}
use Rattle.network.specs.Rows.{Row6, Row7, HighBit, AdmittedNetwork}
use Rattle.network.proofs.Reading.{active_walking, active_extra, walking_below, extra_below, extra_none, extra_most}
use Rattle.network.proofs.Rows.{nets_admitted, no_high_bit}
use Rattle.checker.specs.declared.Verdict.{Verdict}
use Rattle.checker.specs.declared.Verdict.TheVariants.{Pass, Pair}
use Rattle.checker.specs.Rule.{Among, Rule, verdict, shown_state}
use Rattle.checker.proofs.Verdicts.{verdict_rule}
use Rattle.checker.proofs.Separation.{SetsAlike, rule_shows, apart_one_fits, not_one_fits, shown_is_state, shown_differ, shown_alike}
use Rattle.checker.proofs.PassedSets.{passed_sets_apart, passed_check, check_passed}
use Rattle.steps.proofs.BothSteps.{settling_size, settling_extra, settling_walking}
use Rattle.fewest.specs.Fewest.{Separates, TwoStates, Passes, walking_set, walking_count, Fewest}
use Rattle.fewest.proofs.DrivenBits.{driven_bits, driven_bits_below, response_driven_bits}

-- what stands at each place of the walking set: the extra vector first, if there is one, then the walking vectors
data Needed (net : Network) : (place vector : ℕ) → Type 0 where
  extra_first : needs_extra net ≡ true → Needed net 0 (extra_vector net)
  walking_next : (i : ℕ) → i < net.nets → Needed net (length (extra_vectors net) + i) (walking_vector net i)

module _ (net : Network) where
  drives_own : (i : ℕ) → i < net.nets → active net (has (walking_vector net i) i) ≡ true
  drives_own i l = active_walking net i i l l ∙ eq-eqb i i refl

  -- no walking vector is the extra vector, nor that of another net
  not_extra : (i : ℕ) → i < net.nets → walking_vector net i ≢ extra_vector net
  not_extra i l e = contrary (ap (λ (w : ℕ). active net (has w i)) (sym e) ∙ drives_own i l) (active_extra net i l)

  walking_once : (i j : ℕ) → i < net.nets → j < net.nets → walking_vector net i ≡ walking_vector net j → i ≡ j
  walking_once i j l m e = eqb-true i j (sym (active_walking net i j l m) ∙ ap (λ (w : ℕ). active net (has w j)) e ∙ drives_own j m)

  needed_once : (u v x y : ℕ) → Needed net u x → Needed net v y → x ≡ y → u ≡ v
  needed_once u v x y (extra_first s) (extra_first r) e = refl
  needed_once u v x y (extra_first s) (walking_next j m) e = absurd (not_extra j m (sym e))
  needed_once u v x y (walking_next i l) (extra_first r) e = absurd (not_extra i l e)
  needed_once u v x y (walking_next i l) (walking_next j m) e = ap (λ (z : ℕ). length (extra_vectors net) + z) (walking_once i j l m e)

  needed_below : (u x : ℕ) → Needed net u x → x < 2 ^ net.nets
  needed_below u x (extra_first s) = extra_below net
  needed_below u x (walking_next i l) = walking_below net i l

pub two_states_fit : (net : Network) (vectors : List ℕ) → TwoStates net vectors → ¬ (Separates net vectors)
two_states_fit net vectors s =
    not_one_fits net net.nets net.nets vectors s.one s.other s.one_state s.other_state s.differ
    s.same_response

module _ (net : Network) (admitted : AdmittedNetwork net) where
  nets_listed : length (tabulate net.nets (λ i. i)) ≡ net.nets
  nets_listed = length_tabulate net.nets (λ i. i)

  some_net : length (tabulate net.nets (λ i. i)) ≢ 0
  some_net e = omega (arith, nets_listed, nets_admitted net admitted.0, e)

  walking_size : length (walking_set net) ≡ walking_count net
  unfolding walking_set
  walking_size = settling_size net (tabulate net.nets (λ i. i)) some_net
      ∙ ap (λ (x : ℕ). x + length (extra_vectors net)) nets_listed

  extra_at : needs_extra net ≡ true → at (walking_set net) 0 ≡ extra_vector net
  unfolding walking_set
  extra_at s = settling_extra net s (tabulate net.nets (λ i. i)) some_net

  walking_at : (i : ℕ) → i < net.nets → at (walking_set net) (length (extra_vectors net) + i) ≡ walking_vector net i
  unfolding walking_set
  walking_at i l =
      settling_walking net (tabulate net.nets (λ i. i)) i (omega (arith, nets_listed, l))
      ∙ ap (walking_vector net) (tabulate_at net.nets (λ i. i) i l)

  needed_at : (u : ℕ) → u < length (walking_set net) → Needed net u (at (walking_set net) u)
  needed_at u l =
      ⊎_elim (λ m. ⊎_elim (first m) (none m) (cases (needs_extra net))) (λ m. next (u - length (extra_vectors net)) (omega (arith, m)))
      (less_or_not u (length (extra_vectors net)))
    where
      moved : (v x : ℕ) → at (walking_set net) v ≡ x → v ≡ u → Needed net v x → Needed net u (at (walking_set net) u)
      moved v x e same n = subst (λ (w : ℕ). Needed net w (at (walking_set net) w)) same (rw e n)

      first : u < length (extra_vectors net) → needs_extra net ≡ true → Needed net u (at (walking_set net) u)
      first m s = moved 0 (extra_vector net) (extra_at s) (omega (arith, m, extra_most net)) (extra_first s)

      none : u < length (extra_vectors net) → needs_extra net ≡ false → Needed net u (at (walking_set net) u)
      none m s = absurd (not-suc-le-zero {n = u} (rw (extra_none net s) at m))

      next : (i : ℕ) → length (extra_vectors net) + i ≡ u → Needed net u (at (walking_set net) u)
      next i e =
          let inside : i < net.nets = omega (arith, l, e, walking_size) in
          moved (length (extra_vectors net) + i) (walking_vector net i) (walking_at i inside) e (walking_next i inside)

  walking_narrow : ¬ (HighBit net.nets (walking_set net))
  walking_narrow (u, l, high) = let below = needed_below net u _ (needed_at u l) in omega (arith, high, below)

  walking_passes_rule : Rule net net.nets (walking_set net) Pass
  walking_passes_rule = inl (
    refl,
    (
      λ s. (0, omega (arith, walking_size, nets_admitted net admitted.0), extra_at s),
      λ i l. (length (extra_vectors net) + i, omega (arith, walking_size, l), walking_at i l),
    ),
  )

  -- ---- a set that is passed has them all

  rule_size : (vectors : List ℕ) → Rule net net.nets vectors Pass → walking_count net ≤ length vectors
  rule_size vectors (inr (d, r)) = absurd (d refl)
  rule_size vectors (inl (same, (extra, walking))) =
      rw (← walking_size) (no_longer (walking_set net) vectors
      (λ u v l m e. needed_once net u v _ _ (needed_at u l) (needed_at v m) e)
      (λ u l. among u _ (needed_at u l)))
    where
      among : (u x : ℕ) → Needed net u x → Among x vectors
      among u x (extra_first s) = extra s
      among u x (walking_next i l) = walking i l

  pub two_states : (vectors : List ℕ) → length vectors < walking_count net → TwoStates net vectors
  two_states vectors short = go (verdict net net.nets low) (verdict_rule net net.nets low)
    where
      low : List ℕ
      low = map (driven_bits net) vectors

      size : length low ≡ length vectors
      size = length-map vectors (driven_bits net)

      narrow : (t : ℕ) → t < length low → at low t < 2 ^ net.nets
      narrow t l = rw (map_at (driven_bits net) 0 vectors t (rw size at l)) (driven_bits_below net (at vectors t))

      two : 2 ≤ net.nets
      two = (nets_admitted net admitted.0).0

      some : 1 ≤ net.nets
      some = omega (arith, two)

      shown : (a b : ℕ) → SetsAlike net net.nets low a b → TwoStates net vectors
      shown a b s = record {
        one = shown_state net.nets a;
        other = shown_state net.nets b;
        one_state = shown_is_state net net.nets net.nets some a s.first_set;
        other_state = shown_is_state net net.nets net.nets some b s.second_set;
        differ = shown_differ net net.nets net.nets some a b s.differ;
        same_response = sym (response_driven_bits net (shown_state net.nets a) vectors)
            ∙ shown_alike net net.nets net.nets some low a b s.read_alike
            ∙ response_driven_bits net (shown_state net.nets b) vectors;
      }

      go : (v : Verdict) → Rule net net.nets low v → TwoStates net vectors
      go Pass r = absurd (let h = rule_size low r in omega (arith, h, size, short))
      go (Pair a b) r = shown a b (rule_shows net net.nets low (Pair a b) two narrow r)

  separating_size : (vectors : List ℕ) → Separates net vectors → walking_count net ≤ length vectors
  separating_size vectors one =
      not_less (length vectors) (walking_count net) (λ short. two_states_fit net vectors (two_states vectors short) one)

  -- ---- and what the call says

  rule_separates : (vectors : List ℕ) → ¬ (HighBit net.nets vectors) → Rule net net.nets vectors Pass
      → Separates net vectors
  rule_separates vectors narrow r =
      apart_one_fits net net.nets net.nets vectors
      (rule_shows net net.nets vectors Pass (nets_admitted net admitted.0).0
      (no_high_bit net.nets vectors narrow) r)

  passed_separates : (vectors : List ℕ) → Passes net vectors → Separates net vectors
  passed_separates vectors e =
      apart_one_fits net net.nets net.nets vectors
      (passed_sets_apart net net.nets vectors (check_passed net net.nets vectors e))

  walking_passes : Passes net (walking_set net)
  walking_passes =
      passed_check net net.nets (walking_set net) (
        (admitted.0, (class, (admitted.1.0, (admitted.1.1.0, (count, (walking_narrow, tt)))))),
        walking_passes_rule,
      )
    where
      class : ¬ (Row6 net net.nets)
      class (inl n) = n (inr (inr (inr (inl refl))))
      class (inr l) = omega (arith, l)

      count : ¬ (Row7 (walking_set net))
      count (inl l) = omega (arith, l, walking_size, nets_admitted net admitted.0)
      count (inr l) = omega (arith, l, walking_size, nets_admitted net admitted.0, extra_most net)

pub separating : Fewest Separates walking_set walking_count
separating = record {
  of_kind = λ net admitted. rule_separates net admitted (walking_set net) (walking_narrow net admitted) (walking_passes_rule net admitted);
  exactly = walking_size;
  at_least = separating_size;
}

pub passed : Fewest Passes walking_set walking_count
passed = record {
  of_kind = walking_passes;
  exactly = walking_size;
  at_least = λ net admitted vectors e. separating_size net admitted vectors (passed_separates net admitted vectors e);
}
