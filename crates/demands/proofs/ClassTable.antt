-- The cases of classes: which there are by the row's own words, the rest by computation.
use Rattle.std.proofs.Common.{◌≡◌, refl, ◌⊎◌, inl, inr, ⊎_elim, ℕ, ◌≤◌, ◌<◌, arith}
use Rattle.words.proofs.Tests.{less_or_not, three_ways}
use Rattle.network.specs.declared.Network.{Network}
use Rattle.network.specs.Rows.{NamedClass, Row6}
use Rattle.diagnosis.specs.Open.{open_diagnosis}
use Rattle.demands.specs.ClassCases.{RowSix, SmallClasses, ClassCases}

module _ (net : Network) (k : ℕ) where
  -- a class of the row's words that is not above n
  let_through : NamedClass net k → k ≤ net.nets → ¬ (Row6 net k)
  let_through named most = ⊎_elim (λ none. none named) (λ above. omega (arith, above, most))

  any_class : net.nets ≤ 10 → 1 ≤ k → k ≤ net.nets → NamedClass net k
  any_class small some most = by_class (three_ways k 3)
    where
      up_to_3 : (k ≤ 1) ⊎ (1 < k) → k ≤ 2 → NamedClass net k
      up_to_3 (inl l) m = inl (omega arith)
      up_to_3 (inr l) m = inr (inl (omega arith))

      above_3 : 3 < k → (k < net.nets) ⊎ (net.nets ≤ k) → NamedClass net k
      above_3 l (inl below) = inr (inr (inr (inr (small, (l, below)))))
      above_3 l (inr at_least_lem) = inr (inr (inr (inl (omega arith))))

      by_class : (k < 3) ⊎ ((k ≡ 3) ⊎ (3 < k)) → NamedClass net k
      by_class (inl l) = up_to_3 (⊎_elim (λ m. inr m) (λ m. inl m) (less_or_not 1 k)) (omega arith)
      by_class (inr (inl e)) = inr (inr (inl e))
      by_class (inr (inr l)) = above_3 l (less_or_not k net.nets)

  -- above 10 nets the last of the row's words does not hold
  one_of_four : 10 < net.nets → NamedClass net k → (k ≡ 1) ⊎ ((k ≡ 2) ⊎ ((k ≡ 3) ⊎ (k ≡ net.nets)))
  one_of_four large (inl e) = inl e
  one_of_four large (inr (inl e)) = inr (inl e)
  one_of_four large (inr (inr (inl e))) = inr (inr (inl e))
  one_of_four large (inr (inr (inr (inl e)))) = inr (inr (inr e))
  one_of_four large (inr (inr (inr (inr (small, _))))) = absurd (not_both small)
    where
      not_both : net.nets ≤ 10 → ⊥
      not_both l = omega (arith, l, large)

  one_named : (k ≡ 1) ⊎ ((k ≡ 2) ⊎ ((k ≡ 3) ⊎ (k ≡ net.nets))) → NamedClass net k
  one_named (inl e) = inl e
  one_named (inr (inl e)) = inr (inl e)
  one_named (inr (inr (inl e))) = inr (inr (inl e))
  one_named (inr (inr (inr e))) = inr (inr (inr (inl e)))

row_six : RowSix
unfolding open_diagnosis
row_six = record {
  any_to_10 = λ net k small some most. let_through net k (any_class net k small some most) most;
  always = λ net k named most. let_through net k (one_named net k named) most;
  no_others = λ net k large not_1 not_2 not_3 not_n.
      inl (λ named. ⊎_elim not_1 (⊎_elim not_2 (⊎_elim not_3 not_n)) (one_of_four net k large named));
  not_0 = λ net two. inl (
      ⊎_elim (λ e. omega (arith, e)) (⊎_elim (λ e. omega (arith, e)) (⊎_elim (λ e. omega (arith, e))
      (⊎_elim (λ e. omega (arith, e, two)) (λ small. omega (arith, small.1.0))))));
  not_above = λ net k above. inr above;
  ten_4 = refl;
  ten_9 = refl;
  ten_10 = refl;
  ten_11 = refl;
  eleven_3 = refl;
  eleven_4 = refl;
  eleven_9 = refl;
  eleven_10 = refl;
  eleven_11 = refl;
  respond_eleven_4 = refl;
  diagnose_eleven_4 = refl;
}

small_classes : SmallClasses
unfolding open_diagnosis
small_classes = record {
  five_3 = refl;
  five_4 = refl;
  six_3 = refl;
  six_4 = refl;
  last_3 = refl;
  last_4 = refl;
  empty_or_0 = refl;
  empty_or_1 = refl;
  empty_and_0 = refl;
  empty_and_1 = refl;
  eight_4 = refl;
  eight_5 = refl;
  seven_5 = refl;
  seven_6 = refl;
  walking_or_0 = refl;
  walking_or_1 = refl;
  walking_and_0 = refl;
  walking_and_1 = refl;
  one_less = refl;
  with_0 = refl;
  class_n = refl;
  searched_n = refl;
  class_n_walking = refl;
  searched_n_walking = refl;
  responds_or = refl;
  responds_and = refl;
  four_of_3 = refl;
  five_of_4 = refl;
  five_of_5 = refl;
  reads_or_0 = refl;
  reads_or_1 = refl;
  reads_and_0 = refl;
  reads_and_1 = refl;
  reads_receivers = refl;
  no_state = refl;
  floating = refl;
  conflict = refl;
  not_passed = refl;
  passed_for_3 = refl;
  no_room = refl;
}

pub class_cases : ClassCases
class_cases = record { row_6 = row_six; small_classes = small_classes }
