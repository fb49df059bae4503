-- The cases, computed or by the claims, and the false claims, each by a list that breaks it.
use Rattle.std.proofs.Common.{◌≡◌, refl, sym, ap, ◌∙◌, false, not, List, map, ⊎_elim, ℕ, suc, ◌+◌, ◌≤◌, ◌<◌, arith}
use Rattle.std.proofs.Common.{bit_or, eqb, ltb, length, eqb-true, ltb-true}
use borrow.Author.Tests.{not-false}
use Rattle.words.specs.Answers.{refused}
use Rattle.words.specs.Bits.{has, at}
use Rattle.words.specs.Searching.{any}
use Rattle.words.specs.Turning.{transpose}
use Rattle.words.proofs.Answers.{refused_not_full}
use Rattle.words.proofs.Tests.{contrary, or_right}
use Rattle.words.proofs.Bits.{has_or}
use Rattle.words.proofs.Searching.{any_false}
use Rattle.network.specs.declared.Network.{Network}
use Rattle.network.specs.Reading.{network_with, wired_or, wired_and, extra_vectors}
use Rattle.network.specs.Rows.{AdmittedNetwork}
use Rattle.network.proofs.Rows.{is_bit, above_bits}
use Rattle.checker.specs.Check.{check_answer}
use Rattle.steps.specs.FirstStep.{word_length, first_vectors}
use Rattle.steps.proofs.StepOneWords.{covers, some_covers, apart_by_test}
use Rattle.fewest.specs.Fewest.{Covers, UncoveredWords, Uncovered, Separates, Passes}
use Rattle.fewest.specs.Fewest.{walking_set, walking_count, AtLeast, Fewest}
use Rattle.fewest.specs.FewestCases.{two, four, seven, forty_eight, four_pulled_down, four_wired_and, four_pulled_down_and}
use Rattle.fewest.specs.FewestCases.{five_vectors, five_bit_words, counting, above_the_nets}
use Rattle.fewest.specs.FewestCases.{Different, Combined, FewestCases, FalseClaims}
use Rattle.fewest.specs.Open.{open_fewest}
use Rattle.fewest.proofs.FirstSteps.{apart_none_covers}
use Rattle.fewest.proofs.DrivenBits.{driven_bits, separates_by_bits}
use Rattle.fewest.proofs.WalkingSets.{two_states_fit}
use Rattle.fewest.proofs.NoneShorter.{none_shorter}

admitted : (n level gate : ℕ) → 2 ≤ n → n ≤ 48 → level ≤ 1 → gate ≤ 1 → AdmittedNetwork (network_with n level gate)
admitted n level gate low high l g =
    (⊎_elim (λ m. omega (arith, m, low)) (λ m. omega (arith, m, high)), (is_bit level l, (is_bit gate g, tt)))

two_admitted : AdmittedNetwork two
two_admitted = admitted 2 1 0 (omega arith) (omega arith) (omega arith) (omega arith)

four_of : (level gate : ℕ) → level ≤ 1 → gate ≤ 1 → AdmittedNetwork (network_with 4 level gate)
four_of level gate = admitted 4 level gate (omega arith) (omega arith)

seven_of : (level gate : ℕ) → level ≤ 1 → gate ≤ 1 → AdmittedNetwork (network_with 7 level gate)
seven_of level gate = admitted 7 level gate (omega arith) (omega arith)

four_admitted : AdmittedNetwork four
four_admitted = four_of 1 0 (omega arith) (omega arith)

seven_admitted : AdmittedNetwork seven
seven_admitted = seven_of 1 0 (omega arith) (omega arith)

forty_eight_admitted : AdmittedNetwork forty_eight
forty_eight_admitted = admitted 48 1 0 (omega arith) (omega arith) (omega arith) (omega arith)

length_of_2 : word_length two ≡ 2
unfolding open_fewest
length_of_2 = refl

length_of_7 : word_length seven ≡ 5
unfolding open_fewest
length_of_7 = refl

length_of_48 : word_length forty_eight ≡ 8
unfolding open_fewest
length_of_48 = refl

count_or_1 : (n : ℕ) → walking_count (wired_or n 1) ≡ n + 1
unfolding open_fewest
count_or_1 n = refl

count_or_0 : (n : ℕ) → walking_count (wired_or n 0) ≡ n
unfolding open_fewest
count_or_0 n = omega arith

count_and_1 : (n : ℕ) → walking_count (wired_and n 1) ≡ n
unfolding open_fewest
count_and_1 n = omega arith

count_and_0 : (n : ℕ) → walking_count (wired_and n 0) ≡ n + 1
unfolding open_fewest
count_and_0 n = refl

-- ---- the cases

-- a word that another adds nothing to covers it
covers_by_or : (a b : ℕ) → bit_or a b ≡ a → Covers a b
covers_by_or a b e t h = ap (λ (w : ℕ). has w t) (sym e) ∙ has_or a b t ∙ or_right (has a t) (has b t) h

five_uncovered : some_covers 5 five_bit_words ≡ false
unfolding open_fewest covers some_covers
five_uncovered = refl

five_below : any 7 (λ i. not (ltb (at five_bit_words i) 32)) ≡ false
unfolding open_fewest
five_below = refl

five_words : UncoveredWords seven 5 five_bit_words
five_words = record {
  one_a_net = refl;
  below = λ i l. ltb-true _ _ (not-false _ (any_false (λ i. not (ltb (at five_bit_words i) 32)) 7 i l five_below));
  none_covers = apart_none_covers 5 five_bit_words (apart_by_test 5 five_bit_words five_uncovered);
}

five_turned : transpose 7 five_vectors ≡ five_bit_words
unfolding open_fewest
five_turned = refl

five_serve : Uncovered seven five_vectors
five_serve = rw five_turned five_words.none_covers

above_driven : map (driven_bits four) above_the_nets ≡ walking_set four
unfolding open_fewest driven_bits
above_driven = refl

above_serves : Separates four above_the_nets
above_serves =
    separates_by_bits four above_the_nets
    (rw above_driven (none_shorter.separating.of_kind four four_admitted))

above_refused : check_answer four 4 above_the_nets ≡ refused 8
unfolding open_fewest
above_refused = refl

pub fewest_cases : FewestCases
unfolding open_fewest
fewest_cases = record {
  admitted = admitted;
  no_other_level = λ n level gate high ok. ok.1.0 (above_bits level high);
  no_other_gate = λ n level gate high ok. ok.1.1.0 (above_bits gate high);
  lengths = λ level gate. refl;
  covers = covers_by_or 13 9 refl;
  covers_not = λ c. contrary (c 2 refl) refl;
  covers_not_above = λ c. contrary (c 8 refl) refl;
  five_turned = five_turned;
  five_serve = five_serve;
  five_words = five_words;
  too_few_for_7 = λ vectors e. none_shorter.two_nets seven seven_admitted vectors (omega (arith, e, length_of_7));
  too_few_for_48 = λ vectors e. none_shorter.two_nets forty_eight forty_eight_admitted vectors (omega (arith, e, length_of_48));
  counting_words = refl;
  count_or_1 = count_or_1;
  count_or_0 = count_or_0;
  count_and_1 = count_and_1;
  count_and_0 = count_and_0;
  walking_of_4 = refl;
  six_pass = refl;
  walking_of_4_at_0 = refl;
  four_pass_at_0 = refl;
  three_fail_at_0 = λ vectors e p.
      omega (arith, e, count_or_0 4, none_shorter.passed.at_least four_pulled_down (four_of 0 0 (omega arith) (omega arith)) vectors p);
  too_few_at_0 = λ vectors e.
      none_shorter.two_states four_pulled_down (four_of 0 0 (omega arith) (omega arith)) vectors (omega (arith, e, count_or_0 4));
  walking_of_4_and = refl;
  four_pass_and = refl;
  too_few_and = λ vectors e.
      none_shorter.two_states four_wired_and (four_of 1 1 (omega arith) (omega arith)) vectors (omega (arith, e, count_and_1 4));
  walking_of_4_and_0 = refl;
  five_pass_and_0 = refl;
  too_few_and_0 = λ vectors e.
      none_shorter.two_states four_pulled_down_and (four_of 0 1 (omega arith) (omega arith)) vectors
      (omega (arith, e, count_and_0 4));
  above_serves = above_serves;
  above_refused = λ e. refused_not_full above_refused e;
  too_few_for_class_48 = λ vectors e. none_shorter.two_states forty_eight forty_eight_admitted vectors (omega (arith, e, count_or_1 48));
  two_states_fit = two_states_fit;
}

-- ---- the false claims

counted : any 7 (λ i. not (eqb (at (transpose 7 counting) i) (suc i))) ≡ false
unfolding open_fewest
counted = refl

counting_differs : Different seven counting
counting_differs i j l m d e =
    let word : (x : ℕ) → x < 7 → at (transpose 7 counting) x ≡ suc x = λ x k.
    eqb-true _ _ (not-false _ (any_false (λ i. not (eqb (at (transpose 7 counting) i) (suc i))) 7 x k counted)) in
    let same : suc i ≡ suc j = sym (word i l) ∙ e ∙ word j m in
    d (omega arith)

-- a larger count than that of the fewest is broken by our own list, even if the claim is of one level and gate alone
too_many : (kind : Network → List ℕ → Type 0) (ours : Network → List ℕ) (count more : Network → ℕ) → Fewest kind ours count
    → (net : Network) → AdmittedNetwork net → count net < more net → ¬ (AtLeast (Combined net.level net.gate kind) more)
too_many kind ours count more fewest net ok l claim =
    omega (arith, l, fewest.exactly net ok, claim net ok (ours net) (refl, refl, fewest.of_kind net ok))

pub false_claims : FalseClaims
false_claims = record {
  longer_step = λ claim. omega (arith, length_of_7, claim seven seven_admitted five_vectors five_serve);
  three_for_all = λ claim. too_many Uncovered first_vectors word_length (λ net. 3) none_shorter.first_step two two_admitted
      (omega (arith, length_of_2)) (λ net ok vectors h. claim net ok vectors h.2);
  covering = λ claim. omega (arith, length_of_7, claim seven seven_admitted counting tt);
  differing = λ claim. omega (arith, length_of_7, claim seven seven_admitted counting counting_differs);
  larger_separating = λ level gate l g. too_many Separates walking_set walking_count (λ net. walking_count net + 1)
      none_shorter.separating (network_with 7 level gate) (seven_of level gate l g) (omega arith);
  larger_passed = λ level gate l g. too_many Passes walking_set walking_count (λ net. walking_count net + 1) none_shorter.passed
      (network_with 7 level gate) (seven_of level gate l g) (omega arith);
  same_for_all = λ level gate l g. too_many Passes walking_set walking_count (λ net. 3 + length (extra_vectors net))
      none_shorter.passed (network_with 2 level gate) (admitted 2 level gate (omega arith) (omega arith) l g) (omega arith);
  n_enough = λ r.
      omega (arith, r.1, count_or_1 7, none_shorter.passed.at_least seven seven_admitted r.0 r.2);
  n_enough_and = λ r.
      omega (
        arith,
        r.1,
        count_and_0 7,
        none_shorter.passed.at_least (wired_and 7 0) (seven_of 0 1 (omega arith) (omega arith)) r.0 r.2,
      );
}
