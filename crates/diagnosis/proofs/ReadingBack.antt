-- What is read back is the state that fits, and there is none exactly where the test says so.
use Rattle.std.proofs.Common.{◌≡◌, sym, ap, ◌∙◌, subst, Bool, true, false, not, ◌&&◌, ⊎_elim, List, ℕ, ◌^◌, ◌≤◌, ◌<◌}
use Rattle.std.proofs.Common.{zero-le, le_refl, arith, eqb, length, ext_get_or, eq-eqb, eqb-true}
use mathlib.Core.Bool.{false≢true}
use borrow.Author.Tests.{not-false}
use Rattle.std.specs.Prelude.{Option}
use Rattle.std.specs.Prelude.{Some, None}
use Rattle.words.specs.Answers.{Decides}
use Rattle.words.specs.Bits.{has, at}
use Rattle.words.specs.Searching.{is_found, or_zero, any}
use Rattle.words.specs.Turning.{column}
use Rattle.words.proofs.Tests.{cases, contrary, and_left, and_right, and_both, neither, test_passes}
use Rattle.words.proofs.Searching.{Least, first, nowhere, least_below, any_none, any_false}
use Rattle.words.proofs.Bits.{words_equal}
use Rattle.words.proofs.Columns.{length_tabulate, tabulate_at, column_below, has_column}
use Rattle.network.specs.declared.Network.{Network}
use Rattle.network.specs.Reading.{reads, ReadAlike, sequential_response, response}
use Rattle.network.specs.States.{DriverSet, State, Fits, few_drivers, has_conflict}
use Rattle.network.proofs.Reading.{decides_reads, has_sequential, sequential_below, sequential_alike, response_is, response_determined}
use Rattle.network.proofs.States.{few_drivers_at, few_drivers_of, no_conflict, conflict_free}
use Rattle.checker.proofs.Separation.{SetsApart}
use Rattle.diagnosis.specs.ReadBack.{reach_read, read_back, no_state_fits}
use Rattle.checker.specs.Seen.{OnlyAnswer}

-- ---- answers of single receivers

module _ (net : Network) (vectors responses : List ℕ) (size : length responses ≡ length vectors) where
  -- a set reads as receiver i answered exactly where it does on each vector
  answers_so : (set i : ℕ) → ((t : ℕ) → t < length vectors → reads net set (at vectors t) ≡ has (at responses t) i)
      → sequential_response net vectors set ≡ column responses i
  answers_so set i h =
      words_equal (length vectors) (sequential_response net vectors set) (column responses i)
      (sequential_below net vectors set) (rw size at (column_below responses i))
      (λ t l. has_sequential net vectors set t l ∙ h t l ∙ sym (has_column responses i t (rw size l)))

  answered_so : (set i : ℕ) → sequential_response net vectors set ≡ column responses i → (t : ℕ) → t < length vectors
      → reads net set (at vectors t) ≡ has (at responses t) i
  answered_so set i e t l = sym (has_sequential net vectors set t l) ∙ ap (λ (w : ℕ). has w t) e ∙ has_column responses i t (rw size l)

  -- the reaches of a state that fits answer so
  pub fits_answers : (m k : ℕ) (state : List ℕ) → Fits net m k vectors responses state → (i : ℕ) → i < length state
      → sequential_response net vectors (at state i) ≡ column responses i
  fits_answers m k state h i inside = answers_so (at state i) i (λ t l. bit t l)
    where
      bit : (t : ℕ) → t < length vectors → reads net (at state i) (at vectors t) ≡ has (at responses t) i
      bit t l =
          let b = (response_is net state vectors).bits t i l inside in
          let d = decides_reads net (at state i) (at vectors t) in
          let same : has (at (response net state vectors) t) i ≡ has (at responses t) i =
          ap (λ (ws : List ℕ). has (at ws t) i) h.gives in
          ⊎_elim (λ e. e ∙ sym (sym same ∙ b.1 (d.0 e)))
          (λ e. e ∙ sym (⊎_elim (λ f. absurd (d.1 e (b.0 (same ∙ f)))) (λ f. f) (cases (has (at responses t) i))))
          (cases (reads net (at state i) (at vectors t)))

  -- and a state whose reaches answer so gives the response
  pub answers_fit : (m k : ℕ) (state : List ℕ) → State net m k state
      → ((t : ℕ) → t < length responses → at responses t < 2 ^ m)
      → ((i : ℕ) → i < length state → sequential_response net vectors (at state i) ≡ column responses i)
      → Fits net m k vectors responses state
  answers_fit m k state s narrow h = record {
    of_class = s;
    gives = response_determined net state vectors (response net state vectors) responses (response_is net state vectors)
        (record {
          one_a_vector = size;
          no_high_bit = λ t l. rw s.size (narrow t l);
          bits = λ t i l inside.
              let d = decides_reads net (at state i) (at vectors t) in
              let same : reads net (at state i) (at vectors t) ≡ has (at responses t) i =
              answered_so (at state i) i (h i inside) t l in (
                λ e. d.0 (same ∙ e),
                λ r. sym same ∙ test_passes d r,
              );
        });
  }

-- ---- reading back

module _ (net : Network) (m k : ℕ) (vectors responses : List ℕ) where
  reach_test : ℕ → ℕ → Bool
  reach_test i set = few_drivers net k set && eqb (sequential_response net vectors set) (column responses i)

  reach_is : (i : ℕ) → Least (reach_test i) 0 (2 ^ net.nets) (reach_read net k vectors (column responses i))
  unfolding reach_read reach_test
  reach_is i = least_below (reach_test i) (2 ^ net.nets)

  pub read_size : length (read_back net m k vectors responses) ≡ m
  unfolding read_back
  read_size = length_tabulate m _

  read_at : (i : ℕ) → i < m → at (read_back net m k vectors responses) i
      ≡ or_zero (reach_read net k vectors (column responses i))
  unfolding read_back
  read_at i l = tabulate_at m (λ j. or_zero (reach_read net k vectors (column responses j))) i l

  -- what is read for a receiver that some set explains
  explained : (i : ℕ) → is_found (reach_read net k vectors (column responses i)) ≡ true
      → DriverSet net k (or_zero (reach_read net k vectors (column responses i)))
      × (sequential_response net vectors (or_zero (reach_read net k vectors (column responses i))) ≡ column responses i)
  unfolding is_found reach_test
  explained i e = go (reach_read net k vectors (column responses i)) (reach_is i) e
    where
      go : (s : Option ℕ) → Least (reach_test i) 0 (2 ^ net.nets) s → is_found s ≡ true
          → DriverSet net k (or_zero s) × (sequential_response net vectors (or_zero s) ≡ column responses i)
      go (Some set) (first x y z w) f = (
        record { inside = y; few = few_drivers_at net k set (and_left (few_drivers net k set) _ z) },
        eqb-true _ _ (and_right (few_drivers net k set) _ z),
      )
      go None r f = absurd (false≢true f)

  pub read_back_fits : length responses ≡ length vectors → ((t : ℕ) → t < length responses → at responses t < 2 ^ m)
      → no_state_fits net m k vectors responses ≡ false
      → Fits net m k vectors responses (read_back net m k vectors responses)
  unfolding no_state_fits
  read_back_fits size narrow e =
      answers_fit net vectors responses size m k (read_back net m k vectors responses)
      (record {
        size = read_size;
        reach = λ i l. rw (read_at i (below i l)) (each i (below i l)).0;
        meet_only_if_equal = no_conflict net (read_back net m k vectors responses) parts.1;
      })
      narrow (λ i l. ap (sequential_response net vectors) (read_at i (below i l)) ∙ (each i (below i l)).1)
    where
      parts : (any m (λ i. not (is_found (reach_read net k vectors (column responses i)))) ≡ false)
          × (has_conflict net (read_back net m k vectors responses) ≡ false)
      parts = neither (any m (λ i. not (is_found (reach_read net k vectors (column responses i)))))
          (has_conflict net (read_back net m k vectors responses)) e

      below : (i : ℕ) → i < length (read_back net m k vectors responses) → i < m
      below i l = rw read_size at l

      each : (i : ℕ) → i < m
          → DriverSet net k (or_zero (reach_read net k vectors (column responses i)))
          × (sequential_response net vectors (or_zero (reach_read net k vectors (column responses i))) ≡ column responses i)
      each i l = explained i (not-false _
          (any_false (λ j. not (is_found (reach_read net k vectors (column responses j)))) m i l
          parts.0))

  -- a state that fits is what is read back, if each of its reaches is the smallest set that reads so
  pub smallest_read_back : length responses ≡ length vectors → (state : List ℕ) → Fits net m k vectors responses state
      → ((i set : ℕ) → i < m → DriverSet net k set → ReadAlike net vectors set (at state i) → at state i ≤ set)
      → (no_state_fits net m k vectors responses ≡ false) × (read_back net m k vectors responses ≡ state)
  unfolding no_state_fits is_found reach_test
  smallest_read_back size state h smallest = (rw (none, free), same)
    where
      inside : (i : ℕ) → i < m → i < length state
      inside i l = rw h.of_class.size l

      reached : (i : ℕ) → i < m → reach_read net k vectors (column responses i) ≡ Some (at state i)
      reached i l = go (reach_read net k vectors (column responses i)) (reach_is i)
        where
          passes : reach_test i (at state i) ≡ true
          passes =
              and_both (few_drivers_of net k (at state i) (h.of_class.reach i (inside i l)))
              (eq-eqb _ _ (fits_answers net vectors responses size m k state h i (inside i l)))

          go : (s : Option ℕ) → Least (reach_test i) 0 (2 ^ net.nets) s → s ≡ Some (at state i)
          go (Some set) (first x y z w) =
              let d : DriverSet net k set = record { inside = y; few = few_drivers_at net k set (and_left (few_drivers net k set) _ z) } in
              let alike : ReadAlike net vectors set (at state i) =
              sequential_alike net vectors set (at state i)
              (eqb-true _ _ (and_right (few_drivers net k set) _ z)
              ∙ sym (fits_answers net vectors responses size m k state h i (inside i l))) in
              let up : at state i ≤ set = smallest i set l d alike in
              let down : at state i < set → ⊥ = λ less. contrary passes (w (at state i) zero-le less) in
              let q : set ≡ at state i = omega (arith, up, down) in ap Some q
          go None (nowhere w) = contrary passes (w (at state i) zero-le (h.of_class.reach i (inside i l)).inside)

      same : read_back net m k vectors responses ≡ state
      same =
          ext_get_or 0 (read_back net m k vectors responses) state (read_size ∙ sym h.of_class.size)
          (λ i l. read_at i (rw read_size at l) ∙ ap or_zero (reached i (rw read_size at l)))

      none : any m (λ i. not (is_found (reach_read net k vectors (column responses i)))) ≡ false
      none = any_none (λ i. not (is_found (reach_read net k vectors (column responses i)))) m
          (λ i l. ap (λ s. not (is_found s)) (reached i l))

      free : has_conflict net (read_back net m k vectors responses) ≡ false
      free = ap (has_conflict net) same ∙ conflict_free net state h.of_class.meet_only_if_equal

  -- as it is where sets are told apart
  pub fits_read_back : length responses ≡ length vectors → SetsApart net k vectors → (state : List ℕ)
      → Fits net m k vectors responses state
      → (no_state_fits net m k vectors responses ≡ false) × (read_back net m k vectors responses ≡ state)
  fits_read_back size apart state h =
      smallest_read_back size state h
      (λ i set l d alike. rw (apart set (at state i) d (h.of_class.reach i (rw h.of_class.size l)) alike) (le_refl _))

  -- the test decides whether some state fits
  pub decides_no_state_fits : length responses ≡ length vectors
      → ((t : ℕ) → t < length responses → at responses t < 2 ^ m) → SetsApart net k vectors
      → Decides (no_state_fits net m k vectors responses) (¬ ((state : List ℕ) × Fits net m k vectors responses state))
  decides_no_state_fits size narrow apart = (
    λ e w. contrary e (fits_read_back size apart w.0 w.1).0,
    λ e n. n (read_back net m k vectors responses, read_back_fits size narrow e),
  )

  -- reaches that alone can have answered so are those of a state that fits
  pub only_answers_fit : length responses ≡ length vectors → (candidate : List ℕ) → length candidate ≡ m
      → ((i : ℕ) → i < m → OnlyAnswer net k vectors (column responses i) (at candidate i))
      → (state : List ℕ) → Fits net m k vectors responses state → candidate ≡ state
  only_answers_fit size candidate full only state h =
      ext_get_or 0 candidate state (full ∙ sym h.of_class.size)
      (λ i l. let below : i < m = rw full at l in
      let inside : i < length state = rw h.of_class.size below in
      sym (only i below (at state i) (h.of_class.reach i inside)
      (fits_answers net vectors responses size m k state h i inside)))

  -- where the only candidate does not fit, no state does
  pub candidate_fails : length responses ≡ length vectors
      → ((t : ℕ) → t < length responses → at responses t < 2 ^ m) → (candidate : List ℕ)
      → ((state : List ℕ) → Fits net m k vectors responses state → candidate ≡ state)
      → ¬ (Fits net m k vectors responses candidate)
      → no_state_fits net m k vectors responses ≡ true
  candidate_fails size narrow candidate only no! =
      ⊎_elim (λ e. e) none (cases (no_state_fits net m k vectors responses))
    where
      none : no_state_fits net m k vectors responses ≡ false → no_state_fits net m k vectors responses ≡ true
      none e =
          let fits = read_back_fits size narrow e in
          absurd
          (no! (subst (Fits net m k vectors responses)
          (sym (only (read_back net m k vectors responses) fits)) fits))
