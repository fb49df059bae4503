-- The two steps together: at most one state fits the answers to both, and it is the one that is read back.
use Rattle.std.proofs.Common.{◌≡◌, refl, sym, ap, ap₂, ◌∙◌, subst, Bool, true, false, not, cond, ⊎_elim, ◌≢◌, List}
use Rattle.std.proofs.Common.{[], ◌∷◌, ◌++◌, map, ℕ, ◌+◌, ◌-◌, ◌^◌, ◌≤◌, ◌<◌, zero-le, not-suc-le-zero, arith, eqb}
use Rattle.std.proofs.Common.{length, take, drop, length-append, ext_get_or, get_or-append-add, take_at, drop_at}
use Rattle.std.proofs.Common.{eq-eqb, ne_eqb, eqb-true}
use mathlib.Core.List.{map-append}
use lib.Pow.{pow-lt}
use lib.ListN.{length-map, get_or-append}
use borrow.Author.Tests.{eqb-false, not-true}
use Rattle.words.specs.Answers.{Decides}
use Rattle.words.specs.Bits.{has, at}
use Rattle.words.specs.Searching.{passing, any}
use Rattle.words.specs.Turning.{column, transpose}
use Rattle.words.proofs.Bits.{words_equal, subset_at_most, has_own, has_only, has_not_zero, some_bit}
use Rattle.words.proofs.Classes.{ones_at_most}
use Rattle.words.proofs.Columns.{transpose_at}
use Rattle.words.proofs.Making.{map_at}
use Rattle.words.proofs.Passing.{count_most, count_grows_past, larger_by_count, entry_of, entry_is}
use Rattle.words.proofs.Searching.{any_none, any_false}
use Rattle.words.proofs.Tests.{cases, contrary, same_truth, less_or_not, test_fails}
use Rattle.network.specs.declared.Network.{Network}
use Rattle.network.specs.Reading.{soft_level, is_and, active, walking_vector, extra_vector, needs_extra, extra_vectors, reads}
use Rattle.network.specs.Reading.{ReadAlike, sequential_response, response_word, response}
use Rattle.network.specs.States.{DriverSet, State, Fits}
use Rattle.network.proofs.Rows.{AdmittedReceivers}
use Rattle.network.proofs.Reading.{extra_one, extra_most, reads_floating, reads_active, reads_alone, reads_walking}
use Rattle.network.proofs.Reading.{reads_walking_all, reads_extra, has_sequential, active_answers, sequential_below}
use Rattle.network.proofs.Reading.{alike_sequential, response_is}
use Rattle.diagnosis.specs.ReadBack.{read_back, no_state_fits}
use Rattle.diagnosis.specs.Walking.{Walked}
use Rattle.diagnosis.proofs.Gathering.{walked_is}
use Rattle.diagnosis.proofs.ReadingBack.{fits_answers, answers_fit, read_back_fits, smallest_read_back, candidate_fails}
use Rattle.steps.specs.FirstStep.{word_length, sequential_words, first_vectors}
use Rattle.steps.specs.SecondStep.{only_from, is_clear, Clear, unclear, UnclearNets, settling_vectors}
use Rattle.steps.specs.SecondStep.{second_vectors, session_vectors, fault_free_state}
use Rattle.steps.proofs.WordsApart.{WordsApart}
use Rattle.steps.proofs.StepOneWords.{first_size, first_has}

-- ---- one list after another

below_parts : (bound : ℕ) (xs ys : List ℕ) → ((t : ℕ) → t < length xs → at xs t < bound) → ((t : ℕ) → t < length ys → at ys t < bound)
    → (t : ℕ) → t < length (xs ++ ys) → at (xs ++ ys) t < bound
below_parts bound xs ys f g t l = ⊎_elim (λ m. rw (get_or-append xs ys 0 t m) (f t m)) (λ m. late m) (less_or_not t (length xs))
  where
    late : length xs ≤ t → at (xs ++ ys) t < bound
    late m =
        let q : t ≡ length xs + (t - length xs) = omega arith in
        let e : at (xs ++ ys) t ≡ at ys (t - length xs) = ap (at (xs ++ ys)) q ∙ get_or-append-add xs ys (t - length xs) 0 in
        rw e (g (t - length xs) (omega (arith, length-append xs ys)))

module _ (net : Network) (before after : List ℕ) where
  alike_parts : (a b : ℕ) → ReadAlike net (before ++ after) a b → ReadAlike net before a b × ReadAlike net after a b
  alike_parts a b h = (
    λ t l. let e : at (before ++ after) t ≡ at before t = get_or-append before after 0 t l in
        ap (reads net a) (sym e) ∙ h t (omega (arith, length-append before after)) ∙ ap (reads net b) e,
    λ t l. let e : at (before ++ after) (length before + t) ≡ at after t = get_or-append-add before after t 0 in
        ap (reads net a) (sym e) ∙ h (length before + t) (omega (arith, length-append before after)) ∙ ap (reads net b) e,
  )

  response_parts : (state : List ℕ) → response net state (before ++ after) ≡ response net state before ++ response net state after
  unfolding response
  response_parts state = map-append (response_word net state) before after

  -- a state fits both answers exactly where it fits each
  pub fits_parts : (m k : ℕ) (first second state : List ℕ) → length first ≡ length before
      → Fits net m k (before ++ after) (first ++ second) state
      → Fits net m k before first state × Fits net m k after second state
  fits_parts m k first second state size h = (
    record {
      of_class = h.of_class;
      gives = sym (take_at _ (response net state after) _ length_of)
          ∙ ap (take (length before)) both ∙ take_at first second _ size;
    },
    record {
      of_class = h.of_class;
      gives = sym (drop_at (response net state before) _ _ length_of)
          ∙ ap (drop (length before)) both ∙ drop_at first second _ size;
    },
  )
    where
      length_of : length (response net state before) ≡ length before
      length_of = (response_is net state before).one_a_vector

      both : response net state before ++ response net state after ≡ first ++ second
      both = sym (response_parts state) ∙ h.gives

  pub fits_both : (m k : ℕ) (first second state : List ℕ) → Fits net m k before first state
      → Fits net m k after second state
      → Fits net m k (before ++ after) (first ++ second) state
  fits_both m k first second state f g =
      record { of_class = f.of_class; gives = response_parts state ∙ ap₂ ◌++◌ f.gives g.gives }

-- a state that fits gives as many words as there are vectors, and each reach answers as its receiver did
module _ (net : Network) (m k : ℕ) (vectors responses state : List ℕ)
    (fits : Fits net m k vectors responses state) where
  fits_size : length responses ≡ length vectors
  fits_size = ap length (sym fits.gives) ∙ (response_is net state vectors).one_a_vector

  reach_inside : (i : ℕ) → i < m → at state i < 2 ^ net.nets
  reach_inside i l = (fits.of_class.reach i (rw fits.of_class.size l)).inside

  reach_answers : (i : ℕ) → i < m → sequential_response net vectors (at state i) ≡ column responses i
  reach_answers i l = fits_answers net vectors responses fits_size m k state fits i (rw fits.of_class.size l)

-- ---- the vectors of step one

module _ (net : Network) (apart : WordsApart net) where
  has_first : (t i : ℕ) → t < word_length net → i < net.nets → has (at (first_vectors net) t) i ≡ has (at (sequential_words net) i) t
  has_first t i l m = first_has net t i l (rw apart.size m)

  -- of two words, the one is active at a vector where the other is not
  uncovered_active : (i j : ℕ) → i < net.nets → j < net.nets → i ≢ j
      → (t : ℕ) × (t < word_length net) × (active net (has (at (sequential_words net) j) t) ≡ true)
      × (active net (has (at (sequential_words net) i) t) ≡ false)
  unfolding active
  uncovered_active i j l m d = go (is_and net)
    where
      bit : ℕ → ℕ → Bool
      bit x t = has (at (sequential_words net) x) t

      go : (g : Bool)
          → (t : ℕ) × (t < word_length net) × (cond g (not (bit j t)) (bit j t) ≡ true) × (cond g (not (bit i t)) (bit i t) ≡ false)
      go true = let o = apart.uncovered j i m l (λ q. d (sym q)) in (o.0, o.1, ap not o.3, ap not o.2)
      go false = apart.uncovered i j l m d

  -- a reach that returns net i's word is its driver alone
  own_word : (i a : ℕ) → i < net.nets → a < 2 ^ net.nets
      → sequential_response net (first_vectors net) a ≡ at (sequential_words net) i → a ≡ 2 ^ i
  own_word i a l inside e =
      words_equal net.nets a (2 ^ i) inside (pow-lt l)
      (λ j m. same_truth (has a j) (has (2 ^ i) j) (there j m) (back j))
    where
      returned : (t : ℕ) → t < word_length net → reads net a (at (first_vectors net) t) ≡ has (at (sequential_words net) i) t
      returned t m = sym (has_sequential net (first_vectors net) a t (rw (first_size net) m)) ∙ ap (λ (w : ℕ). has w t) e

      -- a floating receiver reads the soft level, and the word has the other value somewhere
      floats : a ≡ 0 → (t : ℕ) → t < word_length net → soft_level net ≡ has (at (sequential_words net) i) t
      floats q t m =
          sym (ap (λ (x : ℕ). reads net x (at (first_vectors net) t)) q ∙ reads_floating net (at (first_vectors net) t))
          ∙ returned t m

      driven : a ≢ 0
      driven q =
          ⊎_elim (λ s. let g = apart.has_gap i l in contrary s (floats q g.0 g.1 ∙ g.2))
          (λ s. let g = apart.has_one i l in contrary (floats q g.0 g.1 ∙ g.2) s) (cases (soft_level net))

      only : (j : ℕ) → j < net.nets → has a j ≡ true → i ≡ j
      only j m on =
          ⊎_elim (λ q. eqb-true i j q)
          (λ q. let o = uncovered_active i j l m (eqb-false i j q) in
          contrary (reads_active net a (at (first_vectors net) o.0) j m on (ap (active net) (has_first o.0 j o.1 m) ∙ o.2))
          (ap (active net) (returned o.0 o.1) ∙ o.3)) (cases (eqb i j))

      there : (j : ℕ) → j < net.nets → has a j ≡ true → has (2 ^ i) j ≡ true
      there j m on = ap (has (2 ^ i)) (sym (only j m on)) ∙ has_own i

      back : (j : ℕ) → has (2 ^ i) j ≡ true → has a j ≡ true
      back j on =
          let b = some_bit net.nets a inside driven in
          subst (λ (x : ℕ). has a x ≡ true) (sym (only b.0 b.1 b.2) ∙ has_only i j on) b.2

  -- and its driver alone returns it
  own_returns : (i : ℕ) → i < net.nets → sequential_response net (first_vectors net) (2 ^ i) ≡ at (sequential_words net) i
  own_returns i l =
      words_equal (word_length net) _ (at (sequential_words net) i)
      (rw (first_size net) at (sequential_below net (first_vectors net) (2 ^ i))) (apart.below i l)
      (λ t m. has_sequential net (first_vectors net) (2 ^ i) t (rw (first_size net) m)
      ∙ reads_alone net i (at (first_vectors net) t) l ∙ has_first t i m l)

-- ---- clear nets

-- nothing is against it exactly where the two are alike
against_alike : (own returned : Bool) → cond own (not returned) returned ≡ false → own ≡ returned
against_alike true true e = refl
against_alike true false e = e
against_alike false true e = sym e
against_alike false false e = refl

alike_against : (own returned : Bool) → own ≡ returned → cond own (not returned) returned ≡ false
alike_against true true e = refl
alike_against true false e = e
alike_against false true e = sym e
alike_against false false e = refl

-- all receivers of net i returned the word, and no other did
abbrev OnlyFrom : ℕ → (words owners : List ℕ) → ℕ → Type 0
OnlyFrom word words owners i =
    ((r : ℕ) → r < length owners → at owners r ≡ i → at words r ≡ word)
    × ((r : ℕ) → r < length owners → at words r ≡ word → at owners r ≡ i)

decides_only : (word : ℕ) (words owners : List ℕ) (i : ℕ)
    → Decides (only_from word words owners i) (OnlyFrom word words owners i)
unfolding only_from
decides_only word words owners i = (there, back)
  where
    against : ℕ → Bool
    against r = cond (eqb (at owners r) i) (not (eqb (at words r) word)) (eqb (at words r) word)

    there : not (any (length owners) against) ≡ true → OnlyFrom word words owners i
    there e =
        (λ r l q. eqb-true _ word (sym (alike r l) ∙ eq-eqb _ i q), λ r l q. eqb-true _ i (alike r l ∙ eq-eqb _ word q))
      where
        alike : (r : ℕ) → r < length owners → eqb (at owners r) i ≡ eqb (at words r) word
        alike r l = against_alike _ _ (any_false against (length owners) r l (not-true _ e))

    back : not (any (length owners) against) ≡ false → ¬ (OnlyFrom word words owners i)
    back e (own, alone) = contrary (ap not (any_none against (length owners) none)) e
      where
        none : (r : ℕ) → r < length owners → against r ≡ false
        none r l =
            alike_against _ _
            (same_truth (eqb (at owners r) i) (eqb (at words r) word) (λ q. eq-eqb _ word (own r l (eqb-true _ i q)))
            (λ q. eq-eqb _ i (alone r l (eqb-true _ word q))))

module _ (net : Network) (owners answers : List ℕ) where
  pub decides_clear : (i : ℕ) → Decides (is_clear net owners answers i) (Clear net owners answers i)
  unfolding is_clear
  decides_clear i =
      let d = decides_only (at (sequential_words net) i) (transpose (length owners) answers) owners i in (
        λ e. let c = d.0 e in record {
          own = λ r l q. sym (transpose_at (length owners) answers r l) ∙ c.0 r l q;
          alone = λ r l q. c.1 r l (transpose_at (length owners) answers r l ∙ q);
        },
        λ e c. d.1 e (
          λ r l q. transpose_at (length owners) answers r l ∙ c.own r l q,
          λ r l q. c.alone r l (sym (transpose_at (length owners) answers r l) ∙ q),
        ),
      )

-- ---- the vectors of step two

module _ (net : Network) where
  pub settling_is : (nets : List ℕ) → length nets ≢ 0 → settling_vectors net nets ≡ extra_vectors net ++ map (walking_vector net) nets
  settling_is [] some = absurd (some refl)
  settling_is (i ∷ nets) some = refl

  pub settling_size : (nets : List ℕ) → length nets ≢ 0 → length (settling_vectors net nets) ≡ length nets + length (extra_vectors net)
  settling_size nets some =
      ap length (settling_is nets some)
      ∙ omega (arith, length-append (extra_vectors net) (map (walking_vector net) nets), length-map nets (walking_vector net))

  pub settling_extra : needs_extra net ≡ true → (nets : List ℕ) → length nets ≢ 0 → at (settling_vectors net nets) 0 ≡ extra_vector net
  settling_extra e nets some =
      ap (λ (ws : List ℕ). at ws 0)
      (settling_is nets some ∙ ap (λ (xs : List ℕ). xs ++ map (walking_vector net) nets) (extra_one net e))

  pub settling_walking : (nets : List ℕ) (u : ℕ) → u < length nets
      → at (settling_vectors net nets) (length (extra_vectors net) + u) ≡ walking_vector net (at nets u)
  settling_walking nets u l =
      ap (λ (ws : List ℕ). at ws (length (extra_vectors net) + u)) (settling_is nets (λ e. not-suc-le-zero {n = u} (rw e at l)))
      ∙ get_or-append-add (extra_vectors net) (map (walking_vector net) nets) u 0 ∙ map_at (walking_vector net) 0 nets u l

  settling_none : (nets : List ℕ) → length nets ≡ 0 → settling_vectors net nets ≡ []
  settling_none [] none = refl
  settling_none (i ∷ nets) none = absurd (not-suc-le-zero {n = 0} (omega (arith, none)))

  settling_most : (nets : List ℕ) → length (settling_vectors net nets) ≤ length nets + 1
  settling_most [] = zero-le
  settling_most (i ∷ nets) =
      let e = settling_size (i ∷ nets) (λ q. absurd (not-suc-le-zero {n = 0} (omega (arith, q)))) in
      omega (arith, e, extra_most net)

module _ (net : Network) (owners answers : List ℕ) where
  is_unclear : ℕ → Bool
  is_unclear i = not (is_clear net owners answers i)

  -- an unclear net's place among them
  unclear_place : (j : ℕ) → j < net.nets → is_clear net owners answers j ≡ false
      → (u : ℕ) × (u < length (unclear net owners answers)) × (at (unclear net owners answers) u ≡ j)
  unfolding unclear is_unclear
  unclear_place j l e = (
    length (passing is_unclear j),
    count_grows_past is_unclear j net.nets l
        (ap not e),
    entry_of is_unclear net.nets j l (ap not e),
  )

  -- they are just those that are not clear, ascending
  pub unclear_nets : UnclearNets net owners answers (unclear net owners answers)
  unfolding unclear is_unclear
  unclear_nets = record {
    below = λ u l. (entry_is is_unclear net.nets u l).below;
    ascending = λ u v l m. larger_by_count is_unclear _ _
        (rw ((entry_is is_unclear net.nets u (omega arith)).index, (entry_is is_unclear net.nets v m).index) l);
    not_clear = λ i l. (
      λ r. (decides_clear net owners answers i).1
          (not-true _ (rw r.2 at (entry_is is_unclear net.nets r.0 r.1).passes)),
      λ c. unclear_place i l (test_fails (decides_clear net owners answers i) c),
    );
  }

  -- where none is unclear, each is clear
  all_clear : length (unclear net owners answers) ≡ 0 → (i : ℕ) → i < net.nets → is_clear net owners answers i ≡ true
  all_clear none i l =
      ⊎_elim (λ e. e) (λ e. let r = unclear_place i l e in absurd (not-suc-le-zero {n = 0} (omega (arith, none, r.1))))
      (cases (is_clear net owners answers i))

  some_unclear : (j : ℕ) → j < net.nets → is_clear net owners answers j ≡ false
      → length (unclear net owners answers) ≢ 0
  some_unclear j l e none = contrary (all_clear none j l) e

  pub second_size : length (unclear net owners answers) ≢ 0
      → length (second_vectors net owners answers) ≡ length (unclear net owners answers) + length (extra_vectors net)
  unfolding second_vectors
  second_size some = settling_size net (unclear net owners answers) some

  pub second_none : length (unclear net owners answers) ≡ 0 → second_vectors net owners answers ≡ []
  unfolding second_vectors
  second_none none = settling_none net (unclear net owners answers) none

  -- the extra vector comes first, if there is one
  extra_in : length (unclear net owners answers) ≢ 0 → needs_extra net ≡ true
      → (0 < length (second_vectors net owners answers)) × (at (second_vectors net owners answers) 0 ≡ extra_vector net)
  unfolding second_vectors
  extra_in some e = (
    omega (arith, settling_size net (unclear net owners answers) some, ap length (extra_one net e)),
    settling_extra net e (unclear net owners answers) some,
  )

  -- then the walking vector of each unclear net
  unclear_in : (j : ℕ) → j < net.nets → is_clear net owners answers j ≡ false
      → (u : ℕ) × (u < length (second_vectors net owners answers))
      × (at (second_vectors net owners answers) u ≡ walking_vector net j)
  unfolding second_vectors
  unclear_in j l e =
      let r = unclear_place j l e in (
        length (extra_vectors net) + r.0,
        omega (arith, r.1, settling_size net (unclear net owners answers) (some_unclear j l e)),
        settling_walking net (unclear net owners answers) r.0 r.1 ∙ ap (walking_vector net) r.2,
      )

  unclear_most : length (unclear net owners answers) ≤ net.nets
  unfolding unclear is_unclear
  unclear_most = count_most is_unclear net.nets

  pub second_most : length (second_vectors net owners answers) ≤ net.nets + 1
  unfolding second_vectors
  second_most = omega (arith, settling_most net (unclear net owners answers), unclear_most)

-- ---- what the answers to step one say of a state that fits them

module _ (net : Network) (apart : WordsApart net) (owners : List ℕ) (board : AdmittedReceivers net owners)
    (first state : List ℕ)
    (fits : Fits net (length owners) net.nets (first_vectors net) first state) where
  returned : (r : ℕ) → r < length owners → sequential_response net (first_vectors net) (at state r) ≡ column first r
  returned r l = reach_answers net (length owners) net.nets (first_vectors net) first state fits r l

  -- a receiver of a clear net has that net's driver as its reach
  pub clear_reach : (r : ℕ) → r < length owners → is_clear net owners first (at owners r) ≡ true
      → at state r ≡ 2 ^ at owners r
  clear_reach r l e = own_word net apart (at owners r) (at state r) (board.owner r l)
      (reach_inside net (length owners) net.nets (first_vectors net) first state fits r l)
      (returned r l ∙ ((decides_clear net owners first (at owners r)).0 e).own r l refl)

  -- which is in the reach of no receiver of another net. The clear net has a receiver of its own, and the two reaches
  -- would meet.
  clear_alone : (r j : ℕ) → r < length owners → j < net.nets → is_clear net owners first (at owners r) ≡ false
      → is_clear net owners first j ≡ true → has (at state r) j ≡ false
  clear_alone r j l m unclear clear = ⊎_elim meet (λ e. e) (cases (has (at state r) j))
    where
      meet : has (at state r) j ≡ true → has (at state r) j ≡ false
      meet e =
          let s = board.receiver j m in
          let own : at state s.0 ≡ 2 ^ j =
          clear_reach s.0 s.1 (ap (is_clear net owners first) s.2 ∙ clear) ∙ ap (λ (x : ℕ). 2 ^ x) s.2 in
          let size = fits.of_class.size in
          let same : at state r ≡ 2 ^ j =
          fits.of_class.meet_only_if_equal r s.0 j (rw size l) (rw size s.1) m e
          (ap (λ (x : ℕ). has x j) own ∙ has_own j) ∙ own in
          let q : at owners r ≡ j = ((decides_clear net owners first j).0 clear).alone r l
          (sym (returned r l) ∙ ap (sequential_response net (first_vectors net)) same
          ∙ own_returns net apart j m) in
          contrary (ap (is_clear net owners first) q ∙ clear) unclear

-- ---- and of one that fits the answers to both

module _ (net : Network) (apart : WordsApart net) (owners : List ℕ) (board : AdmittedReceivers net owners)
    (first second state : List ℕ) (size : length first ≡ word_length net)
    (fits : Fits net (length owners) net.nets (session_vectors net owners first) (first ++ second) state) where
  pub fits_first : Fits net (length owners) net.nets (first_vectors net) first state
  fits_first = (fits_parts net (first_vectors net) (second_vectors net owners first) (length owners)
      net.nets first second state
      (size ∙ sym (first_size net)) fits).0

  fits_second : Fits net (length owners) net.nets (second_vectors net owners first) second state
  fits_second = (fits_parts net (first_vectors net) (second_vectors net owners first) (length owners)
      net.nets first second state
      (size ∙ sym (first_size net)) fits).1

  -- the reach of an unclear net's receiver has unclear drivers only, each with its walking vector
  unclear_drivers : (r j : ℕ) → r < length owners → j < net.nets → is_clear net owners first (at owners r) ≡ false
      → has (at state r) j ≡ true
      → (u : ℕ) × (u < length (second_vectors net owners first))
      × (at (second_vectors net owners first) u ≡ walking_vector net j)
  unclear_drivers r j l m e on =
      unclear_in net owners first j m
      (⊎_elim (λ f. contrary on (clear_alone net apart owners board first state fits_first r j l m e f)) (λ f. f)
      (cases (is_clear net owners first j)))

  -- each reach is the smallest set that reads so
  reach_smallest : (r set : ℕ) → r < length owners → DriverSet net net.nets set
      → ReadAlike net (session_vectors net owners first) set (at state r) → at state r ≤ set
  reach_smallest r set l d alike = ⊎_elim by_word by_drivers (cases (is_clear net owners first (at owners r)))
    where
      parts : ReadAlike net (first_vectors net) set (at state r)
          × ReadAlike net (second_vectors net owners first) set (at state r)
      parts = alike_parts net (first_vectors net) (second_vectors net owners first) set (at state r) alike

      by_word : is_clear net owners first (at owners r) ≡ true → at state r ≤ set
      by_word e =
          let own : at state r ≡ 2 ^ at owners r = clear_reach net apart owners board first state fits_first r l e in
          let q : set ≡ 2 ^ at owners r =
          own_word net apart (at owners r) set (board.owner r l) d.inside
          (alike_sequential net (first_vectors net) set (at state r) parts.0
          ∙ ap (sequential_response net (first_vectors net)) own
          ∙ own_returns net apart (at owners r) (board.owner r l)) in
          omega (arith, own, q)

      by_drivers : is_clear net owners first (at owners r) ≡ false → at state r ≤ set
      by_drivers e = subset_at_most net.nets (at state r) set
          (reach_inside net (length owners) net.nets (session_vectors net owners first)
          (first ++ second) state fits r l)
          (λ j m on. also j m on (unclear_drivers r j l m e on))
        where
          extra : needs_extra net ≡ true → reads net set (extra_vector net) ≡ reads net (at state r) (extra_vector net)
          extra s =
              let x = extra_in net owners first (some_unclear net owners first (at owners r) (board.owner r l) e) s in
              ap (reads net set) (sym x.1) ∙ parts.1 0 x.0 ∙ ap (reads net (at state r)) x.1

          also_driven : at state r ≢ 0 → needs_extra net ≡ true → set ≢ 0
          also_driven driven s =
              eqb-false set 0
              (sym (reads_extra net s set) ∙ ap (active net) (extra s) ∙ reads_extra net s (at state r)
              ∙ ne_eqb (at state r) 0 driven)

          shown : at state r ≢ 0 → (j : ℕ) → j < net.nets
              → active net (reads net set (walking_vector net j)) ≡ has set j
          shown driven j m =
              ⊎_elim (λ s. reads_walking net set j m (also_driven driven s)) (λ s. reads_walking_all net s set j m)
              (cases (needs_extra net))

          also : (j : ℕ) → j < net.nets → has (at state r) j ≡ true
              → (u : ℕ) × (u < length (second_vectors net owners first))
              × (at (second_vectors net owners first) u ≡ walking_vector net j)
              → has set j ≡ true
          also j m on (u, lu, w) =
              let driven : at state r ≢ 0 = has_not_zero (at state r) j on in
              sym (shown driven j m)
              ∙ ap (active net) (ap (reads net set) (sym w) ∙ parts.1 u lu ∙ ap (reads net (at state r)) w)
              ∙ reads_walking net (at state r) j m driven ∙ on

  -- so the state is what is read back
  pub both_read_back : (no_state_fits net (length owners) net.nets (session_vectors net owners first)
      (first ++ second) ≡ false)
      × (read_back net (length owners) net.nets (session_vectors net owners first) (first ++ second) ≡ state)
  both_read_back =
      smallest_read_back net (length owners) net.nets (session_vectors net owners first) (first ++ second)
      (fits_size net (length owners) net.nets (session_vectors net owners first)
      (first ++ second) state fits) state fits
      reach_smallest

  -- and what the second answers show of an unclear net's receiver is its reach
  pub decoded_reach : (r reach : ℕ) → r < length owners → is_clear net owners first (at owners r) ≡ false
      → Walked net (second_vectors net owners first) (column second r) reach → reach ≡ at state r
  decoded_reach r reach l e w =
      sym
      (walked_is net (second_vectors net owners first) (column second r) (at state r) reach
      (active_answers net (second_vectors net owners first) (at state r) (column second r)
      (reach_answers net (length owners) net.nets (second_vectors net owners first) second state fits_second r l))
      (reach_inside net (length owners) net.nets (session_vectors net owners first) (first ++ second) state fits r l)
      (λ s. let extra = extra_in net owners first
      (some_unclear net owners first (at owners r) (board.owner r l) e) s in
      (0, extra.0, extra.1))
      (λ j m on. unclear_drivers r j l m e on) w)

-- ---- whether some state fits both

module _ (net : Network) (owners first second : List ℕ) (size : length first ≡ word_length net)
    (also : length second ≡ length (second_vectors net owners first))
    (narrow : (t : ℕ) → t < length first → at first t < 2 ^ length owners)
    (also_narrow : (t : ℕ) → t < length second → at second t < 2 ^ length owners) where
  both_size : length (first ++ second) ≡ length (session_vectors net owners first)
  both_size =
      omega (
        arith,
        length-append first second,
        length-append (first_vectors net) (second_vectors net owners first),
        first_size net,
      )

  both_narrow : (t : ℕ) → t < length (first ++ second) → at (first ++ second) t < 2 ^ length owners
  both_narrow = below_parts (2 ^ length owners) first second narrow also_narrow

  pub both_fits : no_state_fits net (length owners) net.nets (session_vectors net owners first) (first ++ second)
      ≡ false
      → Fits net (length owners) net.nets (session_vectors net owners first) (first ++ second)
      (read_back net (length owners) net.nets (session_vectors net owners first) (first ++ second))
  both_fits e = read_back_fits net (length owners) net.nets (session_vectors net owners first)
      (first ++ second) both_size both_narrow e

  -- a test of the only reaches that can fit decides it, and finds what is read back
  pub candidate_decides : WordsApart net → AdmittedReceivers net owners → (candidate : List ℕ) (fits : Bool)
      → ((state : List ℕ) → Fits net (length owners) net.nets (session_vectors net owners first)
      (first ++ second) state → candidate ≡ state)
      → Decides fits (Fits net (length owners) net.nets (session_vectors net owners first)
      (first ++ second) candidate)
      → (fits ≡ not (no_state_fits net (length owners) net.nets (session_vectors net owners first)
      (first ++ second)))
      × (fits ≡ true → candidate ≡ read_back net (length owners) net.nets (session_vectors net owners first)
      (first ++ second))
  candidate_decides apart board candidate fits only decides = (
    ⊎_elim (λ e. e ∙ ap not (sym (found e).0)) (λ e. e ∙ ap not (sym (fails e))) (cases fits),
    λ e. sym
        (found e).1,
  )
    where
      found : fits ≡ true
          → (no_state_fits net (length owners) net.nets (session_vectors net owners first) (first ++ second) ≡ false)
          × (read_back net (length owners) net.nets (session_vectors net owners first) (first ++ second) ≡ candidate)
      found e = both_read_back net apart owners board first second candidate size (decides.0 e)

      fails : fits ≡ false → no_state_fits net (length owners) net.nets (session_vectors net owners first)
          (first ++ second) ≡ true
      fails e = candidate_fails net (length owners) net.nets (session_vectors net owners first)
          (first ++ second) both_size both_narrow candidate only (decides.1 e)

-- ---- no net unclear: the fault-free state, and no other

module _ (owners : List ℕ) where
  pub fault_free_size : length (fault_free_state owners) ≡ length owners
  unfolding fault_free_state
  fault_free_size = length-map owners _

  pub fault_free_at : (r : ℕ) → r < length owners → at (fault_free_state owners) r ≡ 2 ^ at owners r
  unfolding fault_free_state
  fault_free_at r l = map_at (λ i. 2 ^ i) 0 owners r l

module _ (net : Network) (owners : List ℕ) (board : AdmittedReceivers net owners) where
  fault_free_is_state : State net (length owners) net.nets (fault_free_state owners)
  fault_free_is_state = record {
    size = fault_free_size owners;
    reach = λ r l. rw (fault_free_at owners r (inside r l))
        (record { inside = pow-lt (board.owner r (inside r l)); few = ones_at_most net.nets (2 ^ at owners r) });
    meet_only_if_equal = λ r s x l m n p q. fault_free_at owners r (inside r l)
        ∙ ap (λ (i : ℕ). 2 ^ i) (only r x (inside r l) p ∙ sym (only s x (inside s m) q))
        ∙ sym (fault_free_at owners s (inside s m));
  }
    where
      inside : (r : ℕ) → r < length (fault_free_state owners) → r < length owners
      inside r l = rw (fault_free_size owners) at l

      only : (r x : ℕ) → r < length owners → has (at (fault_free_state owners) r) x ≡ true → at owners r ≡ x
      only r x l e = has_only (at owners r) x (ap (λ (w : ℕ). has w x) (sym (fault_free_at owners r l)) ∙ e)

module _ (net : Network) (apart : WordsApart net) (owners : List ℕ) (board : AdmittedReceivers net owners)
    (first : List ℕ)
    (none : length (unclear net owners first) ≡ 0) where
  pub all_clear_fits : length first ≡ word_length net → ((t : ℕ) → t < length first → at first t < 2 ^ length owners)
      → Fits net (length owners) net.nets (first_vectors net) first (fault_free_state owners)
  all_clear_fits size narrow =
      answers_fit net (first_vectors net) first (size ∙ sym (first_size net)) (length owners) net.nets
      (fault_free_state owners)
      (fault_free_is_state net owners board) narrow
      (λ r l. let inside : r < length owners = rw (fault_free_size owners) at l in
      let i : at owners r < net.nets = board.owner r inside in
      ap (sequential_response net (first_vectors net)) (fault_free_at owners r inside)
      ∙ own_returns net apart (at owners r) i
      ∙ sym (((decides_clear net owners first (at owners r)).0
      (all_clear net owners first none (at owners r) i)).own r inside refl))

  pub all_clear_only : (state : List ℕ) → Fits net (length owners) net.nets (first_vectors net) first state
      → state ≡ fault_free_state owners
  all_clear_only state fits =
      ext_get_or 0 state (fault_free_state owners) (fits.of_class.size ∙ sym (fault_free_size owners))
      (λ r l. let inside : r < length owners = rw fits.of_class.size at l in
      clear_reach net apart owners board first state fits r inside
      (all_clear net owners first none (at owners r) (board.owner r inside)) ∙ sym (fault_free_at owners r inside))
