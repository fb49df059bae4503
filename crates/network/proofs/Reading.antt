-- What the rest asks of `reads`: two laws of the definition, for each gate and level, and what follows from them. Both
-- are said of the gate's active value, and not of 0 or 1.
use Rattle.std.proofs.Common.{◌≡◌, refl, sym, ap, ◌∙◌, subst, Bool, true, false, not, ◌&&◌, ◌||◌, cond, ⊎_elim, ◌≢◌}
use Rattle.std.proofs.Common.{◌↔◌, List, [], ◌∷◌, map, ℕ, zero, suc, ◌^◌, ◌≤◌, ◌<◌, zero-le, lt_of_le_of_lt, lt_trans}
use Rattle.std.proofs.Common.{le_refl, arith, bit_and, eqb, length, pow_pos, ext_get_or, eq-eqb, ne_eqb, eqb-true}
use lib.Bits.{and_le_l}
use lib.ListN.{length-map}
use lib.Pow.{pow-lt}
use borrow.Author.Tests.{eqb-false, not-true}
use Rattle.words.specs.Bits.{has, word, at}
use Rattle.words.specs.Searching.{any}
use Rattle.words.specs.Answers.{Decides}
use Rattle.words.proofs.Tests.{cases, contrary, not_not, not_equal, and_left, and_right, and_both, or_false, same_truth}
use Rattle.words.proofs.Tests.{decides_itself, decides_off, decides_same, decides_equal, decides_not, decides_and, decides_cond}
use Rattle.words.proofs.Tests.{test_passes}
use Rattle.words.proofs.Searching.{any_some, any_false, decides_any}
use Rattle.words.proofs.Bits.{words_equal, has_zero, has_power, has_own, has_only, has_not_zero, has_all, has_all_but, has_and, some_bit}
use Rattle.words.proofs.Bits.{some_bit_differs, has_inside}
use Rattle.words.proofs.Making.{map_at, has_made, made_below, made_equal, made_bits}
use Rattle.network.specs.declared.Network.{Network}
use Rattle.network.specs.Reading.{soft_level, is_and, active, all_drivers, all_but, walking_vector, extra_vector, needs_extra}
use Rattle.network.specs.Reading.{extra_vectors, meets, some_at_0, driven, reads, Drives, Driven1, Reads1}
use Rattle.network.specs.Reading.{ReadAlike, sequential_response, response_word, response, Response}
use Rattle.network.specs.Joint.{ActiveBits}

-- ---- active values

module _ (net : Network) where
  -- values are equal if both are active or neither is
  pub active_equal : (a b : Bool) → active net a ≡ active net b → a ≡ b
  unfolding active
  active_equal a b e = go (is_and net) e
    where
      go : (g : Bool) → cond g (not a) a ≡ cond g (not b) b → a ≡ b
      go true q = not_equal a b q
      go false q = q

  -- of two values that differ, one is active if the other is not
  active_other : (a b : Bool) → a ≢ b → active net b ≡ false → active net a ≡ true
  active_other a b h e =
      ⊎_elim (λ q. q) (λ q. absurd (h (active_equal a b (q ∙ sym e)))) (cases (active net a))

  -- there is an extra vector where floating receivers read the active value
  pub active_soft : active net (soft_level net) ≡ needs_extra net
  unfolding needs_extra
  active_soft = refl

  -- the value of one driver more, joined by the gate, is active if it is or the others' is
  pub active_joined : (a b : Bool) → active net (cond (is_and net) (a && b) (a || b)) ≡ active net a || active net b
  unfolding active
  active_joined a b = go (is_and net) a
    where
      go : (g a : Bool) → cond g (not (cond g (a && b) (a || b))) (cond g (a && b) (a || b)) ≡ cond g (not a) a || cond g (not b) b
      go true true = refl
      go true false = refl
      go false a = refl

-- ---- driver sets and vectors by name

module _ (net : Network) where
  pub all_below : all_drivers net < 2 ^ net.nets
  unfolding all_drivers
  all_below = let h = pow_pos net.nets in omega arith

  pub has_every : (i : ℕ) → i < net.nets → has (all_drivers net) i ≡ true
  unfolding all_drivers
  has_every i l = has_all net.nets i l

  pub has_every_but : (i j : ℕ) → i < net.nets → j < net.nets → has (all_but net i) j ≡ not (eqb i j)
  unfolding all_but all_drivers
  has_every_but i j l m = has_all_but net.nets i j l m

  pub all_but_less : (i : ℕ) → i < net.nets → all_but net i < all_drivers net
  unfolding all_but all_drivers
  all_but_less i l = let h = pow-lt l in let k = pow_pos i in omega arith

  pub all_not_empty : 0 < net.nets → all_drivers net ≢ 0
  all_not_empty l = has_not_zero (all_drivers net) 0 (has_every 0 l)

  -- the drivers that are active on the walking vector of net i, and on the extra vector
  pub active_walking : (i j : ℕ) → i < net.nets → j < net.nets → active net (has (walking_vector net i) j) ≡ eqb i j
  unfolding active walking_vector
  active_walking i j l m = go (is_and net)
    where
      go : (g : Bool) → let bit = has (cond g (all_but net i) (2 ^ i)) j in cond g (not bit) bit ≡ eqb i j
      go true = ap not (has_every_but i j l m) ∙ not_not (eqb i j)
      go false = has_power i j

  pub active_extra : (j : ℕ) → j < net.nets → active net (has (extra_vector net) j) ≡ false
  unfolding active extra_vector
  active_extra j l = go (is_and net)
    where
      go : (g : Bool) → let bit = has (cond g (all_drivers net) 0) j in cond g (not bit) bit ≡ false
      go true = ap not (has_every j l)
      go false = has_zero j

  pub walking_below : (i : ℕ) → i < net.nets → walking_vector net i < 2 ^ net.nets
  unfolding walking_vector
  walking_below i l = go (is_and net)
    where
      go : (g : Bool) → cond g (all_but net i) (2 ^ i) < 2 ^ net.nets
      go true = lt_trans (all_but_less i l) all_below
      go false = pow-lt l

  pub extra_below : extra_vector net < 2 ^ net.nets
  unfolding extra_vector
  extra_below = go (is_and net)
    where
      go : (g : Bool) → cond g (all_drivers net) 0 < 2 ^ net.nets
      go true = all_below
      go false = pow_pos net.nets

  -- the extra vector alone, or none
  pub extra_one : needs_extra net ≡ true → extra_vectors net ≡ extra_vector net ∷ []
  unfolding extra_vectors
  extra_one e = rw e

  pub extra_none : needs_extra net ≡ false → extra_vectors net ≡ []
  unfolding extra_vectors
  extra_none e = rw e

  pub extra_most : length (extra_vectors net) ≤ 1
  extra_most = ⊎_elim (λ e. rw (extra_one e) (le_refl 1)) (λ e. rw (extra_none e) zero-le) (cases (needs_extra net))

  -- ---- some driver of a set

  -- a test of each driver decides whether some driver of the set has what it tests
  decides_some : (set : ℕ) (test : ℕ → Bool) (P : ℕ → Type 0) → ((j : ℕ) → Decides (test j) (P j))
      → Decides (any net.nets (λ j. has set j && test j)) ((j : ℕ) × (j < net.nets) × (has set j ≡ true) × P j)
  decides_some set test P d =
      decides_same (λ w. (w.0, w.1, w.2.0, w.2.1)) (λ w. (w.0, w.1, (w.2, w.3)))
      (decides_any (λ j. has set j && test j) (λ j. (has set j ≡ true) × P j) net.nets
      (λ j. decides_and (decides_itself (has set j)) (d j)))

  -- ---- two sets with a driver in common

  decides_meets : (a b : ℕ) → Decides (meets net a b) (Drives net a b true)
  unfolding meets
  decides_meets a b = decides_some a (has b) (λ j. has b j ≡ true) (λ j. decides_itself (has b j))

  pub meets_at : (a b j : ℕ) → j < net.nets → has a j ≡ true → has b j ≡ true → meets net a b ≡ true
  meets_at a b j l p q = test_passes (decides_meets a b) (j, l, p, q)

  pub meets_some : (a b : ℕ) → meets net a b ≡ true → Drives net a b true
  meets_some a b = (decides_meets a b).0

  -- as the code tests it: `a & b` is not 0
  pub meets_and : (a b : ℕ) → a < 2 ^ net.nets → meets net a b ≡ not (eqb (bit_and a b) 0)
  meets_and a b l = same_truth (meets net a b) (not (eqb (bit_and a b) 0)) there back
    where
      there : meets net a b ≡ true → not (eqb (bit_and a b) 0) ≡ true
      there e =
          let r = meets_some a b e in
          ap not (ne_eqb (bit_and a b) 0 (has_not_zero (bit_and a b) r.0 (has_and a b r.0 ∙ and_both r.2 r.3)))

      back : not (eqb (bit_and a b) 0) ≡ true → meets net a b ≡ true
      back e =
          let r = some_bit net.nets (bit_and a b) (lt_of_le_of_lt (and_le_l a b) l) (eqb-false (bit_and a b) 0 (not-true _ e)) in
          let both : has a r.0 && has b r.0 ≡ true = sym (has_and a b r.0) ∙ r.2 in
          meets_at a b r.0 r.1 (and_left (has a r.0) (has b r.0) both) (and_right (has a r.0) (has b r.0) both)

  -- ---- what drivers drive together

  -- it is active if one of them is
  active_driven : (reach vector : ℕ)
      → active net (driven net reach vector) ≡ any net.nets (λ j. has reach j && active net (has vector j))
  unfolding active driven meets some_at_0
  active_driven reach vector = go (is_and net)
    where
      at_0 : Bool
      at_0 = any net.nets (λ j. has reach j && not (has vector j))

      at_1 : Bool
      at_1 = any net.nets (λ j. has reach j && has vector j)

      go : (g : Bool) → cond g (not (cond g (not at_0) at_1)) (cond g (not at_0) at_1)
          ≡ any net.nets (λ j. has reach j && cond g (not (has vector j)) (has vector j))
      go true = not_not at_0
      go false = refl

  decides_driven_active : (reach vector : ℕ)
      → Decides (active net (driven net reach vector))
      ((j : ℕ) × (j < net.nets) × (has reach j ≡ true) × (active net (has vector j) ≡ true))
  decides_driven_active reach vector =
      rw (active_driven reach vector)
      (decides_some reach (λ j. active net (has vector j)) (λ j. active net (has vector j) ≡ true)
      (λ j. decides_itself (active net (has vector j))))

  pub driven_at : (reach vector j : ℕ) → j < net.nets → has reach j ≡ true → active net (has vector j) ≡ true
      → active net (driven net reach vector) ≡ true
  driven_at reach vector j l p q = test_passes (decides_driven_active reach vector) (j, l, p, q)

  pub driven_some : (reach vector : ℕ) → active net (driven net reach vector) ≡ true
      → (j : ℕ) × (j < net.nets) × (has reach j ≡ true) × (active net (has vector j) ≡ true)
  driven_some reach vector = (decides_driven_active reach vector).0

  -- no driver is in the empty set
  pub driven_none : (vector : ℕ) → active net (driven net 0 vector) ≡ false
  driven_none vector =
      ⊎_elim (λ e. let r = driven_some 0 vector e in contrary r.2 (has_zero r.0)) (λ e. e)
      (cases (active net (driven net 0 vector)))

  -- ---- the definition's own laws

  -- a floating receiver reads the soft level
  pub reads_floating : (vector : ℕ) → reads net 0 vector ≡ soft_level net
  unfolding reads
  reads_floating vector = refl

  -- any other reads what its drivers drive together
  pub reads_driven : (reach vector : ℕ) → reach ≢ 0 → reads net reach vector ≡ driven net reach vector
  unfolding reads
  reads_driven reach vector h = rw (ne_eqb reach 0 h)

  -- a receiver with an active driver in its reach reads the active value
  pub reads_active : (reach vector j : ℕ) → j < net.nets → has reach j ≡ true → active net (has vector j) ≡ true
      → active net (reads net reach vector) ≡ true
  reads_active reach vector j l p q =
      ap (active net) (reads_driven reach vector (has_not_zero reach j p)) ∙ driven_at reach vector j l p q

  -- and no other that does not float
  pub active_only : (reach vector : ℕ) → reach ≢ 0 → active net (reads net reach vector) ≡ true
      → (j : ℕ) × (j < net.nets) × (has reach j ≡ true) × (active net (has vector j) ≡ true)
  active_only reach vector h e = driven_some reach vector (ap (active net) (sym (reads_driven reach vector h)) ∙ e)

  -- so one with no active driver in its reach does not
  pub reads_inactive : (reach vector : ℕ) → reach ≢ 0
      → ((j : ℕ) → j < net.nets → has reach j ≡ true → active net (has vector j) ≡ false) → active net (reads net reach vector) ≡ false
  reads_inactive reach vector h none =
      ⊎_elim (λ e. let r = active_only reach vector h e in contrary r.3 (none r.0 r.1 r.2)) (λ e. e)
      (cases (active net (reads net reach vector)))

  -- ---- as the drivers say it

  decides_at_0 : (reach vector : ℕ) → Decides (some_at_0 net reach vector) (Drives net reach vector false)
  unfolding some_at_0
  decides_at_0 reach vector =
      decides_some reach (λ j. not (has vector j)) (λ j. has vector j ≡ false) (λ j. decides_off (has vector j))

  decides_driven : (reach vector : ℕ) → Decides (driven net reach vector) (Driven1 net reach vector)
  unfolding driven
  decides_driven reach vector =
      decides_cond (is_and net) (decides_equal net.gate 1) (decides_not (decides_at_0 reach vector)) (decides_meets reach vector)

  pub decides_reads : (reach vector : ℕ) → Decides (reads net reach vector) (Reads1 net reach vector)
  unfolding reads
  decides_reads reach vector =
      decides_cond (eqb reach 0) (decides_equal reach 0) (decides_equal net.level 1) (decides_driven reach vector)

  -- ---- as the code tests it, by the active bits of the vector

  pub active_reads : (reach vector bits : ℕ) → ActiveBits net 64 vector bits → reach < 2 ^ 64
      → active net (reads net reach vector) ≡ (eqb reach 0 && needs_extra net) || meets net reach bits
  active_reads reach vector bits shown l = go (eqb reach 0) refl
    where
      bit_at : (j : ℕ) → has reach j ≡ true → has bits j ≡ active net (has vector j)
      bit_at j p = shown j (has_inside 64 reach j l p)

      meets_active : meets net reach bits ≡ active net (driven net reach vector)
      meets_active =
          same_truth _ _
          (λ e. let r = meets_some reach bits e in driven_at reach vector r.0 r.1 r.2 (sym (bit_at r.0 r.2) ∙ r.3))
          (λ e. let r = driven_some reach vector e in meets_at reach bits r.0 r.1 r.2 (bit_at r.0 r.2 ∙ r.3))

      go : (t : Bool) → eqb reach 0 ≡ t → active net (reads net reach vector) ≡ (t && needs_extra net) || meets net reach bits
      go true e =
          let none : active net (driven net reach vector) ≡ false =
          ap (λ (x : ℕ). active net (driven net x vector)) (eqb-true reach 0 e) ∙ driven_none vector in
          ap (λ (x : ℕ). active net (reads net x vector)) (eqb-true reach 0 e) ∙ ap (active net) (reads_floating vector)
          ∙ active_soft net ∙ sym (or_false (needs_extra net)) ∙ ap (λ (b : Bool). needs_extra net || b) (sym (meets_active ∙ none))
      go false e = ap (active net) (reads_driven reach vector (eqb-false reach 0 e)) ∙ sym meets_active

  -- ---- what follows from them

  -- a receiver reads what the n drivers drive, and nothing else of a vector
  pub reads_same : (reach v w : ℕ) → ((j : ℕ) → j < net.nets → has v j ≡ has w j) → reads net reach v ≡ reads net reach w
  reads_same reach v w h = go (eqb reach 0) refl
    where
      there : reach ≢ 0 → (v w : ℕ) → ((j : ℕ) → j < net.nets → has v j ≡ has w j) → active net (reads net reach v) ≡ true
          → active net (reads net reach w) ≡ true
      there n v w h e =
          let r = active_only reach v n e in
          reads_active reach w r.0 r.1 r.2 (ap (active net) (sym (h r.0 r.1)) ∙ r.3)

      go : (t : Bool) → eqb reach 0 ≡ t → reads net reach v ≡ reads net reach w
      go true e =
          subst (λ (x : ℕ). reads net x v ≡ reads net x w) (sym (eqb-true reach 0 e)) (reads_floating v ∙ sym (reads_floating w))
      go false e =
          let n = eqb-false reach 0 e in
          active_equal net _ _ (same_truth _ _ (there n v w h) (there n w v (λ j l. sym (h j l))))

  -- a receiver that one driver alone reaches reads what it drives
  pub reads_alone : (i vector : ℕ) → i < net.nets → reads net (2 ^ i) vector ≡ has vector i
  reads_alone i vector l =
      active_equal net _ _
      (same_truth (active net (reads net (2 ^ i) vector)) (active net (has vector i))
      (λ e. let r = active_only (2 ^ i) vector (has_not_zero (2 ^ i) i (has_own i)) e in
      subst (λ (x : ℕ). active net (has vector x) ≡ true) (sym (has_only i r.0 r.2)) r.3)
      (λ e. reads_active (2 ^ i) vector i l (has_own i) e))

  -- the walking vector of a net tells whether its driver is in a reach that is not empty
  pub reads_walking : (reach i : ℕ) → i < net.nets → reach ≢ 0 → active net (reads net reach (walking_vector net i)) ≡ has reach i
  reads_walking reach i l h =
      same_truth (active net (reads net reach (walking_vector net i))) (has reach i) there
      (λ e. reads_active reach (walking_vector net i) i l e (active_walking i i l l ∙ eq-eqb i i refl))
    where
      there : active net (reads net reach (walking_vector net i)) ≡ true → has reach i ≡ true
      there e =
          let r = active_only reach (walking_vector net i) h e in
          subst (λ (x : ℕ). has reach x ≡ true) (sym (eqb-true i r.0 (sym (active_walking i r.0 l r.1) ∙ r.3))) r.2

  -- and of one that is empty as well, where there is no extra vector
  pub reads_walking_all : needs_extra net ≡ false → (reach i : ℕ) → i < net.nets
      → active net (reads net reach (walking_vector net i)) ≡ has reach i
  reads_walking_all s reach i l = go (eqb reach 0) refl
    where
      go : (t : Bool) → eqb reach 0 ≡ t → active net (reads net reach (walking_vector net i)) ≡ has reach i
      go true e =
          subst (λ (x : ℕ). active net (reads net x (walking_vector net i)) ≡ has x i) (sym (eqb-true reach 0 e))
          (ap (active net) (reads_floating (walking_vector net i)) ∙ active_soft net ∙ s ∙ sym (has_zero i))
      go false e = reads_walking reach i l (eqb-false reach 0 e)

  -- the extra vector, where there is one, tells whether a receiver floats
  pub reads_extra : needs_extra net ≡ true → (reach : ℕ) → active net (reads net reach (extra_vector net)) ≡ eqb reach 0
  reads_extra s reach = go (eqb reach 0) refl
    where
      go : (b : Bool) → eqb reach 0 ≡ b → active net (reads net reach (extra_vector net)) ≡ b
      go true e =
          subst (λ (x : ℕ). active net (reads net x (extra_vector net)) ≡ true) (sym (eqb-true reach 0 e))
          (ap (active net) (reads_floating (extra_vector net)) ∙ active_soft net ∙ s)
      go false e = reads_inactive reach (extra_vector net) (eqb-false reach 0 e) (λ j l on. active_extra j l)

  -- together they tell any two sets of drivers apart
  pub walking_apart : (a b : ℕ) → a < 2 ^ net.nets → b < 2 ^ net.nets
      → (needs_extra net ≡ true → reads net a (extra_vector net) ≡ reads net b (extra_vector net))
      → ((i : ℕ) → i < net.nets → reads net a (walking_vector net i) ≡ reads net b (walking_vector net i)) → a ≡ b
  walking_apart a b la lb extra walking = ⊎_elim with_extra without (cases (needs_extra net))
    where
      acts : (i : ℕ) → i < net.nets → active net (reads net a (walking_vector net i)) ≡ active net (reads net b (walking_vector net i))
      acts i l = ap (active net) (walking i l)

      without : needs_extra net ≡ false → a ≡ b
      without s = words_equal net.nets a b la lb (λ i l. sym (reads_walking_all s a i l) ∙ acts i l ∙ reads_walking_all s b i l)

      with_extra : needs_extra net ≡ true → a ≡ b
      with_extra s = go (eqb a 0) refl
        where
          float : eqb a 0 ≡ eqb b 0
          float = sym (reads_extra s a) ∙ ap (active net) (extra s) ∙ reads_extra s b

          go : (t : Bool) → eqb a 0 ≡ t → a ≡ b
          go true e = eqb-true a 0 e ∙ sym (eqb-true b 0 (sym float ∙ e))
          go false e =
              words_equal net.nets a b la lb
              (λ i l. sym (reads_walking a i l (eqb-false a 0 e)) ∙ acts i l ∙ reads_walking b i l (eqb-false b 0 (sym float ∙ e)))

  -- where there is an extra vector, the empty set reads on any other vector as all drivers do
  pub empty_as_all : needs_extra net ≡ true → (vector : ℕ) → vector < 2 ^ net.nets → vector ≢ extra_vector net
      → reads net 0 vector ≡ reads net (all_drivers net) vector
  empty_as_all s vector l h =
      let r = some_bit_differs net.nets vector (extra_vector net) l extra_below h in
      active_equal net _ _
      (ap (active net) (reads_floating vector) ∙ active_soft net ∙ s
      ∙ sym (reads_active (all_drivers net) vector r.0 r.1 (has_every r.0 r.1)
      (active_other net _ _ r.2 (active_extra r.0 r.1))))

  -- and on any but the walking vector of net i, all drivers but i read as all do
  pub all_but_as_all : (i vector : ℕ) → 2 ≤ net.nets → i < net.nets → vector < 2 ^ net.nets → vector ≢ walking_vector net i
      → reads net (all_but net i) vector ≡ reads net (all_drivers net) vector
  all_but_as_all i vector two l lv h = active_equal net _ _ (go (any net.nets other) refl)
    where
      on : ℕ → Bool
      on j = active net (has vector j)

      other : ℕ → Bool
      other j = not (eqb i j) && on j

      away : (j : ℕ) × (j < net.nets) × (eqb i j ≡ false)
      away = elim i as (λ x. (j : ℕ) × (j < net.nets) × (eqb x j ≡ false)) [
        | zero ↦ (1, omega arith, refl)
        | suc x ↦ (0, omega arith, ne_eqb (suc x) 0 (λ e. omega arith))
      ]

      but_not_empty : all_but net i ≢ 0
      but_not_empty = has_not_zero (all_but net i) away.0 (has_every_but i away.0 l away.1 ∙ ap not away.2)

      -- no other net is active, and the vector is not the walking one: none is
      quiet : any net.nets other ≡ false → (j : ℕ) → j < net.nets → on j ≡ false
      quiet e j lj = ⊎_elim at_i (λ q. off j lj q) (cases (eqb i j))
        where
          off : (x : ℕ) → x < net.nets → eqb i x ≡ false → on x ≡ false
          off x lx q = rw q at (any_false other net.nets x lx e)

          at_i : eqb i j ≡ true → on j ≡ false
          at_i q = ⊎_elim (λ f. absurd (h (is_walking f))) (λ f. f) (cases (on j))
            where
              bit_at : on j ≡ true → (x : ℕ) → x < net.nets → (b : Bool) → eqb i x ≡ b
                  → on x ≡ active net (has (walking_vector net i) x)
              bit_at f x lx true p = subst (λ (y : ℕ). on y ≡ true) (sym (eqb-true i j q) ∙ eqb-true i x p) f
                  ∙ sym (active_walking i x l lx ∙ p)
              bit_at f x lx false p = off x lx p ∙ sym (active_walking i x l lx ∙ p)

              is_walking : on j ≡ true → vector ≡ walking_vector net i
              is_walking f = words_equal net.nets vector (walking_vector net i) lv (walking_below i l)
                  (λ x lx. active_equal net _ _ (bit_at f x lx (eqb i x) refl))

      reads_nothing : (a : ℕ) → a ≢ 0 → any net.nets other ≡ false → active net (reads net a vector) ≡ false
      reads_nothing a nz e = reads_inactive a vector nz (λ j l on. quiet e j l)

      go : (t : Bool) → any net.nets other ≡ t
          → active net (reads net (all_but net i) vector) ≡ active net (reads net (all_drivers net) vector)
      go true e =
          let r = any_some other net.nets e in
          let acts : on r.0 ≡ true = and_right (not (eqb i r.0)) (on r.0) r.2 in
          reads_active (all_but net i) vector r.0 r.1
          (has_every_but i r.0 l r.1 ∙ and_left (not (eqb i r.0)) (on r.0) r.2) acts
          ∙ sym (reads_active (all_drivers net) vector r.0 r.1 (has_every r.0 r.1) acts)
      go false e = reads_nothing (all_but net i) but_not_empty e ∙ sym (reads_nothing (all_drivers net) (all_not_empty (omega arith)) e)

  -- ---- sequential words, and the response by its bits

  active_twice : (value : Bool) → active net (active net value) ≡ value
  unfolding active
  active_twice value = go (is_and net) value
    where
      go : (g v : Bool) → cond g (not (cond g (not v) v)) (cond g (not v) v) ≡ v
      go true v = not_not v
      go false v = refl

  -- a word of active readings, turned, is the word of the readings
  pub readings_turned : (f : ℕ → Bool) (xs : List ℕ) (w r : ℕ) → w ≡ word (map (λ x. active net (f x)) xs)
      → ActiveBits net (length xs) w r × (w < 2 ^ length xs → r < 2 ^ length xs) → r ≡ word (map f xs)
  readings_turned f xs w r e (bits, below) =
      words_equal (length xs) r (word (map f xs)) (below (rw e (made_below (λ x. active net (f x)) xs))) (made_below f xs)
      (λ i l. bits i l ∙ ap (λ (x : ℕ). active net (has x i)) e ∙ ap (active net) (has_made (λ x. active net (f x)) xs i l)
      ∙ active_twice (f (at xs i)) ∙ sym (has_made f xs i l))

  pub has_sequential : (vectors : List ℕ) (set t : ℕ) → t < length vectors
      → has (sequential_response net vectors set) t ≡ reads net set (at vectors t)
  unfolding sequential_response
  has_sequential vectors set t l = has_made (reads net set) vectors t l

  -- the active bits of a sequential word are the active readings
  pub active_answers : (vectors : List ℕ) (set answered : ℕ) → sequential_response net vectors set ≡ answered
      → (t : ℕ) → t < length vectors → active net (reads net set (at vectors t)) ≡ active net (has answered t)
  active_answers vectors set answered e t l =
      ap (active net) (sym (has_sequential vectors set t l) ∙ ap (λ (w : ℕ). has w t) e)

  pub sequential_below : (vectors : List ℕ) (set : ℕ) → sequential_response net vectors set < 2 ^ length vectors
  unfolding sequential_response
  sequential_below vectors set = made_below (reads net set) vectors

  -- two sets read the same on every vector exactly where their sequential words are equal
  pub alike_sequential : (vectors : List ℕ) (a b : ℕ) → ReadAlike net vectors a b
      → sequential_response net vectors a ≡ sequential_response net vectors b
  unfolding sequential_response
  alike_sequential vectors a b h = made_equal (reads net a) vectors (reads net b) h

  pub sequential_alike : (vectors : List ℕ) (a b : ℕ)
      → sequential_response net vectors a ≡ sequential_response net vectors b → ReadAlike net vectors a b
  unfolding sequential_response
  sequential_alike vectors a b e = made_bits (reads net a) vectors (reads net b) e

  pub response_is : (state vectors : List ℕ) → Response net state vectors (response net state vectors)
  unfolding response response_word
  response_is state vectors = record {
    one_a_vector = length-map vectors (response_word net state);
    no_high_bit = λ t l. rw (at_vector t (rw (length-map vectors (response_word net state)) at l))
        (made_below (λ reach. reads net reach (at vectors t)) state);
    bits = λ t i l m. both t i l m;
  }
    where
      at_vector : (t : ℕ) → t < length vectors → at (map (response_word net state) vectors) t ≡ response_word net state (at vectors t)
      at_vector t l = map_at (response_word net state) 0 vectors t l

      bit_at : (t i : ℕ) → t < length vectors → i < length state
          → has (at (map (response_word net state) vectors) t) i ≡ reads net (at state i) (at vectors t)
      bit_at t i l m = ap (λ (w : ℕ). has w i) (at_vector t l) ∙ has_made (λ reach. reads net reach (at vectors t)) state i m

      both : (t i : ℕ) → t < length vectors → i < length state
          → (has (at (map (response_word net state) vectors) t) i ≡ true) ↔ Reads1 net (at state i) (at vectors t)
      both t i l m =
          let d = decides_reads (at state i) (at vectors t) in (
            λ e. d.0 (sym (bit_at t i l m) ∙ e),
            λ h. bit_at t i l m ∙ test_passes d h,
          )

  -- only one list of words has these bits
  pub response_determined : (state vectors ws us : List ℕ) → Response net state vectors ws → Response net state vectors us → ws ≡ us
  response_determined state vectors ws us p q =
      ext_get_or 0 ws us (p.one_a_vector ∙ sym q.one_a_vector)
      (λ t l. words_equal (length state) (at ws t) (at us t) (p.no_high_bit t l)
      (q.no_high_bit t (rw (p.one_a_vector ∙ sym q.one_a_vector) at l))
      (λ i m. let lt : t < length vectors = rw p.one_a_vector at l in
      same_truth (has (at ws t) i) (has (at us t) i) (λ e. (q.bits t i lt m).1 ((p.bits t i lt m).0 e))
      (λ e. (p.bits t i lt m).1 ((q.bits t i lt m).0 e))))

  -- ---- responses of two states

  pub response_alike : (s u vectors : List ℕ) → length s ≡ length u → response net s vectors ≡ response net u vectors
      → (i : ℕ) → i < length s → ReadAlike net vectors (at s i) (at u i)
  response_alike s u vectors same e i l t lt =
      let p = (response_is s vectors).bits t i lt l in
      let q = (response_is u vectors).bits t i lt (rw same at l) in
      let d = decides_reads (at s i) (at vectors t) in
      let f = decides_reads (at u i) (at vectors t) in
      let w : has (at (response net s vectors) t) i ≡ has (at (response net u vectors) t) i = ap (λ (ws : List ℕ). has (at ws t) i) e in
      same_truth (reads net (at s i) (at vectors t)) (reads net (at u i) (at vectors t))
      (λ y. test_passes f (q.0 (sym w ∙ p.1 (d.0 y))))
      (λ y. test_passes d (p.0 (w ∙ q.1 (f.0 y))))

  pub alike_response : (s u vectors : List ℕ) → length s ≡ length u → ((i : ℕ) → i < length s → ReadAlike net vectors (at s i) (at u i))
      → response net s vectors ≡ response net u vectors
  alike_response s u vectors same h =
      response_determined u vectors (response net s vectors) (response net u vectors) as_u (response_is u vectors)
    where
      as_u : Response net u vectors (response net s vectors)
      as_u =
          let p = response_is s vectors in record {
            one_a_vector = p.one_a_vector;
            no_high_bit = λ t l. rw same at (p.no_high_bit t l);
            bits = λ t i l m.
                let n : i < length s = rw same m in
                let d = decides_reads (at s i) (at vectors t) in
                let f = decides_reads (at u i) (at vectors t) in (
                  λ e. f.0 (sym (h i n t l) ∙ test_passes d ((p.bits t i l n).0 e)),
                  λ r. (p.bits t i l n).1 (d.0 (h i n t l ∙ test_passes f r)),
                );
          }
