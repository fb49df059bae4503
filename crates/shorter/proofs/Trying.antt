-- What the trials leave, whatever the test of a set.
use Rattle.std.proofs.Common.{◌≡◌, refl, sym, ap, ◌∙◌, subst, Bool, true, false, cond, ◌&&◌, ◌⊎◌, inl, inr, ⊎_elim}
use Rattle.std.proofs.Common.{List, ℕ, zero, suc, ◌+◌, ◌-◌, ◌≤◌, ◌<◌, min, not-suc-le-zero, le_of_suc-le-suc}
use Rattle.std.proofs.Common.{eq-or-lt_of_le, le_refl, arith, ltb, length, ltb-false}
use native.Mathlib.Nat.{zero-min, min-zero, suc-min-suc}
use Rattle.words.proofs.Tests.{cases, contrary}
use Rattle.shorter.specs.Shorter.{without, InOrder, Trials, one_check, trials}
use Rattle.shorter.proofs.Ordered.{in_order_same, in_order_both, without_in_order, without_swap, without_length}

module _ (passed : List ℕ → Bool) where
  -- the checks made are the lesser of those allowed and the vectors to be tried
  pub checks_made : (t allowed : ℕ) (kept : List ℕ) → (trials passed t allowed kept).checks ≡ min allowed t
  unfolding trials
  checks_made zero allowed kept = sym (min-zero allowed)
  checks_made (suc t) zero kept = sym (zero-min (suc t))
  checks_made (suc t) (suc allowed) kept = ap suc (checks_made t allowed _) ∙ sym (suc-min-suc allowed t)

  -- what one trial leaves
  abbrev next : ℕ → List ℕ → List ℕ
  next t kept = cond (passed (without t kept)) (without t kept) kept

  -- a property of what a trial leaves, by whether the vector is dropped
  by_trial : (P : List ℕ → Type 0) (t : ℕ) (kept : List ℕ) → (passed (without t kept) ≡ true → P (without t kept))
      → (passed (without t kept) ≡ false → P kept)
      → P (next t kept)
  by_trial P t kept dropped stays = go (passed (without t kept)) refl
    where
      go : (b : Bool) → passed (without t kept) ≡ b → P (cond b (without t kept) kept)
      go true e = dropped e
      go false e = stays e

  -- a set that passes is left
  pub kept_passes : (t allowed : ℕ) (kept : List ℕ) → passed kept ≡ true
      → passed (trials passed t allowed kept).kept ≡ true
  unfolding trials
  kept_passes zero allowed kept e = e
  kept_passes (suc t) zero kept e = e
  kept_passes (suc t) (suc allowed) kept e =
      kept_passes t allowed (next t kept) (by_trial (λ xs. passed xs ≡ true) t kept (λ f. f) (λ _. e))

  -- made of the vectors given, in their order
  pub kept_in_order : (t allowed : ℕ) (kept : List ℕ) → InOrder (trials passed t allowed kept).kept kept
  unfolding trials
  kept_in_order zero allowed kept = in_order_same kept
  kept_in_order (suc t) zero kept = in_order_same kept
  kept_in_order (suc t) (suc allowed) kept =
      in_order_both (trials passed t allowed (next t kept)).kept (next t kept) kept
      (kept_in_order t allowed (next t kept))
      (by_trial (λ xs. InOrder xs kept) t kept (λ _. without_in_order t kept) (λ _. in_order_same kept))

  -- no vector from index t on can be left out
  abbrev pub NoneSpare : ℕ → List ℕ → Type 0
  NoneSpare t kept = (i : ℕ) → t ≤ i → i < length kept → passed (without i kept) ≡ false

  -- Where more vectors never make a set fail: with checks for every vector, none that is kept can be left out. `Good`
  -- is what a set must be for that, and each part of a good set is good.
  module _ (Good : List ℕ → Type 0) (part_good : (xs ys : List ℕ) → InOrder xs ys → Good ys → Good xs)
      (more : (xs ys : List ℕ) → Good ys → InOrder xs ys → passed xs ≡ true → passed ys ≡ true) where
    record Left (t : ℕ) (kept : List ℕ) : Type 0 where
      size : t ≤ length kept
      good : Good kept
      none : NoneSpare t kept

    -- a vector dropped: of the smaller set no later vector can be left out either
    after_drop : (t : ℕ) (kept : List ℕ) → Left (suc t) kept → Left t (without t kept)
    after_drop t kept h = record {
      size = omega (arith, size);
      good = part_good (without t kept) kept (without_in_order t kept) h.good;
      none = λ i a b. ⊎_elim
          (λ e. contrary
          (more (without i (without t kept)) (without (suc i) kept)
          (part_good (without (suc i) kept) kept (without_in_order (suc i) kept) h.good)
          (subst (λ (xs : List ℕ). InOrder xs (without (suc i) kept)) (sym (without_swap t i kept a))
          (without_in_order t (without (suc i) kept))) e)
          (h.none (suc i) (omega arith) (omega (arith, size))))
          (λ e. e) (cases (passed (without i (without t kept))));
    }
      where
        size : suc (length (without t kept)) ≡ length kept
        size = without_length t kept h.size

    after_keep : (t : ℕ) (kept : List ℕ) → Left (suc t) kept → passed (without t kept) ≡ false → Left t kept
    after_keep t kept h f = record {
      size = (let l = h.size in omega arith);
      good = h.good;
      none = λ i a b. ⊎_elim (λ e. subst (λ (x : ℕ). passed (without x kept) ≡ false) e f)
          (λ n. h.none i n b)
          (eq-or-lt_of_le a);
    }

    left_none : (t allowed : ℕ) (kept : List ℕ) → t ≤ allowed → Left t kept
        → NoneSpare 0 (trials passed t allowed kept).kept
    unfolding trials
    left_none zero allowed kept m h = h.none
    left_none (suc t) zero kept m h = absurd (not-suc-le-zero m)
    left_none (suc t) (suc allowed) kept m h =
        left_none t allowed (next t kept) (le_of_suc-le-suc m)
        (by_trial (Left t) t kept (λ _. after_drop t kept h) (after_keep t kept h))

    pub none_spare : (allowed : ℕ) (vectors : List ℕ) → length vectors ≤ allowed → Good vectors
        → NoneSpare 0 (trials passed (length vectors) allowed vectors).kept
    none_spare allowed vectors m g =
        left_none (length vectors) allowed vectors m (record {
          size = le_refl (length vectors);
          good = g;
          none = λ i a b. absurd (not-suc-le-zero {n = 0} (omega arith));
        })

-- ---- the trials as a loop makes them

and_fails : (a b : Bool) → a && b ≡ false → (a ≡ false) ⊎ (b ≡ false)
and_fails true b e = inr e
and_fails false b e = inl refl

module _ (passed : List ℕ → Bool) where
  -- the end: no vector is left to be tried, or no check
  ended : (t left : ℕ) (kept : List ℕ) → (t ≡ 0) ⊎ (left ≡ 0)
      → trials passed t left kept ≡ record { kept = kept; checks = 0 }
  unfolding trials
  ended zero left kept e = refl
  ended (suc t) zero kept e = refl
  ended (suc t) (suc left) kept (inl e) = absurd (not-suc-le-zero {n = 0} (omega arith))
  ended (suc t) (suc left) kept (inr e) = absurd (not-suc-le-zero {n = 0} (omega arith))

  one_trial : (t left : ℕ) (kept : List ℕ) (b : Bool) → passed (without t kept) ≡ b
      → trials passed (suc t) (suc left) kept ≡ one_check (trials passed t left (cond b (without t kept) kept))
  unfolding trials
  one_trial t left kept b e = rw e

  -- The vectors before index t of those kept are still to be tried, with `left` checks left. With what was done so far
  -- that is the whole; what is kept is a part of the set given, in its order, and passes.
  pub record Going (vectors : List ℕ) (allowed : ℕ) (kept : List ℕ) (t left : ℕ) : Type 0 where
    pub size : t ≤ length kept
    pub spent : left ≤ allowed
    pub kept_is : (trials passed (length vectors) allowed vectors).kept ≡ (trials passed t left kept).kept
    pub checks_is : (trials passed (length vectors) allowed vectors).checks
        ≡ allowed - left + (trials passed t left kept).checks
    pub in_order : InOrder kept vectors
    pub passing : passed kept ≡ true

  module _ (vectors : List ℕ) (allowed : ℕ) where
    pub going_first : passed vectors ≡ true → Going vectors allowed vectors (length vectors) allowed
    going_first e = record {
      size = le_refl (length vectors);
      spent = le_refl allowed;
      kept_is = refl;
      checks_is = omega arith;
      in_order = in_order_same vectors;
      passing = e;
    }

    -- one trial more
    going_next : (kept : List ℕ) (t left : ℕ) (b : Bool) → Going vectors allowed kept (suc t) (suc left)
        → passed (without t kept) ≡ b → Going vectors allowed (cond b (without t kept) kept) t left
    going_next kept t left b g e =
        let rest = cond b (without t kept) kept in
        let step : trials passed (suc t) (suc left) kept ≡ one_check (trials passed t left rest) =
        one_trial t left kept b e in
        let one : (trials passed (suc t) (suc left) kept).checks ≡ suc (trials passed t left rest).checks =
        ap (λ (x : Trials). x.checks) step in record {
          size = size b;
          spent = (let s = g.spent in omega arith);
          kept_is = g.kept_is ∙ ap (λ (x : Trials). x.kept) step;
          checks_is = (let s = g.spent in let c = g.checks_is in omega arith);
          in_order = ordered b;
          passing = still b e;
        }
      where
        size : (b : Bool) → t ≤ length (cond b (without t kept) kept)
        size true = omega (arith, without_length t kept g.size, g.size)
        size false = omega (arith, g.size)

        ordered : (b : Bool) → InOrder (cond b (without t kept) kept) vectors
        ordered true = in_order_both (without t kept) kept vectors (without_in_order t kept) g.in_order
        ordered false = g.in_order

        still : (b : Bool) → passed (without t kept) ≡ b → passed (cond b (without t kept) kept) ≡ true
        still true f = f
        still false f = g.passing

    pub going_on : (kept : List ℕ) (t left : ℕ) (b : Bool) → Going vectors allowed kept t left → 0 < t → 0 < left
        → passed (without (t - 1) kept) ≡ b
        → Going vectors allowed (cond b (without (t - 1) kept) kept) (t - 1) (left - 1)
    going_on kept t left b g p q e =
        let same_t : t ≡ suc (t - 1) = omega arith in
        let same_left : left ≡ suc (left - 1) = omega arith in
        going_next kept (t - 1) (left - 1) b
        (subst (λ (x : ℕ). Going vectors allowed kept (suc (t - 1)) x) same_left
        (subst (λ (x : ℕ). Going vectors allowed kept x left) same_t g)) e

    pub going_last : (kept : List ℕ) (t left : ℕ) → Going vectors allowed kept t left → ltb 0 t && ltb 0 left ≡ false
        → (kept ≡ (trials passed (length vectors) allowed vectors).kept)
        × (allowed - left ≡ (trials passed (length vectors) allowed vectors).checks)
    going_last kept t left g e =
        let no_more : (t ≡ 0) ⊎ (left ≡ 0) =
        ⊎_elim (λ f. inl (none t (ltb-false 0 t f))) (λ f. inr (none left (ltb-false 0 left f)))
        (and_fails (ltb 0 t) (ltb 0 left) e) in
        let done = ended t left kept no_more in
        let zero_checks : (trials passed t left kept).checks ≡ 0 = ap (λ (x : Trials). x.checks) done in
        (sym (g.kept_is ∙ ap (λ (x : Trials). x.kept) done), (let c = g.checks_is in omega arith))
      where
        none : (x : ℕ) → x ≤ 0 → x ≡ 0
        none x l = omega arith
