-- Laws of the list of the numbers that pass a test.
use Rattle.std.proofs.Common.{◌≡◌, refl, sym, ap, ◌∙◌, Bool, true, false, cond, ◌&&◌, ⊎_elim, List, [], ◌∷◌, ◌++◌, ℕ}
use Rattle.std.proofs.Common.{zero, suc, ◌+◌, ◌≤◌, ◌<◌, not-suc-le-zero, eq-or-lt_of_le, le_of_suc-le-suc, le_refl}
use Rattle.std.proofs.Common.{add-zero, add-suc, arith, length, take, length-append}
use lib.ListN.{get_or-append}
use lib.Seq.{get_or_at, take-length, take-append-le}
use Rattle.std.specs.Prelude.{Some, None}
use Rattle.words.specs.Bits.{at, bit_value}
use Rattle.words.specs.Searching.{least, passing}
use Rattle.words.proofs.Bits.{bit_value_below_two}
use Rattle.words.proofs.Tests.{cases, less_or_not, and_both, and_false}
use Rattle.words.proofs.Searching.{least_found, least_missing}

-- two tests that agree below b pass the same numbers
pub passing_same : (p q : ℕ → Bool) (b : ℕ) → ((z : ℕ) → z < b → p z ≡ q z) → passing p b ≡ passing q b
unfolding passing
passing_same p q zero h = refl
passing_same p q (suc b) h = rw (h b (le_refl (suc b)), passing_same p q b (λ z l. h z (omega arith)))

-- one number more counts 1 where it passes
count_step : (p : ℕ → Bool) (b : ℕ) → length (passing p (suc b)) ≡ bit_value (p b) + length (passing p b)
unfolding passing bit_value
count_step p b = go (p b) (passing p b)
  where
    go : (t : Bool) (r : List ℕ) → length (cond t (r ++ b ∷ []) r) ≡ bit_value t + length r
    go true r = length-append r (b ∷ []) ∙ omega arith
    go false r = omega arith

-- the count below a + b, in two parts
pub count_parts : (p : ℕ → Bool) (a b : ℕ) → length (passing p (a + b)) ≡ length (passing p a) + length (passing (λ z. p (a + z)) b)
unfolding passing
count_parts p a zero = rw (add-zero a) (omega arith)
count_parts p a (suc b) = rw (add-suc a b) (omega (arith, count_step p (a + b), count_step (λ z. p (a + z)) b, count_parts p a b))

-- y stands at index m among those that pass below b
pub record Entry (p : ℕ → Bool) (b m y : ℕ) : Type 0 where
  pub below : y < b
  pub passes : p y ≡ true
  pub index : length (passing p y) ≡ m

module _ (p : ℕ → Bool) where
  pub passing_yes : (b : ℕ) → p b ≡ true → passing p (suc b) ≡ passing p b ++ b ∷ []
  unfolding passing
  passing_yes b e = rw e

  pub passing_no : (b : ℕ) → p b ≡ false → passing p (suc b) ≡ passing p b
  unfolding passing
  passing_no b e = rw e

  -- numbers that do not pass add nothing
  pub passing_gap : (a b : ℕ) → a ≤ b → ((z : ℕ) → a ≤ z → z < b → p z ≡ false) → passing p b ≡ passing p a
  passing_gap a zero l h = let e : a ≡ 0 = omega arith in rw e
  passing_gap a (suc b) l h =
      ⊎_elim (λ e. rw e)
      (λ m. let n = le_of_suc-le-suc m in passing_no b (h b n (le_refl (suc b))) ∙ passing_gap a b n (λ z i j. h z i (omega arith)))
      (eq-or-lt_of_le l)

  pub count_grows : (a b : ℕ) → a ≤ b → length (passing p a) ≤ length (passing p b)
  count_grows a zero l = let e : a ≡ 0 = omega arith in rw e (le_refl _)
  count_grows a (suc b) l =
      ⊎_elim (λ e. rw e (le_refl _)) (λ m. omega (arith, count_step p b, count_grows a b (le_of_suc-le-suc m))) (eq-or-lt_of_le l)

  pub count_most : (b : ℕ) → length (passing p b) ≤ b
  unfolding passing
  count_most zero = le_refl 0
  count_most (suc b) = omega (arith, count_step p b, bit_value_below_two (p b), count_most b)

  pub count_passed : (b : ℕ) → p b ≡ true → length (passing p (suc b)) ≡ suc (length (passing p b))
  unfolding bit_value
  count_passed b e = count_step p b ∙ rw e (omega arith)

  pub count_grows_past : (a b : ℕ) → a < b → p a ≡ true → length (passing p a) < length (passing p b)
  count_grows_past a b l e = omega (arith, count_passed a e, count_grows (suc a) b l)

  -- a number with more of them below it is larger
  pub larger_by_count : (a b : ℕ) → length (passing p a) < length (passing p b) → a < b
  larger_by_count a b l = ⊎_elim (λ m. m) (λ m. absurd (not-suc-le-zero {n = 0} (omega (arith, count_grows b a m)))) (less_or_not a b)

  front_kept : (b m : ℕ) → m ≤ length (passing p b) → take m (passing p (suc b)) ≡ take m (passing p b)
  front_kept b m l =
      ⊎_elim (λ e. rw (passing_yes b e) (take-append-le m (passing p b) (b ∷ []) l)) (λ e. rw (passing_no b e)) (cases (p b))

  -- those below a are the front of those below b
  pub passing_front : (a b : ℕ) → a ≤ b → take (length (passing p a)) (passing p b) ≡ passing p a
  passing_front a zero l = let e : a ≡ 0 = omega arith in rw e (take-length (passing p 0))
  passing_front a (suc b) l =
      ⊎_elim (λ e. rw e (take-length (passing p (suc b))))
      (λ m. let n = le_of_suc-le-suc m in front_kept b (length (passing p a)) (count_grows a b n) ∙ passing_front a b n)
      (eq-or-lt_of_le l)

  entry_kept : (b m : ℕ) → m < length (passing p b) → at (passing p (suc b)) m ≡ at (passing p b) m
  entry_kept b m l =
      ⊎_elim (λ e. rw (passing_yes b e) (get_or-append (passing p b) (b ∷ []) 0 m l)) (λ e. rw (passing_no b e)) (cases (p b))

  entry_last : (b : ℕ) → p b ≡ true → at (passing p (suc b)) (length (passing p b)) ≡ b
  entry_last b e = rw (passing_yes b e) (get_or_at (passing p b) b [] 0 (length (passing p b)) refl)

  -- a number that passes is the entry whose index is the count below it
  pub entry_of : (b y : ℕ) → y < b → p y ≡ true → at (passing p b) (length (passing p y)) ≡ y
  entry_of zero y l e = absurd (not-suc-le-zero l)
  entry_of (suc b) y l e =
      ⊎_elim (λ q. rw (← q) (entry_last y e)) (λ m. entry_kept b (length (passing p y)) (count_grows_past y b m e) ∙ entry_of b y m e)
      (eq-or-lt_of_le (le_of_suc-le-suc l))

  -- and every entry is such a number
  pub entry_is : (b m : ℕ) → m < length (passing p b) → Entry p b m (at (passing p b) m)
  unfolding passing
  entry_is zero m l = absurd (not-suc-le-zero l)
  entry_is (suc b) m l =
      ⊎_elim (λ k. early k (entry_is b m k)) (λ k. ⊎_elim (late k) (λ e. absurd (never k (rw e at l))) (cases (p b)))
      (less_or_not m (length (passing p b)))
    where
      early : m < length (passing p b) → Entry p b m (at (passing p b) m) → Entry p (suc b) m (at (passing p (suc b)) m)
      early k r = rw (entry_kept b m k) (record { below = omega arith; passes = r.passes; index = r.index })

      never : length (passing p b) ≤ m → m < length (passing p b) → ⊥
      never k i = omega arith

      late : length (passing p b) ≤ m → p b ≡ true → Entry p (suc b) m (at (passing p (suc b)) m)
      late k e =
          let q : m ≡ length (passing p b) = omega (arith, count_passed b e) in
          rw (q, entry_last b e) (record { below = omega arith; passes = e; index = refl })

  -- a search below b for a number that passes both tests is a search in the list
  module _ (b : ℕ) (q : ℕ → Bool) where
    fails : (z : ℕ) → z < b → (p z ≡ true → q (at (passing p b) (length (passing p z))) ≡ false) → p z && q z ≡ false
    fails z l h = ⊎_elim (λ e. let f : q z ≡ false = sym (ap q (entry_of b z l e)) ∙ h e in rw f (and_false (p z)))
        (λ e. rw e) (cases (p z))

    pub least_in : (m : ℕ) → m < length (passing p b) → q (at (passing p b) m) ≡ true → ((j : ℕ) → j < m → q (at (passing p b) j) ≡ false)
        → least b 0 (λ a. p a && q a) ≡ Some (at (passing p b) m)
    least_in m l e h =
        let r : Entry p b m (at (passing p b) m) = entry_is b m l in
        least_found (λ a. p a && q a) b (at (passing p b) m) r.below
        (λ z i. fails z (omega arith) (λ f. h _ (rw (← r.index) (count_grows_past z (at (passing p b) m) i f)))) (and_both r.passes e)

    pub none_in : ((j : ℕ) → j < length (passing p b) → q (at (passing p b) j) ≡ false) → least b 0 (λ a. p a && q a) ≡ None
    none_in h = least_missing (λ a. p a && q a) b (λ z i. fails z i (λ f. h _ (count_grows_past z b i f)))
