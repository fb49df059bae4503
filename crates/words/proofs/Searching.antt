-- Laws of the search for the smallest.
use Rattle.std.proofs.Common.{◌≡◌, refl, sym, ap, ◌∙◌, subst, Bool, true, false, ◌||◌, true≢false, ⊎_elim, List, ℕ}
use Rattle.std.proofs.Common.{zero, suc, ◌+◌, ◌≤◌, ◌<◌, zero-le, not-suc-le-zero, eq-or-lt_of_le, le_refl, zero-add}
use Rattle.std.proofs.Common.{arith, eqb, length, eq-eqb, eqb-true}
use mathlib.Core.Bool.{false≢true}
use borrow.Author.Tests.{eqb-false}
use Rattle.std.specs.Prelude.{Option}
use Rattle.std.specs.Prelude.{Some, None}
use Rattle.words.specs.Answers.{Decides}
use Rattle.words.specs.Bits.{at}
use Rattle.words.specs.Searching.{least, is_found, or_zero, any, position, among}
use Rattle.words.proofs.Tests.{contrary, same_truth, or_right, or_cases, less_or_not}

module _ (p : ℕ → Bool) where
  -- what a search from x to e finds
  pub data Least (x e : ℕ) : Option ℕ → Type 0 where
    first : {y : ℕ} → x ≤ y → y < e → p y ≡ true → ((z : ℕ) → x ≤ z → z < y → p z ≡ false) → Least x e (Some y)
    nowhere : ((z : ℕ) → x ≤ z → z < e → p z ≡ false) → Least x e None

  least_is : (d x e : ℕ) → x + d ≡ e → Least x e (least d x p)
  unfolding least
  least_is zero x e q = nowhere (λ z l m. absurd (not-suc-le-zero {n = 0} (omega arith)))
  least_is (suc d) x e q = go (p x) refl (least_is d (suc x) e (omega arith))
    where
      step : (s : Option ℕ) → p x ≡ false → Least (suc x) e s → Least x e s
      step (Some y) f (first a b c g) =
          first {y = y} (omega arith) b c
          (λ z l m. ⊎_elim (λ q. ap p (sym q) ∙ f) (λ k. g z k m) (eq-or-lt_of_le l))
      step None f (nowhere g) = nowhere (λ z l m. ⊎_elim (λ q. ap p (sym q) ∙ f) (λ k. g z k m) (eq-or-lt_of_le l))

      go : (b : Bool) → p x ≡ b → Least (suc x) e (least d (suc x) p)
          → Least x e (elim b as (λ _. Option ℕ) [ true ↦ Some x | false ↦ least d (suc x) p ])
      go true f r = first {y = x} (le_refl x) (omega arith) f (λ z l m. absurd (not-suc-le-zero {n = 0} (omega arith)))
      go false f r = step (least d (suc x) p) f r

  pub least_below : (n : ℕ) → Least 0 n (least n 0 p)
  least_below n = least_is n 0 n (zero-add n)

  -- ---- what a loop that goes upward has found

  pub least_found : (n y : ℕ) → y < n → ((z : ℕ) → z < y → p z ≡ false) → p y ≡ true → least n 0 p ≡ Some y
  least_found n y l h e = go (least n 0 p) (least_below n)
    where
      go : (s : Option ℕ) → Least 0 n s → s ≡ Some y
      go (Some x) (first a b c g) =
          let up : x < y → ⊥ = λ m. contrary c (h x m) in
          let down : y < x → ⊥ = λ m. contrary e (g y zero-le m) in
          let q : x ≡ y = omega (arith, up, down) in ap Some q
      go None (nowhere g) = contrary e (g y zero-le l)

  pub least_missing : (n : ℕ) → ((z : ℕ) → z < n → p z ≡ false) → least n 0 p ≡ None
  least_missing n h = go (least n 0 p) (least_below n)
    where
      go : (s : Option ℕ) → Least 0 n s → s ≡ None
      go (Some x) (first a b c g) = contrary c (h x b)
      go None r = refl

  -- ---- some number below n passes

  pub any_at : (n i : ℕ) → i < n → p i ≡ true → any n p ≡ true
  unfolding any is_found
  any_at n i l e = go (least n 0 p) (least_below n)
    where
      go : (s : Option ℕ) → Least 0 n s → is_found s ≡ true
      go (Some x) r = refl
      go None (nowhere g) = contrary e (g i zero-le l)

  pub any_none : (n : ℕ) → ((i : ℕ) → i < n → p i ≡ false) → any n p ≡ false
  unfolding any is_found
  any_none n h = ap is_found (least_missing n h)

  pub any_some : (n : ℕ) → any n p ≡ true → (i : ℕ) × (i < n) × (p i ≡ true)
  unfolding any is_found
  any_some n e = go (least n 0 p) (least_below n) e
    where
      go : (s : Option ℕ) → Least 0 n s → is_found s ≡ true → (i : ℕ) × (i < n) × (p i ≡ true)
      go (Some x) (first a b c g) q = (x, b, c)
      go None r q = absurd (false≢true q)

  pub any_false : (n i : ℕ) → i < n → any n p ≡ false → p i ≡ false
  unfolding any is_found
  any_false n i l e = go (least n 0 p) (least_below n) e
    where
      go : (s : Option ℕ) → Least 0 n s → is_found s ≡ false → p i ≡ false
      go (Some x) r q = absurd (true≢false q)
      go None (nowhere g) q = g i zero-le l

  -- one number more
  pub any_more : (n : ℕ) → any (n + 1) p ≡ any n p || p n
  any_more n = same_truth (any (n + 1) p) (any n p || p n) there back
    where
      there : any (n + 1) p ≡ true → any n p || p n ≡ true
      there e =
          let r = any_some (n + 1) e in
          ⊎_elim (λ l. rw (any_at n r.0 l r.2))
          (λ m. or_right (any n p) (p n) (let q : r.0 ≡ n = omega (arith, r.1, m) in subst (λ (x : ℕ). p x ≡ true) q r.2))
          (less_or_not r.0 n)

      back : any n p || p n ≡ true → any (n + 1) p ≡ true
      back e =
          ⊎_elim (λ f. let r = any_some n f in any_at (n + 1) r.0 (omega (arith, r.1)) r.2) (λ f. any_at (n + 1) n (omega arith) f)
          (or_cases (any n p) (p n) e)

  -- a test that decides at each number decides whether there is one
  pub decides_any : (P : ℕ → Type 0) (n : ℕ) → ((i : ℕ) → Decides (p i) (P i)) → Decides (any n p) ((i : ℕ) × (i < n) × P i)
  decides_any P n h = (
    λ e. let r = any_some n e in (r.0, r.1, (h r.0).0 r.2),
    λ e w. (h w.0).1 (any_false n w.0 w.1 e) w.2,
  )

-- two tests that agree below n find the same
pub least_same : (p q : ℕ → Bool) (n : ℕ) → ((z : ℕ) → z < n → p z ≡ q z) → least n 0 p ≡ least n 0 q
least_same p q n h = go (least n 0 q) (least_below q n)
  where
    go : (s : Option ℕ) → Least q 0 n s → least n 0 p ≡ s
    go (Some y) (first a b c g) = least_found p n y b (λ z l. h z (omega arith) ∙ g z zero-le l) (h y b ∙ c)
    go None (nowhere g) = least_missing p n (λ z l. h z l ∙ g z zero-le l)

-- ---- a word in a list

module _ (w : ℕ) (ws : List ℕ) where
  pub position_is : Least (λ t. eqb (at ws t) w) 0 (length ws) (position w ws)
  unfolding position
  position_is = least_below (λ t. eqb (at ws t) w) (length ws)

  pub position_found : (t : ℕ) × (t < length ws) × (at ws t ≡ w)
      → (or_zero (position w ws) < length ws) × (at ws (or_zero (position w ws)) ≡ w)
  position_found (t, l, e) = go (position w ws) position_is
    where
      go : (s : Option ℕ) → Least (λ x. eqb (at ws x) w) 0 (length ws) s → (or_zero s < length ws) × (at ws (or_zero s) ≡ w)
      go (Some x) (first a b c g) = (b, eqb-true _ _ c)
      go None (nowhere g) = contrary (eq-eqb _ _ e) (g t zero-le l)

  pub decides_among : Decides (among w ws) ((t : ℕ) × (t < length ws) × (at ws t ≡ w))
  unfolding among position any
  decides_among = decides_any (λ t. eqb (at ws t) w) (λ t. at ws t ≡ w) (length ws) (λ t. (eqb-true (at ws t) w, eqb-false (at ws t) w))
