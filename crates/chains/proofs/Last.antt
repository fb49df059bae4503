-- Laws of the last number that passes, and of a search from the top down.
use Rattle.std.proofs.Common.{◌≡◌, sym, ap, ◌∙◌, subst, refl, Bool, true, false, cond, ⊎_elim, ℕ, zero, suc, ◌≤◌, ◌<◌}
use Rattle.std.proofs.Common.{zero-le, not-suc-le-zero, eq-or-lt_of_le, le_refl, le_of_suc-le-suc, arith}
use Rattle.std.specs.Prelude.{Option}
use Rattle.std.specs.Prelude.{Some, None}
use Rattle.words.specs.Searching.{least}
use Rattle.words.proofs.Tests.{cases, less_or_not}
use Rattle.words.proofs.Searching.{Least, first, nowhere, least_below, least_found, least_missing}
use Rattle.chains.specs.Chains.{last}

-- ---- the last number that passes

module _ (p : ℕ → Bool) where
  pub last_yes : (n : ℕ) → p n ≡ true → last (suc n) p ≡ suc n
  unfolding last
  last_yes n e = rw e

  pub last_no : (n : ℕ) → p n ≡ false → last (suc n) p ≡ last n p
  unfolding last
  last_no n e = rw e

  pub last_at_most : (n : ℕ) → last n p ≤ n
  unfolding last
  last_at_most zero = zero-le
  last_at_most (suc n) = go (p n) (last_at_most n)
    where
      go : (b : Bool) → last n p ≤ n → cond b (suc n) (last n p) ≤ suc n
      go true h = le_refl (suc n)
      go false h = omega arith

  pub last_passes : (n i : ℕ) → last n p ≡ suc i → p i ≡ true
  unfolding last
  last_passes zero i e = absurd (not-suc-le-zero {n = 0} (omega arith))
  last_passes (suc n) i e =
      ⊎_elim (λ y. let q : n ≡ i = omega (arith, last_yes n y) in subst (λ (x : ℕ). p x ≡ true) q y)
      (λ y. last_passes n i (sym (last_no n y) ∙ e)) (cases (p n))

  -- none after it passes
  pub last_after : (n z : ℕ) → last n p ≤ z → z < n → p z ≡ false
  unfolding last
  last_after zero z l m = absurd (not-suc-le-zero m)
  last_after (suc n) z l m =
      ⊎_elim (λ y. absurd (not-suc-le-zero {n = 0} (omega (arith, last_yes n y))))
      (λ y. ⊎_elim (λ q. subst (λ (x : ℕ). p x ≡ false) (sym q) y) (λ k. last_after n z (rw (last_no n y) at l) k)
      (eq-or-lt_of_le (le_of_suc-le-suc m)))
      (cases (p n))

-- tests that agree below n have the same last
pub last_same : (p q : ℕ → Bool) (n : ℕ) → ((z : ℕ) → z < n → p z ≡ q z) → last n p ≡ last n q
unfolding last
last_same p q zero h = refl
last_same p q (suc n) h = rw (h n (le_refl (suc n)), last_same p q n (λ z l. h z (omega arith)))

-- ---- a search from the top down

-- the first finding, or else the second
abbrev pub or_else : Option ℕ → Option ℕ → Option ℕ
or_else (Some x) s = Some x
or_else None s = s

pub or_else_missing : (s : Option ℕ) → s ≡ or_else s None
or_else_missing (Some x) = refl
or_else_missing None = refl

module _ (p : ℕ → Bool) where
  -- numbers at the top that do not pass may be left out
  pub least_shrinks : (q n : ℕ) → q ≤ n → ((z : ℕ) → q ≤ z → z < n → p z ≡ false) → least n 0 p ≡ least q 0 p
  least_shrinks q n l h = go (least q 0 p) (least_below p q)
    where
      go : (s : Option ℕ) → Least p 0 q s → least n 0 p ≡ s
      go (Some y) (first a b c g) = least_found p n y (omega arith) (λ z m. g z zero-le m) c
      go None (nowhere g) = least_missing p n (λ z m. ⊎_elim (λ k. g z zero-le k) (λ k. h z k m) (less_or_not z q))

  -- one that passes is found if no smaller one is
  pub least_top : (i : ℕ) (s : Option ℕ) → p i ≡ true → or_else (least (suc i) 0 p) s ≡ or_else (least i 0 p) (Some i)
  least_top i s e = go (least i 0 p) (least_below p i)
    where
      go : (t : Option ℕ) → Least p 0 i t → or_else (least (suc i) 0 p) s ≡ or_else t (Some i)
      go (Some y) (first a b c g) = ap (λ (x : Option ℕ). or_else x s) (least_found p (suc i) y (omega arith) (λ z m. g z zero-le m) c)
      go None (nowhere g) = ap (λ (x : Option ℕ). or_else x s) (least_found p (suc i) i (le_refl (suc i)) (λ z m. g z zero-le m) e)
