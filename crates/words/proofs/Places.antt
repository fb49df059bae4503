-- Things with a place each.
use Rattle.std.proofs.Common.{◌≡◌, sym, ap, ◌∙◌, true, false, cond, ◌⊎◌, inl, inr, ⊎_elim, ◌≢◌, List, ℕ, zero, suc}
use Rattle.std.proofs.Common.{◌≤◌, ◌<◌, not-suc-le-zero, arith, eqb, length, eqb-true}
use borrow.Author.Tests.{eqb-false}
use Rattle.words.specs.Bits.{at}
use Rattle.words.specs.Searching.{or_zero, any, position}
use Rattle.words.proofs.Tests.{cases, not_less}
use Rattle.words.proofs.Searching.{any_some, any_false, position_found}

-- two of the things 0 to n - 1 that have the same place
pub record SharedPlace (n : ℕ) (place : ℕ → ℕ) : Type 0 where
  pub one : ℕ
  pub other : ℕ
  pub one_below : one < n
  pub other_below : other < n
  pub differ : one ≢ other
  pub same : place one ≡ place other

-- places without thing n and place m: what stood at m moves to the place of n
moved : ℕ → ℕ → (ℕ → ℕ) → ℕ → ℕ
moved m n place i = cond (eqb (place i) m) (place n) (place i)

abbrev Moved : ℕ → ℕ → (ℕ → ℕ) → ℕ → Type 0
Moved m n place i = ((place i ≡ m) × (moved m n place i ≡ place n)) ⊎ ((place i ≢ m) × (moved m n place i ≡ place i))

moved_is : (m n : ℕ) (place : ℕ → ℕ) (i : ℕ) → Moved m n place i
unfolding moved
moved_is m n place i = ⊎_elim (λ e. inl (eqb-true _ _ e, rw e)) (λ e. inr (eqb-false _ _ e, rw e)) (cases (eqb (place i) m))

module _ (m n : ℕ) (place : ℕ → ℕ) (alone : (i : ℕ) → i < n → place i ≢ place n) where
  moved_below : ((i : ℕ) → i < suc n → place i < suc m) → (i : ℕ) → i < n → moved m n place i < m
  moved_below below i l = go (moved_is m n place i)
    where
      go : Moved m n place i → moved m n place i < m
      go (inl (p, e)) =
          let q : place n ≢ m = λ r. alone i l (p ∙ sym r) in
          rw e (omega (arith, q, below n (omega arith)))
      go (inr (p, e)) = rw e (omega (arith, p, below i (omega arith)))

  moved_back : SharedPlace n (moved m n place) → SharedPlace (suc n) place
  moved_back s = record {
    one = s.one;
    other = s.other;
    one_below = omega (arith, s.one_below);
    other_below = omega (arith, s.other_below);
    differ = s.differ;
    same = go (moved_is m n place s.one) (moved_is m n place s.other);
  }
    where
      go : Moved m n place s.one → Moved m n place s.other → place s.one ≡ place s.other
      go (inl (p, e)) (inl (q, f)) = p ∙ sym q
      go (inl (p, e)) (inr (q, f)) = absurd (alone s.other s.other_below (sym f ∙ sym s.same ∙ e))
      go (inr (p, e)) (inl (q, f)) = absurd (alone s.one s.one_below (sym e ∙ s.same ∙ f))
      go (inr (p, e)) (inr (q, f)) = sym e ∙ s.same ∙ f

-- of more things than there are places, two have the same place
pub shared_place : (m n : ℕ) (place : ℕ → ℕ) → m < n → ((i : ℕ) → i < n → place i < m) → SharedPlace n place
shared_place m zero place more below = absurd (not-suc-le-zero more)
shared_place zero (suc n) place more below = absurd (not-suc-le-zero (below n (omega arith)))
shared_place (suc m) (suc n) place more below =
    ⊎_elim with_last (without_last (λ other. shared_place m n other (omega arith))) (cases (any n (λ i. eqb (place i) (place n))))
  where
    with_last : any n (λ i. eqb (place i) (place n)) ≡ true → SharedPlace (suc n) place
    with_last e =
        let r = any_some (λ i. eqb (place i) (place n)) n e in record {
          one = r.0;
          other = n;
          one_below = omega (arith, r.1);
          other_below = omega arith;
          differ = λ q. omega (arith, r.1, q);
          same = eqb-true _ _ r.2;
        }

    without_last : ((other : ℕ → ℕ) → ((i : ℕ) → i < n → other i < m) → SharedPlace n other) → any n (λ i. eqb (place i) (place n)) ≡ false
        → SharedPlace (suc n) place
    without_last fewer e =
        let alone : (i : ℕ) → i < n → place i ≢ place n = λ i l. eqb-false _ _ (any_false (λ i. eqb (place i) (place n)) n i l e) in
        moved_back m n place alone (fewer (moved m n place) (moved_below m n place alone below))

-- words of which none stands twice in their list, each of them in another list: that one is as long or longer
pub no_longer : (wanted words : List ℕ)
    → ((i j : ℕ) → i < length wanted → j < length wanted → at wanted i ≡ at wanted j → i ≡ j)
    → ((i : ℕ) → i < length wanted → (t : ℕ) × (t < length words) × (at words t ≡ at wanted i))
    → length wanted ≤ length words
no_longer wanted words once there = not_less (length words) (length wanted) (λ more. twice (shared more))
  where
    place : ℕ → ℕ
    place i = or_zero (position (at wanted i) words)

    shared : length words < length wanted → SharedPlace (length wanted) place
    shared more = shared_place (length words) (length wanted) place more (λ i l. (position_found (at wanted i) words (there i l)).0)

    twice : SharedPlace (length wanted) place → ⊥
    twice s =
        s.differ
        (once s.one s.other s.one_below s.other_below
        (sym (position_found (at wanted s.one) words (there s.one s.one_below)).1 ∙ ap (at words) s.same
        ∙ (position_found (at wanted s.other) words (there s.other s.other_below)).1))
