-- Of more than C(q, q/2 rounded down) words of q bits one covers another: the words fall into chains, of any two words
-- of a chain one covers the other, and there are that many chains. A chain is known by its smallest word.
use Rattle.std.proofs.Common.{◌≡◌, refl, sym, ap, ◌∙◌, Bool, not, false, true, ◌⊎◌, inl, inr, List, ℕ, zero, suc, ◌+◌}
use Rattle.std.proofs.Common.{◌*◌, ◌/◌, ◌%◌, ◌^◌, ◌≤◌, ◌<◌, zero-le, not-suc-le-zero, mod-lt, arith, eqb, length}
use Rattle.std.proofs.Common.{eq-eqb, eqb-true}
use lib.Arith.{lt-one}
use borrow.Author.Tests.{not-false}
use Rattle.words.specs.Bits.{has, at}
use Rattle.words.specs.Searching.{any, passing}
use Rattle.words.specs.Open.{open_words}
use Rattle.words.proofs.Tests.{contrary}
use Rattle.words.proofs.Searching.{any_false}
use Rattle.words.proofs.Bits.{two_positive, has_zero, has_half, has_low}
use Rattle.words.proofs.Passing.{entry_of, count_grows_past}
use Rattle.words.proofs.Places.{SharedPlace, shared_place}
use Rattle.steps.specs.FirstStep.{binomial}
use Rattle.fewest.specs.Fewest.{Covers, SomeCovers}

-- ---- the chain of a word

-- The bits from the lowest on are brackets: a 0 opens one, and a 1 closes the last that is open. A 1 that closes none
-- becomes 0. Here for the lowest bit, with d brackets open, and what becomes of the rest by how many are open then.
abbrev matched : ℕ → ℕ → (ℕ → ℕ) → ℕ
matched zero d rest = 2 * rest (suc d)
matched (suc b) zero rest = 2 * rest 0
matched (suc b) (suc d) rest = 1 + 2 * rest d

-- the smallest word in the chain of a word of q bits
unfoldable smallest : ℕ → ℕ → ℕ → ℕ
smallest zero d w = 0
smallest (suc q) d w = matched (w % 2) d (λ e. smallest q e (w / 2))

smallest_below : (q d w : ℕ) → smallest q d w < 2 ^ q
unfolding smallest
smallest_below zero d w = omega arith
smallest_below (suc q) d w = go (w % 2) d (λ e. smallest_below q e (w / 2))
  where
    go : (a d : ℕ) → ((e : ℕ) → smallest q e (w / 2) < 2 ^ q) → matched a d (λ e. smallest q e (w / 2)) < 2 ^ suc q
    go zero d h = omega (arith, h (suc d))
    go (suc a) zero h = omega (arith, h 0)
    go (suc a) (suc d) h = omega (arith, h d)

after_0 : (q d x : ℕ) → smallest (suc q) d (2 * x) ≡ 2 * smallest q (suc d) x
unfolding smallest
after_0 q d x = let low : 2 * x % 2 ≡ 0 = omega arith in let rest : 2 * x / 2 ≡ x = omega arith in rw (low, rest)

after_1 : (q d x : ℕ) → smallest (suc q) (suc d) (1 + 2 * x) ≡ 1 + 2 * smallest q d x
unfolding smallest
after_1 q d x = let low : (1 + 2 * x) % 2 ≡ 1 = omega arith in let rest : (1 + 2 * x) / 2 ≡ x = omega arith in rw (low, rest)

-- the smallest word is in its own chain, with as many brackets open or more
smallest_again : (q d e w : ℕ) → d ≤ e → smallest q e (smallest q d w) ≡ smallest q d w
unfolding smallest
smallest_again zero d e w l = refl
smallest_again (suc q) d e w l = go (w % 2) d e l (λ x y. smallest_again q x y (w / 2))
  where
    go : (a d e : ℕ) → d ≤ e → ((x y : ℕ) → x ≤ y → smallest q y (smallest q x (w / 2)) ≡ smallest q x (w / 2))
        → smallest (suc q) e (matched a d (λ x. smallest q x (w / 2))) ≡ matched a d (λ x. smallest q x (w / 2))
    go zero d e l h = after_0 q e _ ∙ ap (λ (x : ℕ). 2 * x) (h (suc d) (suc e) (omega arith))
    go (suc a) zero e l h = after_0 q e _ ∙ ap (λ (x : ℕ). 2 * x) (h 0 (suc e) zero-le)
    go (suc a) (suc d) zero l h = absurd (not-suc-le-zero l)
    go (suc a) (suc d) (suc e) l h = after_1 q e _ ∙ ap (λ (x : ℕ). 1 + 2 * x) (h d e (omega arith))

-- ---- two words of one chain

-- a word covers another if its lowest bit does and its rest does
covers_by_rest : (w v : ℕ) → v % 2 ≤ w % 2 → Covers (w / 2) (v / 2) → Covers w v
covers_by_rest w v l h zero e =
    let one : v % 2 ≡ 1 = eqb-true _ _ (sym (has_low v) ∙ e) in
    let same : w % 2 ≡ 1 = omega (arith, mod-lt w two_positive) in
    has_low w ∙ eq-eqb _ _ same
covers_by_rest w v l h (suc t) e = has_half w t ∙ h t (sym (has_half v t) ∙ e)

even_odd : {A : Type 0} (x y : ℕ) → 2 * x ≡ 1 + 2 * y → A
even_odd x y e = absurd (not-suc-le-zero {n = 0} (omega arith))

-- Two words that come to one smallest word: that with fewer brackets open covers the other; with as many open, one of
-- them covers the other.
abbrev Comparable : ℕ → ℕ → ℕ → ℕ → Type 0
Comparable d e w v = Covers w v ⊎ ((d ≡ e) × Covers v w)

covers_if_fewer : (d e w v : ℕ) → d < e → Comparable d e w v → Covers w v
covers_if_fewer d e w v l (inl c) = c
covers_if_fewer d e w v l (inr (same, c)) = absurd (not-suc-le-zero {n = 0} (omega arith))

same_lowest : (d e x y w v : ℕ) → v % 2 ≡ w % 2 → (d ≡ e → x ≡ y) → Comparable d e (w / 2) (v / 2) → Comparable x y w v
same_lowest d e x y w v low same (inl c) = inl (covers_by_rest w v (omega arith) c)
same_lowest d e x y w v low same (inr (as_many, c)) = inr (same as_many, covers_by_rest v w (omega arith) c)

comparable : (q d e w v : ℕ) → d ≤ e → w < 2 ^ q → v < 2 ^ q → smallest q d w ≡ smallest q e v → Comparable d e w v
unfolding smallest
comparable zero d e w v l m n h = inl (λ t b. contrary b (ap (λ (x : ℕ). has x t) (lt-one n) ∙ has_zero t))
comparable (suc q) d e w v l m n h =
    go (w % 2) (v % 2) d e refl refl l h (λ x y k. comparable q x y (w / 2) (v / 2) k (omega arith) (omega arith))
    (λ k. comparable q 0 1 (v / 2) (w / 2) zero-le (omega arith) (omega arith) k)
  where
    go : (a b d e : ℕ) → w % 2 ≡ a → v % 2 ≡ b → d ≤ e → matched a d (λ x. smallest q x (w / 2)) ≡ matched b e (λ x. smallest q x (v / 2))
        → ((x y : ℕ) → x ≤ y → smallest q x (w / 2) ≡ smallest q y (v / 2) → Comparable x y (w / 2) (v / 2))
        → (smallest q 0 (v / 2) ≡ smallest q 1 (w / 2) → Comparable 0 1 (v / 2) (w / 2))
        → Comparable d e w v
    go zero zero d e p r l h ih back =
        same_lowest (suc d) (suc e) d e w v (r ∙ sym p) (λ x. omega arith) (ih (suc d) (suc e) (omega arith) (omega arith))
    go zero (suc b) zero zero p r l h ih back =
        inr (refl, covers_by_rest v w (omega arith) (covers_if_fewer 0 1 (v / 2) (w / 2) (omega arith) (back (omega arith))))
    go zero (suc b) (suc d) zero p r l h ih back = absurd (not-suc-le-zero l)
    go zero (suc b) d (suc e) p r l h ih back = even_odd _ _ h
    go (suc a) zero zero e p r l h ih back =
        inl (covers_by_rest w v (omega arith)
        (covers_if_fewer 0 (suc e) (w / 2) (v / 2) (omega arith) (ih 0 (suc e) zero-le (omega arith))))
    go (suc a) zero (suc d) e p r l h ih back = even_odd _ _ (sym h)
    go (suc a) (suc b) zero zero p r l h ih back =
        same_lowest 0 0 0 0 w v (omega (arith, mod-lt w two_positive, mod-lt v two_positive)) (λ x. refl) (ih 0 0 zero-le (omega arith))
    go (suc a) (suc b) zero (suc e) p r l h ih back = even_odd _ _ h
    go (suc a) (suc b) (suc d) zero p r l h ih back = absurd (not-suc-le-zero l)
    go (suc a) (suc b) (suc d) (suc e) p r l h ih back =
        same_lowest d e (suc d) (suc e) w v (omega (arith, mod-lt w two_positive, mod-lt v two_positive)) (λ x. omega arith)
        (ih d e (omega arith) (omega arith))

-- ---- how many chains there are

-- a word that is the smallest of its chain
unfoldable is_smallest : ℕ → ℕ → Bool
is_smallest q w = eqb (smallest q 0 w) w

-- of words of q bits there are not C(q, q/2) chains
unfoldable wrong_chain_count : ℕ → Bool
wrong_chain_count q = not (eqb (length (passing (is_smallest q) (2 ^ q))) (binomial q (q / 2)))

-- computed for q from 0 to 7
none_wrong_chain_count : any 8 wrong_chain_count ≡ false
unfolding open_words binomial smallest is_smallest wrong_chain_count
none_wrong_chain_count = refl

module _ (q : ℕ) (seven : q ≤ 7) where
  chains : length (passing (is_smallest q) (2 ^ q)) ≡ binomial q (q / 2)
  unfolding wrong_chain_count
  chains = eqb-true _ _ (not-false _ (any_false wrong_chain_count 8 q (omega arith) none_wrong_chain_count))

  in_own_chain : (w : ℕ) → is_smallest q (smallest q 0 w) ≡ true
  unfolding is_smallest
  in_own_chain w = eq-eqb _ _ (smallest_again q 0 0 w zero-le)

  -- the number of a word's chain: how many smallest words are below its own
  chain : ℕ → ℕ
  chain w = length (passing (is_smallest q) (smallest q 0 w))

  chain_below : (w : ℕ) → chain w < binomial q (q / 2)
  unfolding chain
  chain_below w =
      rw (← chains) (count_grows_past (is_smallest q) (smallest q 0 w) (2 ^ q) (smallest_below q 0 w) (in_own_chain w))

  smallest_at : (w : ℕ) → at (passing (is_smallest q) (2 ^ q)) (chain w) ≡ smallest q 0 w
  unfolding chain
  smallest_at w = entry_of (is_smallest q) (2 ^ q) (smallest q 0 w) (smallest_below q 0 w) (in_own_chain w)

  one_chain : (w v : ℕ) → chain w ≡ chain v → smallest q 0 w ≡ smallest q 0 v
  one_chain w v e = sym (smallest_at w) ∙ ap (at (passing (is_smallest q) (2 ^ q))) e ∙ smallest_at v

  pub one_covers_another : (words : List ℕ) → ((i : ℕ) → i < length words → at words i < 2 ^ q) → binomial q (q / 2) < length words
      → SomeCovers words
  one_covers_another words below more =
      go (shared_place (binomial q (q / 2)) (length words) (λ i. chain (at words i)) more (λ i l. chain_below (at words i)))
    where
      go : SharedPlace (length words) (λ i. chain (at words i)) → SomeCovers words
      go s =
          let a = at words s.one in
          let b = at words s.other in
          by_cases
          (comparable q 0 0 a b zero-le (below s.one s.one_below) (below s.other s.other_below) (one_chain a b s.same))
        where
          by_cases : Comparable 0 0 (at words s.one) (at words s.other) → SomeCovers words
          by_cases (inl c) = record {
            one = s.one;
            other = s.other;
            one_inside = s.one_below;
            other_inside = s.other_below;
            differ = s.differ;
            covers = c;
          }
          by_cases (inr (same, c)) = record {
            one = s.other;
            other = s.one;
            one_inside = s.other_below;
            other_inside = s.one_below;
            differ = λ e. s.differ (sym e);
            covers = c;
          }
