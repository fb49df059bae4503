-- The test for a conflict in one pass: the drivers taken so far, and at each of them the reach whose lowest it is.
use Rattle.std.proofs.Common.{◌≡◌, refl, sym, ap, ◌∙◌, subst, Bool, true, false, ◌&&◌, ◌||◌, ◌≢◌, ⊎_elim, List, ℕ}
use Rattle.std.proofs.Common.{◌+◌, ◌^◌, ◌≤◌, ◌<◌, lt_of_le_of_lt, not-suc-le-zero, arith, bit_and, bit_or, eqb}
use Rattle.std.proofs.Common.{length, set, replicate, get_or-set_same, get_or-set_other, eqb-true}
use lib.Bits.{and_le_l}
use lib.Count.{count_trailing_zeros}
use lib.ListN.{get_or-replicate}
use borrow.Author.Tests.{eqb-false}
use Rattle.words.specs.Bits.{has, at}
use Rattle.words.proofs.Tests.{cases, contrary, and_left, and_right, and_both, or_cases, or_right, less_or_not}
use Rattle.words.proofs.Bits.{has_zero, has_and, has_or, has_inside, has_not_zero, some_bit}
use Rattle.words.proofs.Classes.{has_lowest_one}
use Rattle.network.specs.declared.Network.{Network}
use Rattle.network.specs.States.{has_conflict}
use Rattle.network.proofs.States.{no_conflict, conflict_free}

-- ---- the lowest driver, and words with a bit in common

abbrev pub lowest : ℕ → ℕ
lowest w = count_trailing_zeros 64 w

has_lowest_driver : (w : ℕ) → w < 2 ^ 48 → w ≢ 0 → has w (lowest w) ≡ true
has_lowest_driver w l n = has_lowest_one 64 w (omega arith) (omega arith)

pub lowest_inside : (w : ℕ) → w < 2 ^ 48 → w ≢ 0 → lowest w < 48
lowest_inside w l n = has_inside 48 w (lowest w) l (has_lowest_driver w l n)

common_bit : (a b : ℕ) → a < 2 ^ 48 → bit_and a b ≢ 0 → (x : ℕ) × (has a x ≡ true) × (has b x ≡ true)
common_bit a b l n =
    let r = some_bit 48 (bit_and a b) (lt_of_le_of_lt (and_le_l a b) l) n in
    let both : has a r.0 && has b r.0 ≡ true = sym (has_and a b r.0) ∙ r.2 in
    (r.0, and_left (has a r.0) (has b r.0) both, and_right (has a r.0) (has b r.0) both)

none_common : {A : Type 0} (a b x : ℕ) → bit_and a b ≡ 0 → has a x ≡ true → has b x ≡ true → A
none_common a b x e p q = absurd (has_not_zero (bit_and a b) x (has_and a b x ∙ and_both p q) e)

pub meets_not_zero : (a b : ℕ) → bit_and a b ≢ 0 → a < 2 ^ 48 → a ≢ 0
meets_not_zero a b n l = let r = common_bit a b l n in has_not_zero a r.0 r.1

-- ---- the first i reaches

pub record Held (state holders : List ℕ) (taken i : ℕ) : Type 0 where
  -- none of them conflict
  pub apart : (a b x : ℕ) → a < i → b < i → has (at state a) x ≡ true → has (at state b) x ≡ true
      → at state a ≡ at state b
  -- the drivers taken are theirs
  pub reached : (x : ℕ) → has taken x ≡ true → (a : ℕ) × (a < i) × (has (at state a) x ≡ true)
  pub taken_all : (a x : ℕ) → a < i → has (at state a) x ≡ true → has taken x ≡ true
  -- each is the holder of its lowest driver
  pub held : (a : ℕ) → a < i → at state a ≢ 0 → at holders (lowest (at state a)) ≡ at state a
  -- and there are no other holders
  pub holder : (d : ℕ) → d < 48 → at holders d ≢ 0 → (a : ℕ) × (a < i) × (at state a ≡ at holders d)

pub held_none : (state : List ℕ) → Held state (replicate 48 0) 0 0
held_none state = record {
  apart = λ a b x l m p q. absurd (not-suc-le-zero l);
  reached = λ x e. contrary e (has_zero x);
  taken_all = λ a x l p. absurd (not-suc-le-zero l);
  held = λ a l n. absurd (not-suc-le-zero l);
  holder = λ d l n. absurd (n (get_or-replicate 48 d 0 0 l));
}

module _ (state holders : List ℕ) (taken i : ℕ) (h : Held state holders taken i) where
  -- a fact of the first i reaches and of the next
  with_next : (P : ℕ → Type 0) → ((a : ℕ) → a < i → P a) → P i → (a : ℕ) → a < i + 1 → P a
  with_next P old new a l = ⊎_elim (old a) (λ m. subst P (omega arith) new) (less_or_not a i)

  -- the next one is equal to all that it meets: what is left to say is of the holders
  grow : (next_holders : List ℕ)
      → ((a x : ℕ) → a < i → has (at state a) x ≡ true → has (at state i) x ≡ true → at state a ≡ at state i)
      → ((a : ℕ) → a < i + 1 → at state a ≢ 0 → at next_holders (lowest (at state a)) ≡ at state a)
      → ((d : ℕ) → d < 48 → at next_holders d ≢ 0 → (a : ℕ) × (a < i + 1) × (at state a ≡ at next_holders d))
      → Held state next_holders (bit_or taken (at state i)) (i + 1)
  grow next_holders alike held holder = record {
    apart = λ a b x l m.
        with_next (λ z. has (at state z) x ≡ true → has (at state b) x ≡ true → at state z ≡ at state b)
        (λ z k. with_next (λ y. has (at state z) x ≡ true → has (at state y) x ≡ true → at state z ≡ at state y)
        (λ y j. h.apart z y x k j) (alike z x k) b m)
        (with_next (λ y. has (at state i) x ≡ true → has (at state y) x ≡ true → at state i ≡ at state y)
        (λ y j p q. sym (alike y x j q p)) (λ p q. refl) b m) a l;
    reached = λ x e.
        ⊎_elim (λ p. let r = h.reached x p in (r.0, omega (arith, r.1), r.2)) (λ p. (i, omega arith, p))
        (or_cases (has taken x) (has (at state i) x) (sym (has_or taken (at state i) x) ∙ e));
    taken_all = λ a x l.
        with_next (λ z. has (at state z) x ≡ true → has (bit_or taken (at state i)) x ≡ true)
        (λ z k p. has_or taken (at state i) x ∙ ap (λ (b : Bool). b || has (at state i) x) (h.taken_all z x k p))
        (λ p. has_or taken (at state i) x ∙ or_right (has taken x) (has (at state i) x) p) a l;
    held = held;
    holder = holder;
  }

  earlier : (d : ℕ) → d < 48 → at holders d ≢ 0 → (a : ℕ) × (a < i + 1) × (at state a ≡ at holders d)
  earlier d l n = let r = h.holder d l n in (r.0, omega (arith, r.1), r.2)

  -- an empty reach
  pub held_empty : at state i ≡ 0 → Held state holders (bit_or taken (at state i)) (i + 1)
  held_empty e =
      grow holders (λ a x l p q. contrary q (ap (λ (w : ℕ). has w x) e ∙ has_zero x))
      (with_next (λ a. at state a ≢ 0 → at holders (lowest (at state a)) ≡ at state a) h.held (λ n. absurd (n e)))
      earlier

  module _ (small : (a : ℕ) → a < length state → at state a < 2 ^ 48) (inside : i < length state) where
    -- one that meets none so far
    module _ (room : length holders ≡ 48) (none : bit_and (at state i) taken ≡ 0) (n : at state i ≢ 0) where
      abbrev next : List ℕ
      next = set holders (lowest (at state i)) (at state i)

      -- its lowest driver is no other's
      away : (a : ℕ) → a < i → at state a ≢ 0 → lowest (at state a) ≢ lowest (at state i)
      away a m k e =
          let there = h.taken_all a (lowest (at state a)) m
          (has_lowest_driver (at state a) (small a (omega arith)) k) in
          none_common (at state i) taken (lowest (at state i)) none (has_lowest_driver (at state i) (small i inside) n)
          (subst (λ (x : ℕ). has taken x ≡ true) e there)

      stored : at next (lowest (at state i)) ≡ at state i
      stored =
          get_or-set_same holders (lowest (at state i)) (at state i) 0
          (omega (arith, room, lowest_inside (at state i) (small i inside) n))

      kept : (d : ℕ) → d ≢ lowest (at state i) → at next d ≡ at holders d
      kept d e = get_or-set_other holders (lowest (at state i)) d (at state i) 0 e

      abbrev Known : ℕ → Type 0
      Known w = w ≢ 0 → (a : ℕ) × (a < i + 1) × (at state a ≡ w)

      known : (d : ℕ) → d < 48 → Known (at next d)
      known d m =
          ⊎_elim (λ e k. (i, omega arith, sym (ap (at next) (eqb-true d (lowest (at state i)) e) ∙ stored)))
          (λ e. subst Known (sym (kept d (eqb-false d (lowest (at state i)) e))) (earlier d m))
          (cases (eqb d (lowest (at state i))))

      pub held_new : Held state (set holders (lowest (at state i)) (at state i)) (bit_or taken (at state i)) (i + 1)
      held_new =
          grow next (λ a x l p q. none_common (at state i) taken x none q (h.taken_all a x l p))
          (with_next (λ a. at state a ≢ 0 → at next (lowest (at state a)) ≡ at state a)
          (λ a m k. kept (lowest (at state a)) (away a m k) ∙ h.held a m k) (λ k. stored))
          known

    -- one that is its lowest driver's holder
    pub held_known : bit_and (at state i) taken ≢ 0 → at holders (lowest (at state i)) ≡ at state i
        → Held state holders (bit_or taken (at state i)) (i + 1)
    held_known n e =
        let some = meets_not_zero (at state i) taken n (small i inside) in
        let r = h.holder (lowest (at state i)) (lowest_inside (at state i) (small i inside) some)
        (λ z. some (sym e ∙ z)) in
        let same : at state r.0 ≡ at state i = r.2 ∙ e in
        grow holders (λ a x l p q. h.apart a r.0 x l r.1 p (subst (λ (w : ℕ). has w x ≡ true) (sym same) q)
        ∙ same)
        (with_next (λ a. at state a ≢ 0 → at holders (lowest (at state a)) ≡ at state a) h.held (λ k. e))
        earlier

    -- one that meets some so far and is not its lowest driver's holder
    pub held_conflict : (net : Network) → at state i < 2 ^ net.nets → bit_and (at state i) taken ≢ 0
        → at holders (lowest (at state i)) ≢ at state i → has_conflict net state ≡ true
    held_conflict net l n differs = ⊎_elim (λ e. e) (λ e. absurd (differs (agrees e))) (cases (has_conflict net state))
      where
        agrees : has_conflict net state ≡ false → at holders (lowest (at state i)) ≡ at state i
        agrees e =
            let m = common_bit (at state i) taken (small i inside) n in
            let r = h.reached m.0 m.2 in
            let same : at state r.0 ≡ at state i =
            no_conflict net state e r.0 i m.0 (omega (arith, r.1, inside)) inside
            (has_inside net.nets (at state i) m.0 l m.1) r.2 m.1 in
            subst (λ (w : ℕ). w ≢ 0 → at holders (lowest w) ≡ w) same (h.held r.0 r.1)
            (meets_not_zero (at state i) taken n (small i inside))

  -- all reaches
  pub held_all : (net : Network) → length state ≤ i → has_conflict net state ≡ false
  held_all net e = conflict_free net state (λ a b x l m k p q. h.apart a b x (omega arith) (omega arith) p q)
