-- Which cells are used, as they are looked through.
use Rattle.std.proofs.Common.{◌≡◌, refl, sym, ap, ap₂, ◌∙◌, Bool, true, false, ◌||◌, ⊎_elim, List, ◌++◌, ℕ, zero, suc}
use Rattle.std.proofs.Common.{◌+◌, ◌≤◌, ◌<◌, not-suc-le-zero, arith, eqb, leb, length, get_or, set, replicate}
use Rattle.std.proofs.Common.{length-set, get_or-set_same, get_or-set_other, below_more, eqb-true, le-leb, Iter}
use lib.ListN.{length-replicate}
use borrow.Author.Tests.{eqb-false, lt-leb}
use Rattle.std.specs.Iterator.Adapters.{chain_first, chain_second, chain_first_done, chain_second_done, chain_steps}
use Rattle.std.specs.Slice.Iter.{iter_rest}
use Rattle.std.proofs.iter.Yields.{fronts}
use Rattle.std.proofs.lemmas.Iterator.{YieldsList, YieldsList-from_slice}
use Rattle.std.proofs.lemmas.Iterator.Consumers.{YieldsList-from_chain, YieldsList-at}
use Rattle.std.specs.declared.iter.Chain.{Chain}
use denote.Ref.{Bor}
use Rattle.words.specs.Bits.{at}
use Rattle.words.specs.Searching.{any}
use Rattle.words.proofs.Tests.{cases, or_false, or_right}
use Rattle.words.proofs.Searching.{any_at, any_none, any_more}
use Rattle.scan_chain.specs.Rows.{used_before, has_wrong_cell}

-- the cells of one list and then of another, as they are gone through
pub gone_through : (first second : List ℕ) (s t : Chain (Iter ℕ) (Iter ℕ)) → s ≡ t → iter_rest (chain_first t) ≡ first
    → iter_rest (chain_second t) ≡ second → chain_first_done t ≡ false → chain_second_done t ≡ false
    → YieldsList (chain_steps fronts fronts) (λ (c : Bor ℕ). c.now) s (first ++ second)
gone_through first second s t e a b c d =
    YieldsList-at e (YieldsList-from_chain {s = t} (YieldsList-from_slice first a) (YieldsList-from_slice second b) c d)

-- the first of the cells are looked through, and none of them is wrong; marked are those that stood there
pub record LookedThrough (L : ℕ) (cells : List ℕ) (used : List Bool) (count : ℕ) : Type 0 where
  pub size : length used ≡ 200
  pub right : (i : ℕ) → i < count → leb L (at cells i) || used_before cells i ≡ false
  pub marks : (cell : ℕ) → get_or used cell false ≡ any count (λ j. eqb (at cells j) cell)

none_marked : (n cell : ℕ) → get_or (replicate n false) cell false ≡ false
none_marked zero cell = refl
none_marked (suc n) zero = refl
none_marked (suc n) (suc cell) = none_marked n cell

pub none_looked : (L : ℕ) (cells : List ℕ) → LookedThrough L cells (replicate 200 false) 0
none_looked L cells = record {
  size = length-replicate {A = Bool} 200 false;
  right = λ i l. absurd (not-suc-le-zero l);
  marks = λ cell. none_marked 200 cell ∙ sym (any_none (λ j. eqb (at cells j) cell) 0 (λ j l. absurd (not-suc-le-zero l)));
}

module _ (L : ℕ) (cells : List ℕ) (used : List Bool) (count : ℕ) (p : LookedThrough L cells used count) where
  module _ (l : count < length cells) (cell : ℕ) (here : cell ≡ at cells count) where
    -- whether it stands before
    seen : get_or used cell false ≡ used_before cells count
    unfolding used_before
    seen = p.marks cell ∙ ap (λ (c : ℕ). any count (λ j. eqb (at cells j) c)) here

    pub outside_found : L ≤ cell → true ≡ has_wrong_cell L cells
    unfolding has_wrong_cell
    outside_found m =
        sym (any_at (λ i. leb L (at cells i) || used_before cells i) (length cells) count l
        (ap (λ (b : Bool). b || used_before cells count) (le-leb L (at cells count) (omega (arith, here, m)))))

    pub twice_found : get_or used cell false ≡ true → true ≡ has_wrong_cell L cells
    unfolding has_wrong_cell
    twice_found e =
        sym (any_at (λ i. leb L (at cells i) || used_before cells i) (length cells) count l
        (or_right (leb L (at cells count)) _ (sym seen ∙ e)))

    pub one_more : L ≤ 200 → cell < L → get_or used cell false ≡ false → LookedThrough L cells (set used cell true) (count + 1)
    one_more most inside once = record {
      size = length-set used cell true ∙ p.size;
      right = below_more (λ i. leb L (at cells i) || used_before cells i ≡ false) count p.right
          (ap₂ (λ (a b : Bool). a || b) (lt-leb L (at cells count) (omega (arith, here, inside))) (sym seen ∙ once));
      marks = λ z. marked z ∙ ap (λ (c : ℕ). any count (λ j. eqb (at cells j) z) || eqb c z) here
          ∙ sym (any_more (λ j. eqb (at cells j) z) count);
    }
      where
        marked : (z : ℕ) → get_or (set used cell true) z false ≡ any count (λ j. eqb (at cells j) z) || eqb cell z
        marked z = ⊎_elim
            (λ e. let same = eqb-true cell z e in
            ap (λ (k : ℕ). get_or (set used cell true) k false) (sym same)
            ∙ get_or-set_same used cell true false (omega (arith, p.size))
            ∙ sym (or_right (any count (λ j. eqb (at cells j) z)) (eqb cell z) e))
            (λ e. let other = eqb-false cell z e in
            get_or-set_other used cell z true false (λ q. other (sym q)) ∙ p.marks z
            ∙ sym (ap (λ (b : Bool). any count (λ j. eqb (at cells j) z) || b) e
            ∙ or_false (any count (λ j. eqb (at cells j) z))))
            (cases (eqb cell z))

  pub all_right : length cells ≤ count → false ≡ has_wrong_cell L cells
  unfolding has_wrong_cell
  all_right l =
      sym (any_none (λ i. leb L (at cells i) || used_before cells i) (length cells) (λ i m. p.right i (omega (arith, l, m))))
