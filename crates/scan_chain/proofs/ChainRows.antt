-- Rows 18 and 19: their tests decide them, and what they admit.
use Rattle.std.proofs.Common.{◌≡◌, sym, ◌∙◌, Bool, true, false, ◌||◌, ◌⊎◌, inl, inr, ⊎_elim, List, ◌++◌, ℕ, ◌+◌, ◌≤◌}
use Rattle.std.proofs.Common.{◌<◌, lt_of_not-le, arith, eqb, leb, ltb, length, length-append, get_or-append-add}
use lib.ListN.{get_or-append}
use Rattle.words.specs.Bits.{at}
use Rattle.words.specs.Searching.{any}
use Rattle.words.specs.Answers.{Decides}
use Rattle.words.proofs.Tests.{decides_less, decides_at_most, decides_equal, decides_or, decides_not, equal_if_not_unequal, three_ways, test_fails, cases}
use Rattle.std.specs.List.{list_any}
use Rattle.std.proofs.lemmas.List.Elements.{All-from_get_or}
use Rattle.std.proofs.lemmas.List.Folds.{list_any_at, list_any_none}
use Rattle.words.proofs.Searching.{any_some, any_false, decides_any}
use Rattle.scan_chain.specs.Rows.{WrongCell, BadChain, NotBits, used_before, has_wrong_cell, bad_chain, above_one, not_bits}
use Rattle.scan_chain.specs.Cells.{Distinct, Inside}

decides_wrong_cell : (L : ℕ) (numbers : List ℕ) → Decides (has_wrong_cell L numbers) (WrongCell L numbers)
unfolding has_wrong_cell used_before
decides_wrong_cell L numbers =
    decides_any (λ i. leb L (at numbers i) || any i (λ j. eqb (at numbers j) (at numbers i)))
    (λ i. (L ≤ at numbers i) ⊎ ((j : ℕ) × (j < i) × (at numbers j ≡ at numbers i))) (length numbers)
    (λ i. decides_or (decides_at_most L (at numbers i))
    (decides_any (λ j. eqb (at numbers j) (at numbers i)) (λ j. at numbers j ≡ at numbers i) i (λ j. decides_equal (at numbers j) (at numbers i))))

module _ (most n m L : ℕ) (drivers receivers : List ℕ) where
  pub decides_chain : Decides (bad_chain most n m L drivers receivers) (BadChain most n m L drivers receivers)
  unfolding bad_chain
  decides_chain =
      decides_or (decides_less L 2) (decides_or (decides_less most L)
      (decides_or (decides_not (decides_equal (length drivers) n))
      (decides_or (decides_not (decides_equal (length receivers) m)) (decides_wrong_cell L (drivers ++ receivers)))))

-- what a chain has that row 18 admits
pub record AdmittedChain (most n m L : ℕ) (drivers receivers : List ℕ) : Type 0 where
  pub two : 2 ≤ L
  pub bound : L ≤ most
  pub drivers_counted : length drivers ≡ n
  pub receivers_counted : length receivers ≡ m
  pub distinct : Distinct L (drivers ++ receivers)

distinct_cells : (L : ℕ) (numbers : List ℕ) → ¬ (WrongCell L numbers) → Distinct L numbers
distinct_cells L numbers h = record {
  inside = λ i l. lt_of_not-le (λ m. h (i, l, inl m));
  apart = λ i j l m e. go i j l m e (three_ways i j);
}
  where
    go : (i j : ℕ) → i < length numbers → j < length numbers → at numbers i ≡ at numbers j → (i < j) ⊎ ((i ≡ j) ⊎ (j < i)) → i ≡ j
    go i j l m e (inl a) = absurd (h (j, m, inr (i, a, e)))
    go i j l m e (inr (inl q)) = q
    go i j l m e (inr (inr a)) = absurd (h (i, l, inr (j, a, sym e)))

pub admitted_chain : (most n m L : ℕ) (drivers receivers : List ℕ) → ¬ (BadChain most n m L drivers receivers) → AdmittedChain most n m L drivers receivers
admitted_chain most n m L drivers receivers h =
    let low : L < 2 → ⊥ = λ l. h (inl l) in
    let high : most < L → ⊥ = λ l. h (inr (inl l)) in
    record {
      two = omega (arith, low);
      bound = omega (arith, high);
      drivers_counted = equal_if_not_unequal (length drivers) n (λ q. h (inr (inr (inl q))));
      receivers_counted = equal_if_not_unequal (length receivers) m (λ q. h (inr (inr (inr (inl q)))));
      distinct = distinct_cells L (drivers ++ receivers) (λ w. h (inr (inr (inr (inr w)))));
    }

-- the drivers' cells alone are distinct, and the receivers' inside the chain
module _ (L : ℕ) (drivers receivers : List ℕ) (d : Distinct L (drivers ++ receivers)) where
  front_at : (i : ℕ) → i < length drivers → at (drivers ++ receivers) i ≡ at drivers i
  front_at i l = get_or-append drivers receivers 0 i l

  reach : (i : ℕ) → i < length drivers → i < length (drivers ++ receivers)
  reach i l = omega (arith, length-append drivers receivers)

  pub drivers_distinct : Distinct L drivers
  drivers_distinct = record {
    inside = λ i l. rw (front_at i l) at (d.inside i (reach i l));
    apart = λ i j l m e. d.apart i j (reach i l) (reach j m) (front_at i l ∙ e ∙ sym (front_at j m));
  }

  pub receivers_inside : Inside L receivers
  receivers_inside i l =
      rw (get_or-append-add drivers receivers i 0) at (d.inside (length drivers + i) (omega (arith, length-append drivers receivers)))

pub chain_admitted : (most n m L : ℕ) (drivers receivers : List ℕ) → bad_chain most n m L drivers receivers ≡ false
    → AdmittedChain most n m L drivers receivers
chain_admitted most n m L drivers receivers e =
    admitted_chain most n m L drivers receivers ((decides_chain most n m L drivers receivers).1 e)

-- ---- bytes that are bits

-- a test of each entry, by the list and by the index
pub any_of_list : (p : ℕ → Bool) (xs : List ℕ) → list_any p xs ≡ any (length xs) (λ i. p (at xs i))
any_of_list p xs = ⊎_elim some none (cases (any (length xs) (λ i. p (at xs i))))
  where
    some : any (length xs) (λ i. p (at xs i)) ≡ true → list_any p xs ≡ any (length xs) (λ i. p (at xs i))
    some e =
        let found = any_some (λ i. p (at xs i)) (length xs) e in
        list_any_at p xs found.0 0 found.1 found.2 ∙ sym e

    none : any (length xs) (λ i. p (at xs i)) ≡ false → list_any p xs ≡ any (length xs) (λ i. p (at xs i))
    none e =
        list_any_none p xs (All-from_get_or (λ x. p x ≡ false) xs 0 (λ i l. any_false (λ i. p (at xs i)) (length xs) i l e)) ∙ sym e

module _ (count : ℕ) (bytes : List ℕ) where
  pub decides_bits : Decides (not_bits count bytes) (NotBits count bytes)
  unfolding not_bits above_one
  decides_bits =
      decides_or (decides_not (decides_equal (length bytes) count))
      (decides_any (λ i. ltb 1 (at bytes i)) (λ i. 1 < at bytes i) (length bytes) (λ i. decides_less 1 (at bytes i)))

  pub as_many : not_bits count bytes ≡ false → length bytes ≡ count
  as_many e = equal_if_not_unequal (length bytes) count (λ n. decides_bits.1 e (inl n))

  pub bits_are : length bytes ≡ count → ((i : ℕ) → at bytes i < 2) → not_bits count bytes ≡ false
  bits_are q small =
      test_fails decides_bits (λ w. ⊎_elim (λ n. n q) (λ x. let s = small x.0 in let m = x.2 in omega (arith, s, m)) w)
