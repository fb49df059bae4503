-- Lists without an entry, and entries in the order given.
use Rattle.std.proofs.Common.{◌≡◌, refl, sym, ap, ◌∙◌, inl, inr, List, [], ◌∷◌, ◌++◌, ℕ, zero, suc, ◌≤◌, ◌<◌, zero-le}
use Rattle.std.proofs.Common.{not-suc-le-zero, le_of_suc-le-suc, arith, length, get_or}
use Rattle.std.specs.List.{insert, remove}
use Rattle.words.specs.Bits.{at}
use Rattle.checker.specs.Passed.{Within}
use Rattle.shorter.specs.Shorter.{without, InOrder}

pub in_order_same : (xs : List ℕ) → InOrder xs xs
in_order_same [] = tt
in_order_same (x ∷ xs) = inl (refl, in_order_same xs)

in_order_skip : (xs : List ℕ) (y : ℕ) (ys : List ℕ) → InOrder xs ys → InOrder xs (y ∷ ys)
in_order_skip [] y ys h = tt
in_order_skip (x ∷ xs) y ys h = inr h

pub in_order_both : (xs ys zs : List ℕ) → InOrder xs ys → InOrder ys zs → InOrder xs zs
in_order_both [] ys zs p q = tt
in_order_both (x ∷ xs) [] zs p q = absurd p
in_order_both (x ∷ xs) (y ∷ ys) [] p q = absurd q
in_order_both (x ∷ xs) (y ∷ ys) (z ∷ zs) (inl (e, r)) (inl (f, s)) = inl (e ∙ f, in_order_both xs ys zs r s)
in_order_both (x ∷ xs) (y ∷ ys) (z ∷ zs) (inr r) (inl (f, s)) = inr (in_order_both (x ∷ xs) ys zs r s)
in_order_both (x ∷ xs) (y ∷ ys) (z ∷ zs) p (inr s) = inr (in_order_both (x ∷ xs) (y ∷ ys) zs p s)

pub without_in_order : (i : ℕ) (xs : List ℕ) → InOrder (without i xs) xs
unfolding without
without_in_order i [] = tt
without_in_order zero (x ∷ xs) = in_order_skip xs x xs (in_order_same xs)
without_in_order (suc i) (x ∷ xs) = inl (refl, without_in_order i xs)

-- each entry of the one stands in the other
pub in_order_within : (xs ys : List ℕ) → InOrder xs ys → Within xs ys
in_order_within [] ys h t l = absurd (not-suc-le-zero l)
in_order_within (x ∷ xs) [] h t l = absurd h
in_order_within (x ∷ xs) (y ∷ ys) (inl (e, r)) zero l = (0, omega arith, sym e)
in_order_within (x ∷ xs) (y ∷ ys) (inl (e, r)) (suc t) l =
    let w = in_order_within xs ys r t (le_of_suc-le-suc l) in (suc w.0, omega (arith, w.1), w.2)
in_order_within (x ∷ xs) (y ∷ ys) (inr r) t l =
    let w = in_order_within (x ∷ xs) ys r t l in (suc w.0, omega (arith, w.1), w.2)

pub in_order_length : (xs ys : List ℕ) → InOrder xs ys → length xs ≤ length ys
in_order_length [] ys h = zero-le
in_order_length (x ∷ xs) [] h = absurd h
in_order_length (x ∷ xs) (y ∷ ys) (inl (e, r)) = omega (arith, in_order_length xs ys r)
in_order_length (x ∷ xs) (y ∷ ys) (inr r) = omega (arith, in_order_length (x ∷ xs) ys r)

-- two entries taken out, the one or the other first
pub without_swap : (t i : ℕ) (xs : List ℕ) → t ≤ i → without i (without t xs) ≡ without t (without (suc i) xs)
unfolding without
without_swap t i [] l = refl
without_swap zero i (x ∷ xs) l = refl
without_swap (suc t) zero (x ∷ xs) l = absurd (not-suc-le-zero l)
without_swap (suc t) (suc i) (x ∷ xs) l =
    ap (λ (rest : List ℕ). x ∷ rest) (without_swap t i xs (le_of_suc-le-suc l))

pub without_length : (i : ℕ) (xs : List ℕ) → i < length xs → suc (length (without i xs)) ≡ length xs
unfolding without
without_length i [] l = absurd (not-suc-le-zero l)
without_length zero (x ∷ xs) l = refl
without_length (suc i) (x ∷ xs) l = ap suc (without_length i xs (le_of_suc-le-suc l))

-- the entries of a list without one
pub without_before : (i t : ℕ) (xs : List ℕ) → t < i → at (without i xs) t ≡ at xs t
unfolding without
without_before i t [] l = refl
without_before zero t (x ∷ xs) l = absurd (not-suc-le-zero l)
without_before (suc i) zero (x ∷ xs) l = refl
without_before (suc i) (suc t) (x ∷ xs) l = without_before i t xs (le_of_suc-le-suc l)

pub without_after : (i t : ℕ) (xs : List ℕ) → i ≤ t → at (without i xs) t ≡ at xs (suc t)
unfolding without
without_after i zero [] l = refl
without_after i (suc t) [] l = refl
without_after zero t (x ∷ xs) l = refl
without_after (suc i) zero (x ∷ xs) l = absurd (not-suc-le-zero l)
without_after (suc i) (suc t) (x ∷ xs) l = without_after i t xs (le_of_suc-le-suc l)

-- a list with one entry more at its end, without another entry, or without that one
pub without_kept : (i : ℕ) (xs : List ℕ) (w : ℕ) → (length xs ≡ i → ⊥)
    → without i (xs ++ w ∷ []) ≡ without i xs ++ w ∷ []
unfolding without
without_kept zero [] w d = absurd (d refl)
without_kept (suc i) [] w d = refl
without_kept zero (x ∷ xs) w d = refl
without_kept (suc i) (x ∷ xs) w d =
    ap (λ (rest : List ℕ). x ∷ rest) (without_kept i xs w (λ e. d (ap suc e)))

pub without_last : (xs : List ℕ) (w : ℕ) → without (length xs) (xs ++ w ∷ []) ≡ without (length xs) xs
unfolding without
without_last [] w = refl
without_last (x ∷ xs) w = ap (λ (rest : List ℕ). x ∷ rest) (without_last xs w)

-- it has no more entries than the whole
pub without_most : (i : ℕ) (xs : List ℕ) → length (without i xs) ≤ length xs
without_most i xs = in_order_length (without i xs) xs (without_in_order i xs)

-- an entry taken out of a list, and put back
pub remove_is_without : (i : ℕ) (xs : List ℕ) → remove xs i ≡ without i xs
unfolding without
remove_is_without zero [] = refl
remove_is_without (suc i) [] = refl
remove_is_without zero (x ∷ xs) = refl
remove_is_without (suc i) (x ∷ xs) = ap (λ (rest : List ℕ). x ∷ rest) (remove_is_without i xs)

pub put_back : (i : ℕ) (xs : List ℕ) (d : ℕ) → i < length xs → insert (without i xs) i (get_or xs i d) ≡ xs
unfolding without
put_back i [] d l = absurd (not-suc-le-zero l)
put_back zero (x ∷ xs) d l = refl
put_back (suc i) (x ∷ xs) d l = ap (λ (rest : List ℕ). x ∷ rest) (put_back i xs d (le_of_suc-le-suc l))
