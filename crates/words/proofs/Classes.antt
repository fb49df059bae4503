-- Counts of ones, and trailing zeros.
use Rattle.std.proofs.Common.{◌≡◌, refl, sym, ap, ap₂, ◌∙◌, true, false, ℕ, zero, suc, ◌+◌, ◌-◌, ◌*◌, ◌/◌, ◌%◌, ◌^◌}
use Rattle.std.proofs.Common.{◌≤◌, ◌<◌, zero-le, min, mod-eq_of_lt, lt_of_not-le, mod-lt, not-suc-le-zero}
use Rattle.std.proofs.Common.{le_of_suc-le-suc, pow-suc, add-zero, one-mul, arith, bit_and, pow_pos, eq-eqb, ne_eqb}
use native.Mathlib.Nat.{mod-one}
use lib.Arith.{lt-one, mod-mul, bin_ind}
use lib.Bits.{and_step, and_self}
use lib.Pow.{split}
use lib.Count.{ones, ones_in, ones_step, ones_cat, count_trailing_zeros, under}
use Rattle.words.specs.Bits.{has, ones_of}
use Rattle.words.proofs.Bits.{two_positive, has_half, has_low}

-- the count in n steps is the count of ones
pub ones_counted : (n w : ℕ) → w < 2 ^ n → ones_of n w ≡ ones w
unfolding ones_in ones
ones_counted zero w h = sym (ap ones (lt-one h))
ones_counted (suc n) w h = ap (λ (x : ℕ). w % 2 + x) (ones_counted n (w / 2) (omega arith)) ∙ sym (ones_step w)

pub ones_at_most : (n w : ℕ) → ones_of n w ≤ n
unfolding ones_in
ones_at_most zero w = zero-le
ones_at_most (suc n) w = let h = ones_at_most n (w / 2) in let r = mod-lt w two_positive in omega arith

pub ones_of_zero : (n : ℕ) → ones_of n 0 ≡ 0
unfolding ones_in
ones_of_zero zero = refl
ones_of_zero (suc n) = let h = ones_of_zero n in omega arith

-- a word that is not 0 has a one
pub ones_positive : (n : ℕ) → 0 < n → 0 < ones n
ones_positive = bin_ind (λ (n : ℕ). 0 < n → 0 < ones n) (λ h. absurd (not-suc-le-zero h)) (λ n ih h. step n ih h)
  where
    step : (n : ℕ) → (0 < n / 2 → 0 < ones (n / 2)) → 0 < n → 0 < ones n
    step n ih h = rw ones_step (go (n % 2) refl)
      where
        go : (d : ℕ) → n % 2 ≡ d → 0 < n % 2 + ones (n / 2)
        go zero e = omega (arith, ih (omega arith))
        go (suc d) e = omega arith

-- ---- trailing zeros

-- a word is a multiple of 2 ^ (its trailing zeros)
trailing_multiple : (k n : ℕ) → n % 2 ^ count_trailing_zeros k n ≡ 0
unfolding count_trailing_zeros
trailing_multiple zero n = mod-one n
trailing_multiple (suc k) n = go (n % 2) refl (trailing_multiple k (n / 2))
  where
    go : (d : ℕ) → n % 2 ≡ d → n / 2 % 2 ^ count_trailing_zeros k (n / 2) ≡ 0 → n % 2 ^ under d (count_trailing_zeros k (n / 2)) ≡ 0
    go zero e ih =
        let t = count_trailing_zeros k (n / 2) in
        ap (λ (x : ℕ). n % x) (pow-suc 2 t) ∙ mod-mul n (pow_pos t) two_positive ∙ ap₂ (λ (x y : ℕ). x * 2 + y) ih e
    go (suc d) e ih = mod-one n

pub trailing_inside : (k n : ℕ) → 0 < n → n < 2 ^ k → count_trailing_zeros k n < k
unfolding count_trailing_zeros
trailing_inside zero n p h = omega arith
trailing_inside (suc k) n p h = go (n % 2) refl (trailing_inside k (n / 2))
  where
    go : (d : ℕ) → n % 2 ≡ d → (0 < n / 2 → n / 2 < 2 ^ k → count_trailing_zeros k (n / 2) < k) → under d (count_trailing_zeros k (n / 2)) < suc k
    go zero e ih = omega (arith, ih (omega arith) (omega arith))
    go (suc d) e ih = omega arith

pub lowest_one_at_most : (k n : ℕ) → 0 < n → 2 ^ count_trailing_zeros k n ≤ n
lowest_one_at_most k n p =
    let big : 2 ^ count_trailing_zeros k n < suc n =
    lt_of_not-le (λ h. let z : n ≡ 0 = sym (mod-eq_of_lt h) ∙ trailing_multiple k n in omega arith) in
    omega arith

-- the lowest one is a one
pub has_where_zeros_end : (k n : ℕ) → count_trailing_zeros k n < k → has n (count_trailing_zeros k n) ≡ true
unfolding count_trailing_zeros
has_where_zeros_end zero n l = absurd (not-suc-le-zero l)
has_where_zeros_end (suc k) n l = go (n % 2) refl l (has_where_zeros_end k (n / 2))
  where
    go : (d : ℕ) → n % 2 ≡ d → under d (count_trailing_zeros k (n / 2)) < suc k
        → (count_trailing_zeros k (n / 2) < k → has (n / 2) (count_trailing_zeros k (n / 2)) ≡ true)
        → has n (under d (count_trailing_zeros k (n / 2))) ≡ true
    go zero e m ih = has_half n _ ∙ ih (le_of_suc-le-suc m)
    go (suc d) e m ih = let odd : n % 2 ≡ 1 = let r = mod-lt n two_positive in omega arith in has_low n ∙ eq-eqb _ _ odd

pub has_lowest_one : (k n : ℕ) → 0 < n → n < 2 ^ k → has n (count_trailing_zeros k n) ≡ true
has_lowest_one k n p h = has_where_zeros_end k n (trailing_inside k n p h)

-- and there is none below it
pub none_below_lowest : (k n z : ℕ) → z < count_trailing_zeros k n → has n z ≡ false
unfolding count_trailing_zeros
none_below_lowest zero n z l = absurd (not-suc-le-zero l)
none_below_lowest (suc k) n z l = go (n % 2) z refl l (none_below_lowest k (n / 2))
  where
    go : (d y : ℕ) → n % 2 ≡ d → y < under d (count_trailing_zeros k (n / 2)) → ((x : ℕ) → x < count_trailing_zeros k (n / 2) → has (n / 2) x ≡ false)
        → has n y ≡ false
    go zero zero e m ih = has_low n ∙ ne_eqb _ _ (λ (q : n % 2 ≡ 1). omega arith)
    go zero (suc y) e m ih = has_half n y ∙ ih y (le_of_suc-le-suc m)
    go (suc d) y e m ih = absurd (not-suc-le-zero m)

-- `w & (w - 1)` takes the lowest one out
pub lowest_one_out : (k n : ℕ) → 0 < n → n < 2 ^ k → bit_and n (n - 1) ≡ n - 2 ^ count_trailing_zeros k n
unfolding count_trailing_zeros
lowest_one_out zero n p h = absurd (not-suc-le-zero {n = 0} (omega arith))
lowest_one_out (suc k) n p h = and_step n (n - 1) ∙ go (n % 2) refl (lowest_one_out k (n / 2))
  where
    go : (d : ℕ) → n % 2 ≡ d → (0 < n / 2 → n / 2 < 2 ^ k → bit_and (n / 2) (n / 2 - 1) ≡ n / 2 - 2 ^ count_trailing_zeros k (n / 2))
        → bit_and (n / 2) ((n - 1) / 2) * 2 + min (n % 2) ((n - 1) % 2) ≡ n - 2 ^ under d (count_trailing_zeros k (n / 2))
    go zero e ih =
        let half : (n - 1) / 2 ≡ n / 2 - 1 = omega arith in
        let t = count_trailing_zeros k (n / 2) in
        let rest : bit_and (n / 2) ((n - 1) / 2) ≡ n / 2 - 2 ^ t = ap (bit_and (n / 2)) half ∙ ih (omega arith) (omega arith) in
        let whole : bit_and (n / 2) ((n - 1) / 2) * 2 + min (n % 2) ((n - 1) % 2) ≡ n - 2 ^ suc t = omega arith in
        whole
    go (suc d) e ih =
        let half : (n - 1) / 2 ≡ n / 2 = omega arith in
        let rest : bit_and (n / 2) ((n - 1) / 2) ≡ n / 2 = ap (bit_and (n / 2)) half ∙ and_self (n / 2) in
        omega arith

-- ---- ones of a sum

-- r on top of a multiple of 2 ^ t, r below 2 ^ t: their ones add up
pub ones_on_top : (t x r : ℕ) → x % 2 ^ t ≡ 0 → r < 2 ^ t → ones (x + r) ≡ ones x + ones r
unfolding ones
ones_on_top t x r e h =
    let q : x / 2 ^ t * 2 ^ t ≡ x = omega (arith, split x t) in
    let a : ones (x / 2 ^ t * 2 ^ t + r) ≡ ones (x + r) = ap (λ (n : ℕ). ones (n + r)) q in
    let b : ones (x / 2 ^ t * 2 ^ t + 0) ≡ ones x = ap ones (add-zero _ ∙ q) in
    omega (arith, ones_cat t (x / 2 ^ t) r h, ones_cat t (x / 2 ^ t) 0 (pow_pos t))

-- one bit more, at the top
pub ones_top : (n z : ℕ) → z < 2 ^ n → ones (2 ^ n + z) ≡ suc (ones z)
unfolding ones
ones_top n z l = let e = rw (one-mul (2 ^ n)) at (ones_cat n 1 z l) in omega arith

pub ones_power : (c : ℕ) → ones (2 ^ c) ≡ 1
unfolding ones
ones_power c = ap ones (sym (add-zero (2 ^ c))) ∙ ones_top c 0 (pow_pos c)
