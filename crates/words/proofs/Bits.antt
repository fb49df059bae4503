-- Laws of a word's bits. What stands above goes by `has` and these laws, and not by `/` and `%`.
use Rattle.std.proofs.Common.{◌≡◌, refl, sym, ap, ap₂, ◌∙◌, Bool, true, false, not, ◌&&◌, ◌||◌, cond, true≢false, ◌≢◌}
use Rattle.std.proofs.Common.{ℕ, zero, suc, ◌+◌, ◌-◌, ◌*◌, ◌/◌, ◌%◌, ◌^◌, ◌≤◌, ◌<◌, zero-le, min, max, mod-lt}
use Rattle.std.proofs.Common.{zero-lt-suc, div-one, le_of_suc-le-suc, lt_of_not-le, not-suc-le-zero, one-add, arith}
use Rattle.std.proofs.Common.{eqb, bit_and, bit_or, bit_xor, pow_pos, pow_mono, shr-shr, eq-eqb, ne_eqb, eqb-true}
use mathlib.Core.Bool.{false≢true}
use native.Mathlib.Nat.{zero-div}
use lib.Dec.{eqb-zero-suc, eqb-suc-zero, eqb-suc-suc}
use lib.Arith.{digits_mod, lt-one}
use lib.Bits.{differ, and_step, or_step, xor_step, and_shr, or_shr, xor_shr, or_shifted}
use lib.Pow.{pow-lt, split}
use mir.Val.{bool_byte}
use Rattle.words.specs.Bits.{bit, has, bit_value}
use Rattle.words.proofs.Tests.{and_true, and_false}

pub two_positive : zero < 2
two_positive = zero-lt-suc 1

bit_below_two : (w i : ℕ) → bit w i < 2
bit_below_two w i = mod-lt (w / 2 ^ i) two_positive

bit_half : (w i : ℕ) → bit w (suc i) ≡ bit (w / 2) i
bit_half w i = sym (ap (λ (x : ℕ). x % 2) (shr-shr w 1 i ∙ ap (λ (x : ℕ). w / 2 ^ x) (one-add i)))

bit_low : (w : ℕ) → bit w 0 ≡ w % 2
bit_low w = ap (λ (x : ℕ). x % 2) (div-one w)

half_below : {w : ℕ} (n : ℕ) → w < 2 ^ suc n → w / 2 < 2 ^ n
half_below n h = omega arith

bits_equal : (n a b : ℕ) → a < 2 ^ n → b < 2 ^ n → ((i : ℕ) → i < n → bit a i ≡ bit b i) → a ≡ b
bits_equal zero a b ha hb e = lt-one ha ∙ sym (lt-one hb)
bits_equal (suc n) a b ha hb e =
    let rest : a / 2 ≡ b / 2 =
    bits_equal n (a / 2) (b / 2) (half_below n ha) (half_below n hb) (λ i h. sym (bit_half a i) ∙ e (suc i) (omega arith) ∙ bit_half b i) in
    let here : a % 2 ≡ b % 2 = sym (bit_low a) ∙ e 0 (omega arith) ∙ bit_low b in
    omega arith

same_bit : (x y : ℕ) → x < 2 → y < 2 → eqb x 1 ≡ eqb y 1 → x ≡ y
same_bit zero zero h k e = refl
same_bit zero (suc zero) h k e = absurd (false≢true e)
same_bit zero (suc (suc y)) h k e = absurd (not-suc-le-zero {n = 0} (omega arith))
same_bit (suc zero) zero h k e = absurd (true≢false e)
same_bit (suc zero) (suc zero) h k e = refl
same_bit (suc zero) (suc (suc y)) h k e = absurd (not-suc-le-zero {n = 0} (omega arith))
same_bit (suc (suc x)) y h k e = absurd (not-suc-le-zero {n = 0} (omega arith))

-- two words below 2 ^ n are equal if all bits below n are
pub words_equal : (n a b : ℕ) → a < 2 ^ n → b < 2 ^ n → ((i : ℕ) → i < n → has a i ≡ has b i) → a ≡ b
unfolding has
words_equal n a b ha hb e = bits_equal n a b ha hb (λ i l. same_bit (bit a i) (bit b i) (bit_below_two a i) (bit_below_two b i) (e i l))

pub has_zero : (i : ℕ) → has 0 i ≡ false
unfolding has
has_zero i = rw zero-div

pub has_half : (w i : ℕ) → has w (suc i) ≡ has (w / 2) i
unfolding has
has_half w i = ap (λ (x : ℕ). eqb x 1) (bit_half w i)

pub has_low : (w : ℕ) → has w 0 ≡ eqb (w % 2) 1
unfolding has
has_low w = ap (λ (x : ℕ). eqb x 1) (bit_low w)

bit_at_most : (x y : ℕ) → x < 2 → (eqb x 1 ≡ true → eqb y 1 ≡ true) → x ≤ y
bit_at_most zero y h e = zero-le
bit_at_most (suc zero) y h e = let q : y ≡ 1 = eqb-true y 1 (e refl) in omega arith
bit_at_most (suc (suc x)) y h e = absurd (not-suc-le-zero {n = 0} (omega arith))

-- a word whose bits are all in another is at most that other
pub subset_at_most : (n a b : ℕ) → a < 2 ^ n → ((i : ℕ) → i < n → has a i ≡ true → has b i ≡ true) → a ≤ b
subset_at_most zero a b ha e = let q : a ≡ 0 = lt-one ha in omega arith
subset_at_most (suc n) a b ha e =
    let rest : a / 2 ≤ b / 2 =
    subset_at_most n (a / 2) (b / 2) (half_below n ha) (λ i l h. sym (has_half b i) ∙ e (suc i) (omega arith) (has_half a i ∙ h)) in
    let here : a % 2 ≤ b % 2 =
    bit_at_most (a % 2) (b % 2) (mod-lt a two_positive)
    (λ h. sym (has_low b) ∙ e 0 (omega arith) (has_low a ∙ h)) in
    omega arith

-- ---- a word made of its lowest bit and the rest

pub bit_value_below_two : (b : Bool) → bit_value b < 2
unfolding bit_value
bit_value_below_two true = omega arith
bit_value_below_two false = omega arith

-- what the code's cast of a bool gives
pub cast_value : (b : Bool) → bool_byte b ≡ bit_value b
unfolding bit_value
cast_value true = refl
cast_value false = refl

pub cast_below_two : (b : Bool) → bool_byte b < 2
cast_below_two b = rw (cast_value b) (bit_value_below_two b)

pub bit_value_is : (b : Bool) → eqb (bit_value b) 1 ≡ b
unfolding bit_value
bit_value_is true = refl
bit_value_is false = refl

lowest : (d w : ℕ) → d < 2 → (d + 2 * w) % 2 ≡ d
lowest d w h = omega arith

rest_of : (d w : ℕ) → d < 2 → (d + 2 * w) / 2 ≡ w
rest_of d w h = omega arith

pub has_lowest : (d w : ℕ) → d < 2 → has (d + 2 * w) 0 ≡ eqb d 1
has_lowest d w h = has_low (d + 2 * w) ∙ ap (λ (x : ℕ). eqb x 1) (lowest d w h)

pub has_rest : (d w i : ℕ) → d < 2 → has (d + 2 * w) (suc i) ≡ has w i
has_rest d w i h = has_half (d + 2 * w) i ∙ ap (λ (x : ℕ). has x i) (rest_of d w h)

-- ---- a single bit, and all bits but one

pub has_power : (j i : ℕ) → has (2 ^ j) i ≡ eqb j i
has_power zero zero = has_low 1
has_power zero (suc i) = has_half 1 i ∙ has_zero i ∙ sym (eqb-zero-suc i)
has_power (suc j) zero = has_low (2 ^ suc j) ∙ ap (λ (x : ℕ). eqb x 1) even ∙ sym (eqb-suc-zero j)
  where
    even : 2 ^ suc j % 2 ≡ 0
    even = omega arith
has_power (suc j) (suc i) = has_half (2 ^ suc j) i ∙ ap (λ (x : ℕ). has x i) half ∙ has_power j i ∙ sym (eqb-suc-suc j i)
  where
    half : 2 ^ suc j / 2 ≡ 2 ^ j
    half = omega arith

pub has_own : (i : ℕ) → has (2 ^ i) i ≡ true
has_own i = has_power i i ∙ eq-eqb i i refl

pub has_only : (i j : ℕ) → has (2 ^ i) j ≡ true → i ≡ j
has_only i j e = eqb-true i j (sym (has_power i j) ∙ e)

-- a word that has a bit is not 0
pub has_not_zero : (a j : ℕ) → has a j ≡ true → a ≢ 0
has_not_zero a j p e = true≢false (sym p ∙ ap (λ (x : ℕ). has x j) e ∙ has_zero j)

all_suc : (n : ℕ) → 2 ^ suc n - 1 ≡ 1 + 2 * (2 ^ n - 1)
all_suc n = let h = pow_pos n in omega arith

pub has_all : (n i : ℕ) → i < n → has (2 ^ n - 1) i ≡ true
has_all zero i l = absurd (not-suc-le-zero l)
has_all (suc n) zero l = ap (λ (x : ℕ). has x 0) (all_suc n) ∙ has_lowest 1 (2 ^ n - 1) (omega arith)
has_all (suc n) (suc i) l = ap (λ (x : ℕ). has x (suc i)) (all_suc n) ∙ has_rest 1 (2 ^ n - 1) i (omega arith)
    ∙ has_all n i (le_of_suc-le-suc l)

less_suc : (n w : ℕ) → w < 2 ^ suc n → 2 ^ suc n - 1 - w ≡ 1 - w % 2 + 2 * (2 ^ n - 1 - w / 2)
less_suc n w l = let h = pow_pos n in omega arith

other_bit : (d : ℕ) → d < 2 → eqb (1 - d) 1 ≡ not (eqb d 1)
other_bit zero l = refl
other_bit (suc zero) l = refl
other_bit (suc (suc d)) l = absurd (not-suc-le-zero {n = 0} (omega arith))

-- all bits but those of a word
pub has_all_less : (n w j : ℕ) → w < 2 ^ n → j < n → has (2 ^ n - 1 - w) j ≡ not (has w j)
has_all_less zero w j l m = absurd (not-suc-le-zero m)
has_all_less (suc n) w zero l m =
    ap (λ (x : ℕ). has x 0) (less_suc n w l) ∙ has_lowest (1 - w % 2) (2 ^ n - 1 - w / 2) (omega arith)
    ∙ other_bit (w % 2) (mod-lt w two_positive) ∙ sym (ap not (has_low w))
has_all_less (suc n) w (suc j) l m =
    ap (λ (x : ℕ). has x (suc j)) (less_suc n w l) ∙ has_rest (1 - w % 2) (2 ^ n - 1 - w / 2) j (omega arith)
    ∙ has_all_less n (w / 2) j (half_below n l) (le_of_suc-le-suc m) ∙ sym (ap not (has_half w j))

pub has_all_but : (n i j : ℕ) → i < n → j < n → has (2 ^ n - 1 - 2 ^ i) j ≡ not (eqb i j)
has_all_but n i j l m = has_all_less n (2 ^ i) j (pow-lt l) m ∙ ap not (has_power i j)

-- ---- a bit taken out of a word

-- a word that has bit i is at least 2 ^ i
pub has_at_least : (i w : ℕ) → has w i ≡ true → 2 ^ i ≤ w
has_at_least zero w e = let h : w % 2 ≡ 1 = eqb-true _ _ (sym (has_low w) ∙ e) in omega arith
has_at_least (suc i) w e = let h = has_at_least i (w / 2) (sym (has_half w i) ∙ e) in omega arith

-- and it is a bit of the word's length
pub has_inside : (n w i : ℕ) → w < 2 ^ n → has w i ≡ true → i < n
has_inside n w i h e = lt_of_not-le (λ l. let p = pow_mono {i = n} {j = i} l in let q = has_at_least i w e in omega arith)

pub has_without : (i w j : ℕ) → has w i ≡ true → has (w - 2 ^ i) j ≡ has w j && not (eqb i j)
has_without zero w zero e =
    let h : w % 2 ≡ 1 = eqb-true _ _ (sym (has_low w) ∙ e) in
    has_low (w - 1) ∙ ne_eqb _ _ (λ (q : (w - 1) % 2 ≡ 1). omega arith) ∙ sym (and_false (has w 0))
has_without zero w (suc j) e =
    let h : w % 2 ≡ 1 = eqb-true _ _ (sym (has_low w) ∙ e) in
    let half : (w - 1) / 2 ≡ w / 2 = omega arith in
    has_half (w - 1) j ∙ ap (λ (x : ℕ). has x j) half ∙ sym (has_half w j) ∙ sym (and_true (has w (suc j)))
    ∙ ap (λ (b : Bool). has w (suc j) && not b) (sym (eqb-zero-suc j))
has_without (suc i) w zero e =
    let h = has_at_least (suc i) w e in
    let low : (w - 2 ^ suc i) % 2 ≡ w % 2 = omega arith in
    has_low (w - 2 ^ suc i) ∙ ap (λ (x : ℕ). eqb x 1) low ∙ sym (has_low w) ∙ sym (and_true (has w 0))
    ∙ ap (λ (b : Bool). has w 0 && not b) (sym (eqb-suc-zero i))
has_without (suc i) w (suc j) e =
    let h = has_at_least (suc i) w e in
    let half : (w - 2 ^ suc i) / 2 ≡ w / 2 - 2 ^ i = omega arith in
    has_half (w - 2 ^ suc i) j ∙ ap (λ (x : ℕ). has x j) half ∙ has_without i (w / 2) j (sym (has_half w i) ∙ e)
    ∙ ap₂ (λ (a b : Bool). a && not b) (sym (has_half w j)) (sym (eqb-suc-suc i j))

-- ---- two words that differ

pub some_bit_differs : (n a b : ℕ) → a < 2 ^ n → b < 2 ^ n → a ≢ b → (i : ℕ) × (i < n) × (has a i ≢ has b i)
some_bit_differs zero a b ha hb d = absurd (d (lt-one ha ∙ sym (lt-one hb)))
some_bit_differs (suc n) a b ha hb d =
    go (has a 0) (has b 0) refl refl (some_bit_differs n (a / 2) (b / 2) (half_below n ha) (half_below n hb))
  where
    later : (a / 2 ≢ b / 2 → (i : ℕ) × (i < n) × (has (a / 2) i ≢ has (b / 2) i)) → has a 0 ≡ has b 0
        → (i : ℕ) × (i < suc n) × (has a i ≢ has b i)
    later ih e =
        let low : a % 2 ≡ b % 2 =
        same_bit (a % 2) (b % 2) (mod-lt a two_positive) (mod-lt b two_positive) (sym (has_low a) ∙ e ∙ has_low b) in
        let r = ih (λ q. d (omega arith)) in
        (suc r.0, omega (arith, r.1), λ q. r.2 (sym (has_half a r.0) ∙ q ∙ has_half b r.0))

    go : (x y : Bool) → has a 0 ≡ x → has b 0 ≡ y → (a / 2 ≢ b / 2 → (i : ℕ) × (i < n) × (has (a / 2) i ≢ has (b / 2) i))
        → (i : ℕ) × (i < suc n) × (has a i ≢ has b i)
    go true true p q ih = later ih (p ∙ sym q)
    go true false p q ih = (0, omega arith, λ e. true≢false (sym p ∙ e ∙ q))
    go false true p q ih = (0, omega arith, λ e. false≢true (sym p ∙ e ∙ q))
    go false false p q ih = later ih (p ∙ sym q)

-- a word that is not 0 has a bit
pub some_bit : (n a : ℕ) → a < 2 ^ n → a ≢ 0 → (i : ℕ) × (i < n) × (has a i ≡ true)
some_bit n a ha d = let r = some_bit_differs n a 0 ha (pow_pos n) d in (r.0, r.1, on r.0 (has a r.0) refl r.2)
  where
    on : (i : ℕ) (x : Bool) → has a i ≡ x → has a i ≢ has 0 i → x ≡ true
    on i true e h = refl
    on i false e h = absurd (h (e ∙ sym (has_zero i)))

-- ---- `&`

min_below : (a b : ℕ) → a < 2 → min a b < 2
min_below a b h = omega arith

and_low : (a b : ℕ) → bit_and a b % 2 ≡ min (a % 2) (b % 2)
and_low a b = ap (λ (x : ℕ). x % 2) (and_step a b) ∙ digits_mod (bit_and (a / 2) (b / 2)) (min_below _ _ (mod-lt a two_positive))

min_and : (x y : ℕ) → x < 2 → y < 2 → eqb (min x y) 1 ≡ eqb x 1 && eqb y 1
min_and zero zero h k = refl
min_and zero (suc zero) h k = refl
min_and zero (suc (suc y)) h k = absurd (not-suc-le-zero {n = 0} (omega arith))
min_and (suc zero) zero h k = refl
min_and (suc zero) (suc zero) h k = refl
min_and (suc zero) (suc (suc y)) h k = absurd (not-suc-le-zero {n = 0} (omega arith))
min_and (suc (suc x)) y h k = absurd (not-suc-le-zero {n = 0} (omega arith))

pub has_and : (a b i : ℕ) → has (bit_and a b) i ≡ has a i && has b i
unfolding has
has_and a b i =
    ap (λ (x : ℕ). eqb (x % 2) 1) (and_shr a b i) ∙ ap (λ (x : ℕ). eqb x 1) (and_low (a / 2 ^ i) (b / 2 ^ i))
    ∙ min_and (bit a i) (bit b i) (bit_below_two a i) (bit_below_two b i)

-- ---- `|`

max_below : (a b : ℕ) → a < 2 → b < 2 → max a b < 2
max_below a b h k = omega arith

or_low : (a b : ℕ) → bit_or a b % 2 ≡ max (a % 2) (b % 2)
or_low a b =
    ap (λ (x : ℕ). x % 2) (or_step a b) ∙ digits_mod (bit_or (a / 2) (b / 2)) (max_below _ _ (mod-lt a two_positive) (mod-lt b two_positive))

max_or : (x y : ℕ) → x < 2 → y < 2 → eqb (max x y) 1 ≡ eqb x 1 || eqb y 1
max_or zero zero h k = refl
max_or zero (suc zero) h k = refl
max_or zero (suc (suc y)) h k = absurd (not-suc-le-zero {n = 0} (omega arith))
max_or (suc zero) zero h k = refl
max_or (suc zero) (suc zero) h k = refl
max_or (suc zero) (suc (suc y)) h k = absurd (not-suc-le-zero {n = 0} (omega arith))
max_or (suc (suc x)) y h k = absurd (not-suc-le-zero {n = 0} (omega arith))

pub has_or : (a b i : ℕ) → has (bit_or a b) i ≡ has a i || has b i
unfolding has
has_or a b i =
    ap (λ (x : ℕ). eqb (x % 2) 1) (or_shr a b i) ∙ ap (λ (x : ℕ). eqb x 1) (or_low (a / 2 ^ i) (b / 2 ^ i))
    ∙ max_or (bit a i) (bit b i) (bit_below_two a i) (bit_below_two b i)

-- ---- `^`

differ_below : (x y : ℕ) → x < 2 → y < 2 → differ x y < 2
differ_below zero y h k = k
differ_below (suc x) zero h k = h
differ_below (suc zero) (suc y) h k = omega arith
differ_below (suc (suc x)) (suc y) h k = absurd (not-suc-le-zero {n = 0} (omega arith))

xor_low : (a b : ℕ) → bit_xor a b % 2 ≡ differ (a % 2) (b % 2)
xor_low a b =
    ap (λ (x : ℕ). x % 2) (xor_step a b)
    ∙ digits_mod (bit_xor (a / 2) (b / 2)) (differ_below _ _ (mod-lt a two_positive) (mod-lt b two_positive))

differ_flips : (x y : ℕ) → x < 2 → y < 2 → eqb (differ x y) 1 ≡ cond (eqb y 1) (not (eqb x 1)) (eqb x 1)
differ_flips zero zero h k = refl
differ_flips zero (suc zero) h k = refl
differ_flips zero (suc (suc y)) h k = absurd (not-suc-le-zero {n = 0} (omega arith))
differ_flips (suc zero) zero h k = refl
differ_flips (suc zero) (suc zero) h k = refl
differ_flips (suc zero) (suc (suc y)) h k = absurd (not-suc-le-zero {n = 0} (omega arith))
differ_flips (suc (suc x)) y h k = absurd (not-suc-le-zero {n = 0} (omega arith))

has_xor : (a b i : ℕ) → has (bit_xor a b) i ≡ cond (has b i) (not (has a i)) (has a i)
unfolding has
has_xor a b i =
    ap (λ (x : ℕ). eqb (x % 2) 1) (xor_shr a b i) ∙ ap (λ (x : ℕ). eqb x 1) (xor_low (a / 2 ^ i) (b / 2 ^ i))
    ∙ differ_flips (bit a i) (bit b i) (bit_below_two a i) (bit_below_two b i)

-- `^` with the lowest ones gives the other value of each of the lowest bits
pub has_others : (n w i : ℕ) → i < n → has (bit_xor w (2 ^ n - 1)) i ≡ not (has w i)
has_others n w i l = rw (has_xor w (2 ^ n - 1) i, has_all n i l)

-- a bit below all bits of a word, put into it
pub has_with : (limit c s j : ℕ) → c < limit → s % 2 ^ limit ≡ 0 → has (s + 2 ^ c) j ≡ has s j || eqb c j
has_with limit c s j h e =
    let q : s / 2 ^ limit * 2 ^ limit ≡ s = omega (arith, split s limit) in
    let joined : bit_or s (2 ^ c) ≡ s + 2 ^ c = rw q at (or_shifted (s / 2 ^ limit) limit (2 ^ c) (pow-lt h)) in
    ap (λ (x : ℕ). has x j) (sym joined) ∙ has_or s (2 ^ c) j ∙ ap (λ (b : Bool). has s j || b) (has_power c j)
