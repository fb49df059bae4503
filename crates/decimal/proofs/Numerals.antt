-- Laws of numbers in base ten, and how long they are.
use Rattle.std.proofs.Common.{ℕ, zero, suc, ◌+◌, ◌-◌, ◌*◌, ◌/◌, ◌%◌, ◌<◌, ◌≤◌, ◌^◌, ◌≡◌, ◌≢◌, refl, sym, ap, ◌∙◌, arith}
use Rattle.std.proofs.Common.{zero-le, Bool, true, false, List, [], ◌∷◌, ◌++◌, length, drop, get_or, length-append}
use Rattle.std.proofs.Common.{drop-cons, append_assoc, set, ltb, ltb-true, ltb-false}
use Rattle.std.proofs.lemmas.List.{drop-set}
use Rattle.decimal.specs.Decimal.{digit_byte, digits, decimal, spaced, numbers_end}

-- the last digit stands alone, or after those of the rest
short : (most n : ℕ) → n < 10 → digits (suc most) n ≡ digit_byte n ∷ []
unfolding digits
short most n l = go (ltb n 10) refl
  where
    go : (b : Bool) → ltb n 10 ≡ b
        → elim b as (λ _. List ℕ) [ true ↦ digit_byte n ∷ [] | false ↦ digits most (n / 10) ++ digit_byte (n % 10) ∷ [] ]
        ≡ digit_byte n ∷ []
    go true e = refl
    go false e = let m = ltb-false n 10 e in absurd (omega arith)

long : (most n : ℕ) → 10 ≤ n → digits (suc most) n ≡ digits most (n / 10) ++ digit_byte (n % 10) ∷ []
unfolding digits
long most n l = go (ltb n 10) refl
  where
    go : (b : Bool) → ltb n 10 ≡ b
        → elim b as (λ _. List ℕ) [ true ↦ digit_byte n ∷ [] | false ↦ digits most (n / 10) ++ digit_byte (n % 10) ∷ [] ]
        ≡ digits most (n / 10) ++ digit_byte (n % 10) ∷ []
    go true e = let m = ltb-true n 10 e in absurd (omega arith)
    go false e = refl

-- one digit more is allowed in vain, where there are enough
enough : (most n : ℕ) → n < 10 ^ most → n ≢ 0 → digits (suc most) n ≡ digits most n
enough zero n l some = absurd (some (omega arith))
enough (suc most) n l some = go (ltb n 10) refl (enough most (n / 10))
  where
    go : (b : Bool) → ltb n 10 ≡ b → (n / 10 < 10 ^ most → n / 10 ≢ 0 → digits (suc most) (n / 10) ≡ digits most (n / 10))
        → digits (suc (suc most)) n ≡ digits (suc most) n
    go true e more = let m = ltb-true n 10 e in short (suc most) n m ∙ sym (short most n m)
    go false e more =
        let m = ltb-false n 10 e in
        let q : n / 10 ≢ 0 = λ z. (omega arith) in
        let low : n / 10 < 10 ^ most = omega arith in
        long (suc most) n m ∙ ap (λ (high : List ℕ). high ++ digit_byte (n % 10) ∷ []) (more low q) ∙ sym (long most n m)

pub decimal_digit : (n : ℕ) → n < 10 → decimal n ≡ digit_byte n ∷ []
unfolding decimal
decimal_digit n l = short 19 n l

pub decimal_step : (n : ℕ) → 10 ≤ n → n < 2 ^ 64 → decimal n ≡ decimal (n / 10) ++ digit_byte (n % 10) ∷ []
unfolding decimal
decimal_step n l fits =
    let low : n / 10 < 10 ^ 19 = omega arith in
    let some : n / 10 ≢ 0 = λ z. (omega arith) in
    long 19 n l ∙ ap (λ (high : List ℕ). high ++ digit_byte (n % 10) ∷ []) (sym (enough 19 (n / 10) low some))

-- ---- digits put before those at the end of a buffer

module _ (n rest start : ℕ) (buffer : List ℕ) (some : 0 < start) (inside : start ≤ length buffer)
    (e : decimal n ≡ decimal rest ++ drop start buffer) where
  abbrev last : ℕ
  last = 48 + rest % 10

  put : drop (start - 1) (set buffer (start - 1) last) ≡ last ∷ drop start buffer
  put = let next : start - 1 + 1 ≡ start = omega arith in rw (drop-set buffer (start - 1) last (omega arith), next)

  -- it is the first of the number
  pub first_put : rest < 10 → drop (start - 1) (set buffer (start - 1) last) ≡ decimal n
  first_put l = let same : rest % 10 ≡ rest = omega arith in rw (put, e, decimal_digit rest l, same)

  -- others come before it
  pub digit_put : 10 ≤ rest → rest < 2 ^ 64 → decimal n ≡ decimal (rest / 10) ++ drop (start - 1) (set buffer (start - 1) last)
  digit_put l fits =
      rw (put, e, decimal_step rest l fits) (append_assoc (decimal (rest / 10)) (last ∷ []) (drop start buffer))

-- one digit less needs one place less
pub place_less : (start rest : ℕ) → rest < 10 ^ start → 10 ≤ rest → rest / 10 < 10 ^ (start - 1)
place_less zero rest l some = absurd (omega arith)
place_less (suc start) rest l some = let less : suc start - 1 ≡ start = omega arith in rw less (omega arith)

-- ---- lengths

digits_most : (most n : ℕ) → length (digits most n) ≤ most
unfolding digits
digits_most zero n = zero-le
digits_most (suc most) n = go (ltb n 10) (digits_most most (n / 10))
  where
    go : (b : Bool) → length (digits most (n / 10)) ≤ most
        → length {A = ℕ} (elim b as
        (λ _. List ℕ) [
          | true ↦ digit_byte n ∷ []
          | false ↦ digits most (n / 10) ++ digit_byte (n % 10)
              ∷ []
        ]) ≤ suc most
    go true l = omega arith
    go false l = let both = length-append (digits most (n / 10)) (digit_byte (n % 10) ∷ []) in omega arith

pub decimal_most : (n : ℕ) → length (decimal n) ≤ 20
unfolding decimal
decimal_most n = digits_most 20 n

pub numbers_most : (numbers : List ℕ) → length (numbers_end numbers) ≤ 21 * length numbers + 1
unfolding numbers_end
numbers_most [] = omega arith
numbers_most (n ∷ ns) =
    let most = decimal_most n in
    let more = numbers_most ns in
    let both = length-append (spaced n) (numbers_end ns) in
    omega arith

-- ---- a line of numbers, from an index on

pub numbers_next : (numbers : List ℕ) (i : ℕ) → i < length numbers
    → numbers_end (drop i numbers) ≡ spaced (get_or numbers i 0) ++ numbers_end (drop (i + 1) numbers)
unfolding numbers_end
numbers_next numbers i l = let one : i + 1 ≡ suc i = omega arith in rw (one, drop-cons numbers i 0 l)
