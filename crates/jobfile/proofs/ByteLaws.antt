-- Numbers as bytes there and back.
use Rattle.std.proofs.Common.{◌≡◌, refl, sym, ap, ap₂, ◌∙◌, List, [], ◌∷◌, ℕ, zero, suc, ◌+◌, ◌*◌, ◌/◌, ◌%◌, ◌^◌, ◌<◌}
use Rattle.std.proofs.Common.{◌≤◌, suc-le-suc, pow-suc, le_of_suc-le-suc, not-suc-le-zero, arith, length, take}
use Rattle.std.proofs.Common.{length-append}
use native.Mathlib.Nat.{div-div-eq-div-mul}
use Rattle.std.specs.Int.{w64, byte_at, bytes_low_first, to_le_bytes}
use Rattle.jobfile.specs.Bytes.{number_of, bytes_of, word_bytes, AllBytes}

-- a list of bytes, byte by byte
pub bytes_none : AllBytes []
bytes_none i l = absurd (not-suc-le-zero l)

pub bytes_more : (byte : ℕ) (bytes : List ℕ) → byte < 256 → AllBytes bytes → AllBytes (byte ∷ bytes)
bytes_more byte bytes small rest zero l = small
bytes_more byte bytes small rest (suc i) l = rest i (le_of_suc-le-suc l)

-- ---- there and back

pub bytes_count : (count number : ℕ) → length (bytes_of count number) ≡ count
unfolding bytes_of
bytes_count zero number = refl
bytes_count (suc count) number = ap suc (bytes_count count (number / 256))

-- a number that fits is the number of its bytes
pub number_there : (count number : ℕ) → number < 256 ^ count → number_of (bytes_of count number) ≡ number
unfolding bytes_of number_of
number_there zero number l = omega arith
number_there (suc count) number l =
    let fits : number < 256 ^ count * 256 = rw (pow-suc 256 count) at l in
    let rest : number_of (bytes_of count (number / 256)) ≡ number / 256 = number_there count (number / 256) (omega arith) in
    omega arith

-- the library's bytes of a number, low byte first: from byte i on, and the lowest of eight
low_first : (i count number : ℕ) → bytes_low_first i count number ≡ bytes_of count (number / 256 ^ i)
unfolding bytes_of
low_first i zero number = refl
low_first zero (suc count) number =
    ap₂ (λ (x : ℕ) (xs : List ℕ). x ∷ xs) (omega arith) (low_first 1 count number ∙ ap (bytes_of count) (omega arith))
low_first (suc i) (suc count) number =
    let next : number / 256 ^ suc (suc i) ≡ number / 256 ^ suc i / 256 =
    ap (λ (p : ℕ). number / p) (pow-suc 256 (suc i)) ∙ sym (div-div-eq-div-mul number (256 ^ suc i) 256) in
    ap (λ (xs : List ℕ). number / 256 ^ suc i % 256 ∷ xs) (low_first (suc (suc i)) count number ∙ ap (bytes_of count) next)

take_low : (i count all number : ℕ) → count ≤ all → take count (bytes_low_first i all number) ≡ bytes_low_first i count number
take_low i zero all number l = refl
take_low i (suc count) zero number l = absurd (not-suc-le-zero l)
take_low i (suc count) (suc all) number l =
    ap (λ (xs : List ℕ). byte_at i number ∷ xs) (take_low (suc i) count all number (le_of_suc-le-suc l))

pub low_bytes : (count number : ℕ) → count ≤ 8 → take count (to_le_bytes w64 number) ≡ bytes_of count number
low_bytes count number l =
    take_low 0 count 8 number l ∙ low_first 0 count number ∙ ap (bytes_of count) (omega arith)

-- and bytes are those of the number they make
pub bytes_there : (bytes : List ℕ) → AllBytes bytes → bytes_of (length bytes) (number_of bytes) ≡ bytes
unfolding bytes_of number_of
bytes_there [] h = refl
bytes_there (byte ∷ bytes) h =
    let small : byte < 256 = h 0 (omega arith) in
    let low : (byte + 256 * number_of bytes) % 256 ≡ byte = omega arith in
    let high : (byte + 256 * number_of bytes) / 256 ≡ number_of bytes = omega arith in
    ap₂ (λ (x : ℕ) (xs : List ℕ). x ∷ xs) low
    (ap (λ (n : ℕ). bytes_of (length bytes) n) high ∙ bytes_there bytes (λ i l. h (suc i) (suc-le-suc l)))

pub word_bytes_count : (words : List ℕ) → length (word_bytes words) ≡ 8 * length words
unfolding word_bytes
word_bytes_count [] = refl
word_bytes_count (word ∷ words) =
    let both = length-append (bytes_of 8 word) (word_bytes words) in
    let first = bytes_count 8 word in
    let rest = word_bytes_count words in
    omega arith
