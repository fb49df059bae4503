-- Numbers and words as they stand in a file, by the library's functions that read them.
use Rattle.std.proofs.Common.{◌≡◌, ℕ, zero, suc, ◌+◌, ◌-◌, ◌*◌, ◌≤◌, ◌<◌, List, [], ◌∷◌, length, get_or, take, drop}
use Rattle.std.proofs.Common.{refl, sym, ap, ap₂, ◌∙◌, arith, drop-cons}
use Rattle.std.proofs.lemmas.List.{drop-drop, take-take, drop-take, get_or-map}
use Rattle.std.specs.Int.{w32, w64, from_le_bytes}
use Rattle.std.specs.Simd.{first_chunks}
use Rattle.words.specs.Bits.{at}
use Rattle.words.specs.Turning.{tabulate}
use Rattle.jobfile.specs.Bytes.{number_of, number_at, words_at}
use Rattle.reader.specs.Stored.{stored_words}

-- four bytes of a file
number_cons : (file : List ℕ) (p q d : ℕ) → q ≡ suc p → p < length file
    → number_of (take (suc d) (drop p file)) ≡ at file p + 256 * number_of (take d (drop q file))
unfolding number_of
number_cons file p q d next l = rw (drop-cons file p 0 l, next)

pub number_read : (file : List ℕ) (offset : ℕ) → offset + 4 ≤ length file
    → from_le_bytes w32 (at file offset ∷ at file (offset + 1) ∷ at file (offset + 2) ∷ at file (offset + 3) ∷ [])
    ≡ number_at file offset 4
unfolding number_at number_of
number_read file offset there =
    omega (
      arith,
      number_cons file offset (offset + 1) 3 (omega arith) (omega arith),
      number_cons file (offset + 1) (offset + 2) 2 (omega arith) (omega arith),
      number_cons file (offset + 2) (offset + 3) 1 (omega arith) (omega arith),
      number_cons file (offset + 3) (offset + 4) 0 (omega arith) (omega arith),
    )

-- the eight bytes of a word
pub word_number : (bytes : List ℕ) → length bytes ≡ 8 → from_le_bytes w64 bytes ≡ number_of bytes
unfolding number_of
word_number (a ∷ b ∷ c ∷ d ∷ e ∷ f ∷ g ∷ h ∷ []) eight = omega arith
word_number [] eight = absurd (omega arith)
word_number (a ∷ []) eight = absurd (omega arith)
word_number (a ∷ b ∷ []) eight = absurd (omega arith)
word_number (a ∷ b ∷ c ∷ []) eight = absurd (omega arith)
word_number (a ∷ b ∷ c ∷ d ∷ []) eight = absurd (omega arith)
word_number (a ∷ b ∷ c ∷ d ∷ e ∷ []) eight = absurd (omega arith)
word_number (a ∷ b ∷ c ∷ d ∷ e ∷ f ∷ []) eight = absurd (omega arith)
word_number (a ∷ b ∷ c ∷ d ∷ e ∷ f ∷ g ∷ []) eight = absurd (omega arith)
word_number (a ∷ b ∷ c ∷ d ∷ e ∷ f ∷ g ∷ h ∷ i ∷ more) eight = absurd (omega arith)

-- word t of stored words
pub word_read : (stored : List (List ℕ)) (t : ℕ) → t < length stored → length (get_or stored t []) ≡ 8
    → from_le_bytes w64 (get_or stored t []) ≡ at (stored_words stored) t
word_read stored t l eight = word_number (get_or stored t []) eight ∙ sym (get_or-map number_of stored t [] 0 l)

tabulate_same : (n : ℕ) (f g : ℕ → ℕ) → ((i : ℕ) → i < n → f i ≡ g i) → tabulate n f ≡ tabulate n g
unfolding tabulate
tabulate_same zero f g h = refl
tabulate_same (suc n) f g h =
    ap₂ (λ (x : ℕ) (xs : List ℕ). x ∷ xs) (h 0 (omega arith)) (tabulate_same n (λ i. f (suc i)) (λ i. g (suc i)) (λ i l. h (suc i) (omega arith)))

-- the words of a file from an offset on, in chunks of eight bytes
words_from : (k : ℕ) (file : List ℕ) (offset : ℕ) → stored_words (first_chunks 8 k (drop offset file)) ≡ words_at file offset k
unfolding tabulate number_at
words_from zero file offset = refl
words_from (suc k) file offset =
    let first : offset + 0 ≡ offset = omega arith in
    rw first (ap (λ (ws : List ℕ). number_of (take 8 (drop offset file)) ∷ ws)
    (ap (λ (xs : List ℕ). stored_words (first_chunks 8 k xs)) (drop-drop 8 offset file)
    ∙ words_from k file (offset + 8)
    ∙ tabulate_same k (λ t. number_at file (offset + 8 + 8 * t) 8) (λ t. number_at file (offset + 8 * suc t) 8)
    (λ t l. let same : offset + 8 + 8 * t ≡ offset + 8 * suc t = omega arith in rw same)))

pub words_chunked : (k : ℕ) (file : List ℕ) → stored_words (first_chunks 8 k file) ≡ words_at file 0 k
words_chunked k file = words_from k file 0

-- words in a part of a file are words of the file
pub words_of_part : (file : List ℕ) (start size k : ℕ) → 8 * k ≤ size
    → words_at (take size (drop start file)) 0 k ≡ words_at file start k
unfolding number_at
words_of_part file start size k room =
    tabulate_same k (λ t. number_at (take size (drop start file)) (0 + 8 * t) 8) (λ t. number_at file (start + 8 * t) 8)
    (λ t l.
    let part : size ≡ 8 * t + (size - 8 * t) = omega arith in
    let eight : 8 ≤ size - 8 * t = omega arith in
    let all : 0 + 8 * t ≡ 8 * t = omega arith in
    rw all (ap number_of (ap (λ (n : ℕ). take 8 (drop (8 * t) (take n (drop start file)))) part
    ∙ ap (λ (xs : List ℕ). take 8 xs) (drop-take (8 * t) (size - 8 * t) (drop start file))
    ∙ take-take 8 (size - 8 * t) (drop (8 * t) (drop start file)) eight
    ∙ ap (λ (xs : List ℕ). take 8 xs) (drop-drop (8 * t) start file))))
