-- Bytes, numbers, words and entries read from a file: what was put is read, and what is read is what stands there.
use Rattle.std.proofs.Common.{◌≡◌, refl, sym, ap, ap₂, ◌∙◌, List, [], ◌∷◌, ◌++◌, append_assoc, ℕ, zero, suc, ◌+◌, ◌*◌}
use Rattle.std.proofs.Common.{◌-◌, ◌^◌, ◌≤◌, ◌<◌, suc-le-suc, arith, length, take, drop, take-append-drop}
use Rattle.std.proofs.Common.{length-drop, length-take-le, take_at, drop_at, drop-drop, drop-cons, get_or-take}
use Rattle.std.proofs.Common.{get_or-drop}
use Rattle.words.specs.Bits.{at}
use Rattle.words.specs.Turning.{tabulate}
use Rattle.jobfile.specs.Bytes.{number_of, bytes_of, word_bytes, number_at, words_at, AllBytes}
use Rattle.jobfile.specs.Layout.{entry_kind, body_offset, body_length}
use Rattle.jobfile.proofs.ByteLaws.{bytes_count, number_there, bytes_there}
use Rattle.writer.specs.Writer.{entry_bytes}

tabulate_same : (n : ℕ) (f g : ℕ → ℕ) → ((i : ℕ) → f i ≡ g i) → tabulate n f ≡ tabulate n g
unfolding tabulate
tabulate_same zero f g h = refl
tabulate_same (suc n) f g h =
    ap₂ (λ (x : ℕ) (xs : List ℕ). x ∷ xs) (h 0) (tabulate_same n (λ i. f (suc i)) (λ i. g (suc i)) (λ i. h (suc i)))

-- the first word, then the others
words_at_more : (file : List ℕ) (offset count : ℕ)
    → words_at file offset (suc count) ≡ number_at file offset 8 ∷ words_at file (offset + 8) count
unfolding tabulate
words_at_more file offset count =
    ap₂ (λ (x : ℕ) (xs : List ℕ). x ∷ xs)
    (let none : offset + 8 * 0 ≡ offset = omega arith in ap (λ (n : ℕ). number_at file n 8) none)
    (tabulate_same count (λ t. number_at file (offset + 8 * suc t) 8) (λ t. number_at file (offset + 8 + 8 * t) 8)
    (λ t. let next : offset + 8 * suc t ≡ offset + 8 + 8 * t = omega arith in ap (λ (n : ℕ). number_at file n 8) next))

-- ---- what was put is read

pub number_read : (file : List ℕ) (offset count number : ℕ) (after : List ℕ)
    → drop offset file ≡ bytes_of count number ++ after → number < 256 ^ count
    → number_at file offset count ≡ number
unfolding number_at
number_read file offset count number after e l =
    ap (λ (bytes : List ℕ). number_of (take count bytes)) e
    ∙ ap number_of (take_at (bytes_of count number) after count (bytes_count count number))
    ∙ number_there count number l

pub words_read : (file : List ℕ) (offset : ℕ) (words after : List ℕ) → drop offset file ≡ word_bytes words ++ after
    → ((t : ℕ) → t < length words → at words t < 256 ^ 8) → words_at file offset (length words) ≡ words
unfolding tabulate word_bytes
words_read file offset [] after e h = refl
words_read file offset (word ∷ words) after e h =
    let rest = word_bytes words ++ after in
    let parts : drop offset file ≡ bytes_of 8 word ++ rest = e ∙ append_assoc (bytes_of 8 word) (word_bytes words) after in
    let next : drop (offset + 8) file ≡ rest =
    sym (drop-drop 8 offset file) ∙ ap (λ (bytes : List ℕ). drop 8 bytes) parts ∙ drop_at (bytes_of 8 word) rest 8 (bytes_count 8 word) in
    words_at_more file offset (length words)
    ∙ ap₂ (λ (x : ℕ) (xs : List ℕ). x ∷ xs) (number_read file offset 8 word rest parts (h 0 (omega arith)))
    (words_read file (offset + 8) words after next (λ t l. h (suc t) (suc-le-suc l)))

-- ---- what is read is what stands there

-- bytes one by one
pub bytes_stand : (file : List ℕ) (offset count : ℕ) → offset + count ≤ length file
    → drop offset file ≡ tabulate count (λ i. at file (offset + i)) ++ drop (offset + count) file
unfolding tabulate
bytes_stand file offset zero l = let none : offset ≡ offset + 0 = omega arith in ap (λ (n : ℕ). drop n file) none
bytes_stand file offset (suc count) l =
    let here : offset ≡ offset + 0 = omega arith in
    let end : suc offset + count ≡ offset + suc count = omega arith in
    drop-cons file offset 0 (omega arith)
    ∙ ap₂ (λ (n : ℕ) (bytes : List ℕ). at file n ∷ bytes) here
    (bytes_stand file (suc offset) count (omega arith)
    ∙ ap₂ (λ (bytes : List ℕ) (n : ℕ). bytes ++ drop n file)
    (tabulate_same count (λ i. at file (suc offset + i)) (λ i. at file (offset + suc i))
    (λ i. let next : suc offset + i ≡ offset + suc i = omega arith in ap (λ (n : ℕ). at file n) next)) end)

module _ (file : List ℕ) (small : AllBytes file) where
  number_stands : (offset count : ℕ) → offset + count ≤ length file
      → drop offset file ≡ bytes_of count (number_at file offset count) ++ drop (offset + count) file
  unfolding number_at
  number_stands offset count l =
      let part = take count (drop offset file) in
      let left : length (drop offset file) ≡ length file - offset = length-drop offset file in
      let size : length part ≡ count = length-take-le count (drop offset file) (omega arith) in
      let bytes : bytes_of count (number_of part) ≡ part = ap (λ (n : ℕ). bytes_of n (number_of part)) (sym size)
      ∙ bytes_there part (λ i m. below i (omega arith)) in
      sym (take-append-drop count (drop offset file)) ∙ ap₂ (λ (a b : List ℕ). a ++ b) (sym bytes) (drop-drop count offset file)
    where
      below : (i : ℕ) → i < count → at (take count (drop offset file)) i < 256
      below i m = rw (get_or-take count (drop offset file) i 0 m, get_or-drop offset file i 0) (small (offset + i) (omega (arith, l)))

  pub words_stand : (offset count : ℕ) → offset + 8 * count ≤ length file
      → drop offset file ≡ word_bytes (words_at file offset count) ++ drop (offset + 8 * count) file
  unfolding tabulate word_bytes
  words_stand offset zero l = let none : offset ≡ offset + 8 * 0 = omega arith in ap (λ (n : ℕ). drop n file) none
  words_stand offset (suc count) l =
      let first = bytes_of 8 (number_at file offset 8) in
      let others = words_at file (offset + 8) count in
      let end : offset + 8 + 8 * count ≡ offset + 8 * suc count = omega arith in
      number_stands offset 8 (omega arith) ∙ ap (λ (bytes : List ℕ). first ++ bytes) (words_stand (offset + 8) count (omega arith))
      ∙ sym (append_assoc first (word_bytes others) (drop (offset + 8 + 8 * count) file))
      ∙ ap₂ (λ (words : List ℕ) (n : ℕ). word_bytes words ++ drop n file) (sym (words_at_more file offset count)) end

  pub entry_stands : (i : ℕ) → 14 + 9 * i ≤ length file
      → drop (5 + 9 * i) file ≡ entry_bytes (entry_kind file i) (body_offset file i) (body_length file i) ++ drop (14 + 9 * i) file
  unfolding entry_kind body_offset body_length
  entry_stands i l =
      let offset = bytes_of 4 (body_offset file i) in
      let size = bytes_of 4 (body_length file i) in
      let one : suc (5 + 9 * i) ≡ 6 + 9 * i = omega arith in
      let four : 6 + 9 * i + 4 ≡ 10 + 9 * i = omega arith in
      let eight : 10 + 9 * i + 4 ≡ 14 + 9 * i = omega arith in
      let second : drop (10 + 9 * i) file ≡ size ++ drop (14 + 9 * i) file =
      number_stands (10 + 9 * i) 4 (omega arith) ∙ ap (λ (n : ℕ). size ++ drop n file) eight in
      let first : drop (6 + 9 * i) file ≡ offset ++ drop (10 + 9 * i) file =
      number_stands (6 + 9 * i) 4 (omega arith) ∙ ap (λ (n : ℕ). offset ++ drop n file) four in
      let both : drop (6 + 9 * i) file ≡ offset ++ size ++ drop (14 + 9 * i) file =
      first ∙ ap (λ (bytes : List ℕ). offset ++ bytes) second ∙ sym (append_assoc offset size (drop (14 + 9 * i) file)) in
      drop-cons file (5 + 9 * i) 0 (omega arith) ∙ ap (λ (n : ℕ). entry_kind file i ∷ drop n file) one
      ∙ ap (λ (bytes : List ℕ). entry_kind file i ∷ bytes) both
