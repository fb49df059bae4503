-- The loops that add words as rows to columns: what the columns hold after t rows, a row more, and the end.
use Rattle.std.proofs.Common.{◌≡◌, sym, ap, ◌∙◌, Bool, ◌&&◌, List, map, ℕ, ◌+◌, ◌-◌, ◌*◌, ◌^◌, ◌≤◌, ◌<◌, arith}
use Rattle.std.proofs.Common.{bit_and, length, take}
use Rattle.words.specs.Bits.{has, bit_value, word, at}
use Rattle.words.specs.Turning.{column, Columns}
use Rattle.words.proofs.Bits.{has_all, has_and}
use Rattle.words.proofs.Making.{made_equal, word_more, word_small, word_whole}
use Rattle.words.proofs.Tests.{and_true}

-- a word's bits below n
has_masked : (w mask n i : ℕ) → mask ≡ 2 ^ n - 1 → i < n → has (bit_and w mask) i ≡ has w i
has_masked w mask n i e l =
    has_and w mask i ∙ ap (λ (x : ℕ). has w i && has x i) e ∙ ap (λ (b : Bool). has w i && b) (has_all n i l)
    ∙ and_true (has w i)

-- the columns of the first t words, of these only the bits inside
abbrev pub Added : (words : List ℕ) → (inside t : ℕ) → List ℕ → Type 0
Added words inside t columns =
    (i : ℕ) → i < 64 → at columns i ≡ word (map (λ w. has (bit_and w inside) i) (take t words))

module _ (words : List ℕ) (inside t : ℕ) (columns : List ℕ) (so_far : Added words inside t columns) where
  pub added_small : t ≤ length words → (i : ℕ) → i < 64 → at columns i < 2 ^ t
  added_small l i m = rw (so_far i m) (word_small (λ w. has (bit_and w inside) i) words t l)

  pub added_more : (i : ℕ) → i < 64 → (x : ℕ)
      → x ≡ at columns i + bit_value (has (bit_and (at words t) inside) i) * 2 ^ t
      → t < length words → x ≡ word (map (λ w. has (bit_and w inside) i) (take (t + 1) words))
  added_more i m x adds l =
      adds ∙ ap (λ (y : ℕ). y + bit_value (has (bit_and (at words t) inside) i) * 2 ^ t) (so_far i m)
      ∙ sym (word_more (λ w. has (bit_and w inside) i) words t l)

  pub added_whole : (n : ℕ) → inside ≡ 2 ^ n - 1 → n ≤ 64 → length words ≤ t → Columns n words columns
  unfolding column
  added_whole n e most l i m =
      so_far i (omega (arith, m, most)) ∙ word_whole (λ w. has (bit_and w inside) i) words t l
      ∙ made_equal (λ w. has (bit_and w inside) i) words (λ w. has w i) (λ z k. has_masked _ _ n i e m)
