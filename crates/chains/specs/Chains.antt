-- Words in chains by their slots. Only the contracts of helpers use this: no call's answer is said by it.
use Rattle.std.specs.Prelude.{ℕ, zero, suc, ◌-◌, ◌%◌, ◌≤◌, ◌<◌, ◌≡◌, Bool, cond, List, eqb, length}
use Rattle.std.specs.Int.Bits.{bit_and}
use Rattle.words.specs.Bits.{at}

-- the slot of a word, of so many slots: the low bits of its remainder by a prime, where their number is a power of 2
unfoldable pub slot : ℕ → ℕ → ℕ
slot slots word = bit_and (word % 32749) (slots - 1)

-- the place of the last number below n that passes: 1 more than the number, and 0 where there is none
unfoldable pub last : ℕ → (ℕ → Bool) → ℕ
last zero p = 0
last (suc n) p = let before = last n p in cond (p n) (suc n) before

-- whether the word at an index has this slot
abbrev pub in_slot : ℕ → List ℕ → ℕ → ℕ → Bool
in_slot slots words s i = eqb (slot slots (at words i)) s

-- The first `count` words are in chains: beside each word the place of the last one before it in its slot, and for
-- each slot the place of its last word.
pub record Chains (words links heads : List ℕ) (count : ℕ) : Type 0 where
  pub some_slot : 0 < length heads
  pub words_room : count ≤ length words
  pub links_room : count ≤ length links
  pub linked : (i : ℕ) → i < count → at links i ≡ last i (in_slot (length heads) words (slot (length heads) (at words i)))
  pub headed : (s : ℕ) → s < length heads → at heads s ≡ last count (in_slot (length heads) words s)
