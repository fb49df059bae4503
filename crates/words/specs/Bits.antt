-- Words of bits. A parallel word (the source's PTV) has one bit a driver, in a response one bit a receiver; a
-- sequential word (STV, and SRV for a response) one bit a vector. Every definition computes on numerals.
use Rattle.std.specs.Prelude.{ℕ, ◌+◌, ◌*◌, ◌/◌, ◌%◌, ◌^◌, Bool, true, false, List, [], ◌∷◌, eqb, get_or}
use Rattle.std.specs.Int.Count.{ones_in}

-- bit i of a word, worth 2 ^ i: 0 or 1
abbrev pub bit : ℕ → ℕ → ℕ
bit w i = w / 2 ^ i % 2

-- whether bit i of a word is 1
unfoldable pub has : ℕ → ℕ → Bool
has w i = eqb (bit w i) 1

unfoldable pub bit_value : Bool → ℕ
bit_value true = 1
bit_value false = 0

-- the word with these bits, bit 0 first
unfoldable pub word : List Bool → ℕ
word [] = 0
word (b ∷ bs) = bit_value b + 2 * word bs

-- entry i of a list of words
abbrev pub at : List ℕ → ℕ → ℕ
at ws i = get_or ws i 0

-- document 01's "count of ones" of a word below 2 ^ n, counted in n steps
abbrev pub ones_of : ℕ → ℕ → ℕ
ones_of n w = ones_in n w
