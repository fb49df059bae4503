-- Numbers as bytes, low byte first.
use Rattle.std.specs.Prelude.{ℕ, zero, suc, ◌+◌, ◌*◌, ◌/◌, ◌%◌, ◌<◌, List, [], ◌∷◌, ◌++◌, length, take, drop}
use Rattle.words.specs.Bits.{at}
use Rattle.words.specs.Turning.{tabulate}

-- the number that these bytes make
unfoldable pub number_of : List ℕ → ℕ
number_of [] = 0
number_of (byte ∷ bytes) = byte + 256 * number_of bytes

-- the low bytes of a number, this many
unfoldable pub bytes_of : ℕ → ℕ → List ℕ
bytes_of zero number = []
bytes_of (suc count) number = number % 256 ∷ bytes_of count (number / 256)

-- each word in 8 bytes
unfoldable pub word_bytes : List ℕ → List ℕ
word_bytes [] = []
word_bytes (word ∷ words) = bytes_of 8 word ++ word_bytes words

-- the number in this many bytes of a file, from an offset on
unfoldable pub number_at : List ℕ → (offset count : ℕ) → ℕ
number_at file offset count = number_of (take count (drop offset file))

-- this many words, 8 bytes each, from an offset on
abbrev pub words_at : List ℕ → (offset count : ℕ) → List ℕ
words_at file offset count = tabulate count (λ t. number_at file (offset + 8 * t) 8)

-- a list of bytes
abbrev pub AllBytes : List ℕ → Type 0
AllBytes file = (i : ℕ) → i < length file → at file i < 256
