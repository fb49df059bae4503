-- Numbers as text in base ten, without leading zeros. A text is a list of bytes.
use Rattle.std.specs.Prelude.{ℕ, zero, suc, ◌+◌, ◌/◌, ◌%◌, true, false, List, [], ◌∷◌, ◌++◌, ltb}

-- the digit's character, `0` to `9`
abbrev pub digit_byte : ℕ → ℕ
digit_byte d = 48 + d

-- a number of at most this many digits
unfoldable pub digits : ℕ → ℕ → List ℕ
digits zero n = []
digits (suc most) n = elim (ltb n 10) [ true ↦ digit_byte n ∷ [] | false ↦ digits most (n / 10) ++ digit_byte (n % 10) ∷ [] ]

-- a word has at most 20 digits
unfoldable pub decimal : ℕ → List ℕ
decimal n = digits 20 n

abbrev pub space : ℕ
space = 32

abbrev pub newline : ℕ
newline = 10

abbrev pub spaced : ℕ → List ℕ
spaced n = space ∷ decimal n

-- numbers with a space before each, then a newline
unfoldable pub numbers_end : List ℕ → List ℕ
numbers_end [] = newline ∷ []
numbers_end (n ∷ ns) = spaced n ++ numbers_end ns
