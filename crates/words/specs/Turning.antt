-- Turning parallel words into sequential ones, and back: one and the same exchange of rows and columns.
use Rattle.std.specs.Prelude.{ℕ, zero, suc, ◌<◌, ◌≡◌, List, [], ◌∷◌, map}
use Rattle.words.specs.Bits.{has, word, at}

-- f 0, f 1, .. f (n - 1)
unfoldable pub tabulate : ℕ → (ℕ → ℕ) → List ℕ
tabulate zero f = []
tabulate (suc n) f = f 0 ∷ tabulate n (λ i. f (suc i))

-- bit i of each word, in order: of the vectors it is the sequential word of net i, of the responses that of receiver i,
-- of sequential words the parallel word of vector i
unfoldable pub column : List ℕ → ℕ → ℕ
column ws i = word (map (λ w. has w i) ws)

-- the first n entries of a list are the columns of these words: of vectors, what each net drives along them
abbrev pub Columns : ℕ → List ℕ → List ℕ → Type 0
Columns n ws columns = (i : ℕ) → i < n → at columns i ≡ column ws i

-- words of n bits turned into n words
unfoldable pub transpose : ℕ → List ℕ → List ℕ
transpose n ws = tabulate n (column ws)
