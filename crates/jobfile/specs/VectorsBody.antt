-- The vectors' body, by its kind. Of kind 2 it has the vectors themselves, a parallel word (PTV) for each. Of kind 4 it
-- is stored net by net: a byte with the number of vectors, then a sequential word (STV) for each net.
use Rattle.std.specs.Prelude.{ℕ, ◌≡◌, ◌⊎◌, ◌≢◌, Bool, false, not, cond, ◌&&◌, ◌||◌, List, [], ◌∷◌, ◌++◌, eqb, length}
use Rattle.words.specs.Answers.{Answer, by_tests}
use Rattle.words.specs.Turning.{transpose}
use Rattle.network.specs.declared.Network.{Network}
use Rattle.network.specs.Rows.{NetworkRows, BadCount, HighBit, network_tests, bad_count, has_high_bit}
use Rattle.jobfile.specs.Bytes.{word_bytes}

-- the two kinds
abbrev pub VectorsKind : ℕ → Type 0
VectorsKind kind = (kind ≡ 2) ⊎ (kind ≡ 4)

abbrev pub vectors_kind : ℕ → Bool
vectors_kind kind = eqb kind 2 || eqb kind 4

abbrev pub net_by_net : ℕ → Bool
net_by_net kind = eqb kind 4

-- how many bytes stand before the words
abbrev pub lead : ℕ → ℕ
lead kind = cond (net_by_net kind) 1 0

-- the words of these vectors, and the vectors, this many, of such words
unfoldable pub words_of : (kind nets : ℕ) → List ℕ → List ℕ
words_of kind nets vectors = let turned = transpose nets vectors in cond (net_by_net kind) turned vectors

unfoldable pub vectors_of : (kind count : ℕ) → List ℕ → List ℕ
vectors_of kind count words = let turned = transpose count words in cond (net_by_net kind) turned words

-- how many vectors there are: of kind 2 as many as words
abbrev pub Counted : (kind count : ℕ) → List ℕ → Type 0
Counted kind count words = net_by_net kind ≡ false → count ≡ length words

-- the body
abbrev pub lead_bytes : (kind count : ℕ) → List ℕ
lead_bytes kind count = cond (net_by_net kind) (count ∷ []) []

unfoldable pub vectors_bytes : (kind nets : ℕ) → List ℕ → List ℕ
vectors_bytes kind nets vectors = lead_bytes kind (length vectors) ++ word_bytes (words_of kind nets vectors)

-- ---- the rows of a test set, 5, 6, 17, 20, 7 and 8, asked of the words of such a body

-- vectors: fewer than 1 or more than 64; net by net also if the words are not n
abbrev pub BodyRow7 : (kind nets count : ℕ) → List ℕ → Type 0
BodyRow7 kind nets count words = BadCount count ⊎ ((kind ≡ 4) × (length words ≢ nets))

abbrev pub bad_words : (kind nets count : ℕ) → List ℕ → Bool
bad_words kind nets count words = bad_count count || (net_by_net kind && not (eqb (length words) nets))

-- row 8 asks for a bit at or above this: n, or net by net the number of the vectors
abbrev pub width : (kind nets count : ℕ) → ℕ
width kind nets count = cond (net_by_net kind) count nets

abbrev pub BodyRows : Network → (k kind count : ℕ) → List ℕ → List (ℕ × Type 0)
BodyRows net k kind count words =
    NetworkRows net k ++ (7, BodyRow7 kind net.nets count words) ∷ (8, HighBit (width kind net.nets count) words) ∷ []

abbrev pub body_tests : Network → (k kind count : ℕ) → List ℕ → List (ℕ × Bool)
body_tests net k kind count words =
    network_tests net k ++ (7, bad_words kind net.nets count words) ∷ (8, has_high_bit (width kind net.nets count) words) ∷ []

abbrev pub body_admission : Network → (k kind count : ℕ) → List ℕ → Answer (Unit {0})
body_admission net k kind count words = by_tests (body_tests net k kind count words) tt
