-- The calls *turn*, v parallel words into n sequential ones, and *turn back*: rows 5, 7, 8, 12.
use Rattle.std.specs.Prelude.{ℕ, ◌^◌, ◌<◌, ◌≡◌, ◌⊎◌, ◌≢◌, Bool, not, ◌||◌, List, [], ◌∷◌, eqb, length}
use Rattle.words.specs.Answers.{Answer, by_tests}
use Rattle.words.specs.Bits.{has, at}
use Rattle.words.specs.Turning.{transpose}
use Rattle.network.specs.Reading.{network_of}
use Rattle.network.specs.Rows.{Row5, BadCount, Row7, HighBit, Row12, bad_net_count, bad_count, bad_vector_count}
use Rattle.network.specs.Rows.{has_high_bit, no_room}

-- Rows and columns exchanged: one word for each column, with one bit for each row. Of v parallel words (PTV) the rows
-- are the vectors and the columns the nets, and bit t of sequential word i (STV) is bit i of parallel word t.
pub record Exchanged (columns : ℕ) (rows words : List ℕ) : Type 0 where
  pub word_per_column : length words ≡ columns
  pub bit_per_row : (i : ℕ) → i < columns → at words i < 2 ^ length rows
  pub bits : (i t : ℕ) → i < columns → t < length rows → has (at words i) t ≡ has (at rows t) i

-- ---- *turn*

abbrev pub TurnRows : ℕ → List ℕ → ℕ → List (ℕ × Type 0)
TurnRows nets vectors room = (5, Row5 (network_of nets)) ∷ (7, Row7 vectors) ∷ (8, HighBit nets vectors) ∷ (12, Row12 nets room) ∷ []

abbrev pub bad_nets : ℕ → Bool
bad_nets nets = bad_net_count (network_of nets)

abbrev pub turn_tests : ℕ → List ℕ → ℕ → List (ℕ × Bool)
turn_tests nets vectors room =
    (5, bad_nets nets) ∷ (7, bad_vector_count vectors) ∷ (8, has_high_bit nets vectors) ∷ (12, no_room nets room) ∷ []

-- the call's answer, computed
unfoldable pub turn_answer : ℕ → List ℕ → ℕ → Answer (List ℕ)
turn_answer nets vectors room = by_tests (turn_tests nets vectors room) (transpose nets vectors)

-- ---- *turn back*

-- vectors: fewer than 1 or more than 64, or words that are not n
abbrev pub WrongWords : (nets count : ℕ) → List ℕ → Type 0
WrongWords nets count words = BadCount count ⊎ (length words ≢ nets)

abbrev pub TurnBackRows : (nets count : ℕ) → List ℕ → ℕ → List (ℕ × Type 0)
TurnBackRows nets count words room =
    (5, Row5 (network_of nets)) ∷ (7, WrongWords nets count words) ∷ (8, HighBit count words) ∷ (12, Row12 count room) ∷ []

abbrev pub wrong_words : (nets count : ℕ) → List ℕ → Bool
wrong_words nets count words = bad_count count || not (eqb (length words) nets)

abbrev pub turn_back_tests : (nets count : ℕ) → List ℕ → ℕ → List (ℕ × Bool)
turn_back_tests nets count words room =
    (5, bad_nets nets) ∷ (7, wrong_words nets count words) ∷ (8, has_high_bit count words) ∷ (12, no_room count room) ∷ []

-- the call's answer, computed
unfoldable pub turn_back_answer : (nets count : ℕ) → List ℕ → ℕ → Answer (List ℕ)
turn_back_answer nets count words room = by_tests (turn_back_tests nets count words room) (transpose count words)
