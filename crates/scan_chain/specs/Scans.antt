-- The clocks for a test set: one scan for each vector, and a last one that repeats the last vector. L is the number of
-- cells of the chain, `drivers` has the cell of each net's driver, and `held` the bit, a byte 0 or 1, of every other
-- cell. Its entries at drivers' cells are of no account, and a cell that it does not reach holds 0.
use Rattle.std.specs.Prelude.{ℕ, ◌+◌, ◌*◌, ◌-◌, ◌<◌, ◌≡◌, ◌≢◌, Bool, true, false, List, [], ◌∷◌, ◌++◌, map, eqb, length, get_or}
use Rattle.words.specs.Bits.{has, bit_value, at}
use Rattle.words.specs.Searching.{position}
use Rattle.words.specs.Turning.{tabulate}
use Rattle.std.specs.Prelude.{Option}
use Rattle.std.specs.Prelude.{Some, None}

-- ---- bytes

-- one clock: TMS in bit 0, TDI in bit 1
unfoldable pub clock : (tms tdi : Bool) → ℕ
clock tms tdi = bit_value tms + 2 * bit_value tdi

unfoldable pub is_empty : {A : Type 0} → List A → Bool
is_empty [] = true
is_empty (x ∷ xs) = false

-- one shift clock for each cell, cell 0's first, TMS 1 on the last
unfoldable pub shift_clocks : (cells : List Bool) → List ℕ
shift_clocks [] = []
shift_clocks (bit ∷ bits) = clock (is_empty bits) bit ∷ shift_clocks bits

-- TMS 1, 0, 0; the shift; TMS 1, 0. TDI is 0 outside the shift.
unfoldable pub scan : (cells : List Bool) → List ℕ
scan cells =
    clock true false ∷ clock false false ∷ clock false false
    ∷ (shift_clocks cells ++ clock true false ∷ clock false false ∷ [])

unfoldable pub scans : List (List Bool) → List ℕ
scans [] = []
scans (cells ∷ more) = scan cells ++ scans more

-- the clocks of one scan, and of a test set of v vectors
abbrev pub scan_length : ℕ → ℕ
scan_length L = L + 5

abbrev pub clock_count : (v L : ℕ) → ℕ
clock_count v L = (v + 1) * scan_length L

-- ---- cells

-- the bit that a cell holds, and the list by which all hold 0
abbrev pub holds : (held : List ℕ) → ℕ → Bool
holds held cell = eqb (at held cell) 1

abbrev pub all_zero : List ℕ
all_zero = []

-- what a cell gets: its driver's bit, and the bit that it holds where it is no driver's
unfoldable pub bit_found : ℕ → Bool → Option ℕ → Bool
bit_found vector bit (Some i) = has vector i
bit_found vector bit None = bit

unfoldable pub cell_bit : (drivers held : List ℕ) → (vector cell : ℕ) → Bool
cell_bit drivers held vector cell = bit_found vector (holds held cell) (position cell drivers)

-- the contents of a chain of L cells by a rule for each, and for a vector
unfoldable pub cells_by : ℕ → (ℕ → Bool) → List Bool
cells_by L bit = map bit (tabulate L (λ cell. cell))

abbrev pub contents : ℕ → (drivers held : List ℕ) → ℕ → List Bool
contents L drivers held vector = cells_by L (cell_bit drivers held vector)

-- all cells but the drivers' have the bits held
abbrev pub Holding : ℕ → (drivers held : List ℕ) → List Bool → Type 0
Holding L drivers held cells =
    (cell : ℕ) → cell < L → ((i : ℕ) → i < length drivers → at drivers i ≢ cell) → get_or cells cell false ≡ holds held cell

-- the contents for a vector, said of the cells: driver i's cell has bit i of it, and all others the bits held
pub record Carries (L : ℕ) (drivers held : List ℕ) (vector : ℕ) (cells : List Bool) : Type 0 where
  pub size : length cells ≡ L
  pub driver : (i : ℕ) → i < length drivers → get_or cells (at drivers i) false ≡ has vector i
  pub other : Holding L drivers held cells

-- ---- the whole

unfoldable pub last_of : List ℕ → ℕ
last_of vectors = at vectors (length vectors - 1)

-- the vectors in order, the last one twice
unfoldable pub scanned : List ℕ → List ℕ
scanned vectors = vectors ++ last_of vectors ∷ []

unfoldable pub clocks : ℕ → (drivers held vectors : List ℕ) → List ℕ
clocks L drivers held vectors = scans (map (contents L drivers held) (scanned vectors))
