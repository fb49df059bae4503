-- Rows 18 and 19, each as document 02 says it and as a test. `drivers` and `receivers` have the cells of the drivers and
-- of the receivers.
use Rattle.std.specs.Prelude.{ℕ, ◌<◌, ◌≤◌, ◌≡◌, ◌⊎◌, ◌≢◌, Bool, not, ◌||◌, List, ◌++◌, eqb, leb, ltb, length}
use Rattle.words.specs.Bits.{at}
use Rattle.words.specs.Searching.{any}
use Rattle.scan_chain.specs.Scans.{clock_count}

-- ---- row 18

-- a cell outside the chain, or used for two purposes
abbrev pub WrongCell : ℕ → List ℕ → Type 0
WrongCell L cells =
    (i : ℕ) × (i < length cells) × ((L ≤ at cells i) ⊎ ((j : ℕ) × (j < i) × (at cells j ≡ at cells i)))

-- for n nets and m receivers: L outside 2 to the most, the driver cells not exactly one for each net or the receiver
-- cells not exactly one for each receiver, or a wrong cell
abbrev pub BadChain : (most n m L : ℕ) → (drivers receivers : List ℕ) → Type 0
BadChain most n m L drivers receivers =
    (L < 2) ⊎ ((most < L) ⊎ ((length drivers ≢ n) ⊎ ((length receivers ≢ m) ⊎ WrongCell L (drivers ++ receivers))))

abbrev pub Row18 : (n m L : ℕ) → (drivers receivers : List ℕ) → Type 0
Row18 n m L drivers receivers = BadChain 200 n m L drivers receivers

unfoldable pub used_before : (cells : List ℕ) → ℕ → Bool
used_before cells i = any i (λ j. eqb (at cells j) (at cells i))

unfoldable pub has_wrong_cell : ℕ → List ℕ → Bool
has_wrong_cell L cells = any (length cells) (λ i. leb L (at cells i) || used_before cells i)

unfoldable pub bad_chain : (most n m L : ℕ) → (drivers receivers : List ℕ) → Bool
bad_chain most n m L drivers receivers =
    let wrong = has_wrong_cell L (drivers ++ receivers) in
    ltb L 2 || (ltb most L || (not (eqb (length drivers) n) || (not (eqb (length receivers) m) || wrong)))

-- ---- row 19

-- bytes that are not as many as asked, or of which one is above 1
abbrev pub NotBits : ℕ → List ℕ → Type 0
NotBits count bytes = (length bytes ≢ count) ⊎ ((i : ℕ) × (i < length bytes) × (1 < at bytes i))

-- the TDO bytes are not as many as the clocks, or one is above 1
abbrev pub Row19 : (v L : ℕ) → (tdo : List ℕ) → Type 0
Row19 v L tdo = NotBits (clock_count v L) tdo

unfoldable pub above_one : List ℕ → Bool
above_one bytes = any (length bytes) (λ i. ltb 1 (at bytes i))

unfoldable pub not_bits : ℕ → List ℕ → Bool
not_bits count bytes = not (eqb (length bytes) count) || above_one bytes

abbrev pub bad_tdo : (v L : ℕ) → (tdo : List ℕ) → Bool
bad_tdo v L tdo = not_bits (clock_count v L) tdo
