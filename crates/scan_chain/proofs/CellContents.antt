-- The contents of the cells for a vector, and how many clocks there are.
use Rattle.std.proofs.Common.{◌≡◌, refl, sym, ap, ◌∙◌, Bool, true, false, ◌⊎◌, inl, inr, ◌≢◌, List, [], ◌∷◌, map, ℕ}
use Rattle.std.proofs.Common.{suc, ◌+◌, ◌*◌, ◌^◌, ◌<◌, zero-le, suc-mul, add-one, arith, eqb, length, get_or}
use Rattle.std.proofs.Common.{length-append, eqb-true}
use lib.ListN.{length-map}
use Rattle.words.specs.Bits.{has, word, at}
use Rattle.words.specs.Searching.{position}
use Rattle.words.specs.Turning.{tabulate}
use Rattle.std.specs.Prelude.{Option}
use Rattle.std.specs.Prelude.{Some, None}
use Rattle.words.proofs.Tests.{decides_equal, test_fails, test_passes, contrary}
use Rattle.words.proofs.Searching.{Least, first, nowhere, position_is, least_found, least_missing}
use Rattle.words.proofs.Bits.{words_equal}
use Rattle.words.proofs.Making.{map_at, has_made, made_below}
use Rattle.words.proofs.Columns.{length_tabulate, tabulate_at}
use Rattle.scan_chain.specs.Scans.{clock, shift_clocks, scan, scans, clock_count, holds, bit_found, cell_bit, cells_by, contents}
use Rattle.scan_chain.specs.Scans.{Holding, Carries, last_of, scanned, clocks}
use Rattle.scan_chain.specs.Board.{word_of}
use Rattle.scan_chain.specs.Cells.{Distinct}
use Rattle.scan_chain.proofs.Scanning.{AllSized}

-- ---- cells

module _ (L : ℕ) (bit : ℕ → Bool) where
  pub cells_size : length (cells_by L bit) ≡ L
  unfolding cells_by
  cells_size = length-map (tabulate L (λ c. c)) bit ∙ length_tabulate L (λ c. c)

  pub cells_at : (c : ℕ) → c < L → get_or (cells_by L bit) c false ≡ bit c
  unfolding cells_by
  cells_at c l =
      let size = length_tabulate L (λ c. c) in
      map_at bit false (tabulate L (λ c. c)) c (omega arith) ∙ ap bit (tabulate_at L (λ c. c) c l)

-- a cell's number stands first at its own place
pub position_own : (L : ℕ) (numbers : List ℕ) → Distinct L numbers → (i : ℕ) → i < length numbers → position (at numbers i) numbers ≡ Some i
unfolding position
position_own L numbers d i l =
    least_found (λ t. eqb (at numbers t) (at numbers i)) (length numbers) i l
    (λ z m. test_fails (decides_equal (at numbers z) (at numbers i)) (λ e. let q = d.apart z i (omega arith) l e in omega arith))
    (test_passes (decides_equal (at numbers i) (at numbers i)) refl)

-- a cell that is no driver's stands nowhere among them
pub position_none : (numbers : List ℕ) (cell : ℕ) → ((i : ℕ) → i < length numbers → at numbers i ≢ cell)
    → position cell numbers ≡ None
unfolding position
position_none numbers cell none =
    least_missing (λ t. eqb (at numbers t) cell) (length numbers)
    (λ z l. test_fails (decides_equal (at numbers z) cell) (none z l))

-- a cell is a driver's, or no driver's
pub driver_or_not : (numbers : List ℕ) (cell : ℕ)
    → ((i : ℕ) × (i < length numbers) × (at numbers i ≡ cell)) ⊎ ((i : ℕ) → i < length numbers → at numbers i ≢ cell)
driver_or_not numbers cell = go (position cell numbers) (position_is cell numbers)
  where
    go : (s : Option ℕ) → Least (λ t. eqb (at numbers t) cell) 0 (length numbers) s
        → ((i : ℕ) × (i < length numbers) × (at numbers i ≡ cell)) ⊎ ((i : ℕ) → i < length numbers → at numbers i ≢ cell)
    go (Some i) (first a b c g) = inl (i, b, eqb-true (at numbers i) cell c)
    go None (nowhere g) = inr (λ i l e. contrary (test_passes (decides_equal (at numbers i) cell) e) (g i (zero-le {n = i}) l))

module _ (L : ℕ) (drivers held : List ℕ) (d : Distinct L drivers) (vector : ℕ) where
  -- what a driver's cell gets, and another
  pub driver_bit : (i : ℕ) → i < length drivers → cell_bit drivers held vector (at drivers i) ≡ has vector i
  unfolding cell_bit bit_found
  driver_bit i l = ap (bit_found vector (holds held (at drivers i))) (position_own L drivers d i l)

  -- the driver cells drive the vector
  pub driven_back : vector < 2 ^ length drivers → word_of drivers (contents L drivers held vector) ≡ vector
  unfolding word_of
  driven_back h =
      words_equal (length drivers) (word (map (λ c. get_or (contents L drivers held vector) c false) drivers)) vector
      (made_below (λ c. get_or (contents L drivers held vector) c false) drivers) h
      (λ i l. has_made (λ c. get_or (contents L drivers held vector) c false) drivers i l
      ∙ cells_at L (cell_bit drivers held vector) (at drivers i) (d.inside i l) ∙ driver_bit i l)

pub other_bit : (drivers held : List ℕ) (vector cell : ℕ) → ((i : ℕ) → i < length drivers → at drivers i ≢ cell)
    → cell_bit drivers held vector cell ≡ holds held cell
unfolding cell_bit bit_found
other_bit drivers held vector cell none = ap (bit_found vector (holds held cell)) (position_none drivers cell none)

-- the contents, said of the cells
pub contents_hold : (L : ℕ) (drivers held : List ℕ) (vector : ℕ) → Holding L drivers held (contents L drivers held vector)
contents_hold L drivers held vector cell l none =
    cells_at L (cell_bit drivers held vector) cell l ∙ other_bit drivers held vector cell none

pub contents_carry : (L : ℕ) (drivers held : List ℕ) → Distinct L drivers → (vector : ℕ)
    → Carries L drivers held vector (contents L drivers held vector)
contents_carry L drivers held d vector = record {
  size = cells_size L (cell_bit drivers held vector);
  driver = λ i l. cells_at L (cell_bit drivers held vector) (at drivers i) (d.inside i l) ∙ driver_bit L drivers held d vector i l;
  other = contents_hold L drivers held vector;
}

-- ---- sizes

pub shift_size : (cells : List Bool) → length (shift_clocks cells) ≡ length cells
unfolding shift_clocks
shift_size [] = refl
shift_size (b ∷ bs) = ap suc (shift_size bs)

pub scan_size : (cells : List Bool) → length (scan cells) ≡ length cells + 5
unfolding scan
scan_size cells = omega (arith, length-append (shift_clocks cells) (clock true false ∷ clock false false ∷ []), shift_size cells)

pub scans_size : (L : ℕ) (all : List (List Bool)) → AllSized L all → length (scans all) ≡ length all * (L + 5)
unfolding scans
scans_size L [] h = omega arith
scans_size L (cells ∷ more) h = omega (arith, length-append (scan cells) (scans more), scan_size cells, scans_size L more h.1, suc-mul (length more) (L + 5))

-- contents of L cells for each vector
pub all_sized : (L : ℕ) (cells : ℕ → List Bool) → ((vector : ℕ) → length (cells vector) ≡ L) → (vectors : List ℕ)
    → AllSized L (map cells vectors)
all_sized L cells size [] = tt
all_sized L cells size (x ∷ vectors) = (size x, all_sized L cells size vectors)

pub contents_sized : (L : ℕ) (drivers held vectors : List ℕ) → AllSized L (map (contents L drivers held) vectors)
contents_sized L drivers held =
    all_sized L (contents L drivers held) (λ vector. cells_size L (cell_bit drivers held vector))

pub scanned_size : (vectors : List ℕ) → length (scanned vectors) ≡ suc (length vectors)
unfolding scanned
scanned_size vectors = omega (arith, length-append vectors (last_of vectors ∷ []))

pub clocks_size : (L : ℕ) (drivers held vectors : List ℕ) → length (clocks L drivers held vectors) ≡ clock_count (length vectors) L
unfolding clocks
clocks_size L drivers held vectors =
    scans_size L (map (contents L drivers held) (scanned vectors)) (contents_sized L drivers held (scanned vectors))
    ∙ ap (λ (n : ℕ). n * (L + 5)) (length-map (scanned vectors) (contents L drivers held) ∙ scanned_size vectors ∙ sym (add-one (length vectors)))
