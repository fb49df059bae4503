-- The scan of a vector, as it is filled: the scan by which every cell gets 0, and then the drivers' clocks.
use Rattle.std.proofs.Common.{◌≡◌, refl, sym, ap, ap₂, ◌∙◌, Bool, true, false, ◌⊎◌, inl, inr, ⊎_elim, ◌≢◌, List, ℕ}
use Rattle.std.proofs.Common.{zero, suc, ◌+◌, ◌-◌, ◌≤◌, ◌<◌, not-suc-le-zero, arith, eqb, length, get_or, set}
use Rattle.std.proofs.Common.{replicate, length-set, get_or-set_same, get_or-set_other, below_more, eq-eqb, ne_eqb}
use Rattle.std.proofs.Common.{eqb-true}
use lib.ListN.{length-replicate}
use borrow.Author.Tests.{eqb-false}
use Rattle.words.specs.Bits.{has, bit_value, at}
use Rattle.words.proofs.Tests.{less_or_not, cases}
use Rattle.scan_chain.specs.Scans.{clock, scan, cell_bit, cells_by, contents, all_zero}
use Rattle.scan_chain.specs.Cells.{Distinct, BeginsWith}
use Rattle.scan_chain.proofs.CellContents.{cells_size, cells_at, scan_size, driver_or_not, driver_bit, other_bit}
use Rattle.scan_chain.proofs.ScanBytes.{scan_start_at, scan_shift_at, scan_end_at, scan_same_at}

equal_or_not : (a b : ℕ) → (a ≡ b) ⊎ (a ≢ b)
equal_or_not a b = ⊎_elim (λ e. inl (eqb-true a b e)) (λ e. inr (eqb-false a b e)) (cases (eqb a b))

-- ---- every cell gets 0

pub zeros_at : (n i : ℕ) → at (replicate n 0) i ≡ 0
zeros_at zero i = refl
zeros_at (suc n) zero = refl
zeros_at (suc n) (suc i) = zeros_at n i

-- the bytes with a 1 at each of three indices
abbrev blank : List ℕ
blank = replicate 205 0

abbrev marked : ℕ → List ℕ
marked L = set (set (set blank 0 1) (L + 2) 1) (L + 3) 1

unmarked : (L i : ℕ) → i ≢ 0 → i ≢ L + 2 → i ≢ L + 3 → at (marked L) i ≡ 0
unmarked L i a b c =
    get_or-set_other (set (set blank 0 1) (L + 2) 1) (L + 3) i 1 0 c
    ∙ get_or-set_other (set blank 0 1) (L + 2) i 1 0 b
    ∙ get_or-set_other blank 0 i 1 0 a ∙ zeros_at 205 i

module _ (L : ℕ) (most : L ≤ 200) where
  size₁ : length (set blank 0 1) ≡ 205
  size₁ = length-set blank 0 1 ∙ length-replicate {A = ℕ} 205 0

  size₂ : length (set (set blank 0 1) (L + 2) 1) ≡ 205
  size₂ = length-set (set blank 0 1) (L + 2) 1 ∙ size₁

  first_marked : at (marked L) 0 ≡ 1
  first_marked =
      get_or-set_other (set (set blank 0 1) (L + 2) 1) (L + 3) 0 1 0 (λ e. omega (arith, e))
      ∙ get_or-set_other (set blank 0 1) (L + 2) 0 1 0 (λ e. omega (arith, e))
      ∙ get_or-set_same blank 0 1 0 (let n = length-replicate {A = ℕ} 205 0 in omega (arith, n))

  shift_marked : at (marked L) (L + 2) ≡ 1
  shift_marked =
      get_or-set_other (set (set blank 0 1) (L + 2) 1) (L + 3) (L + 2) 1 0 (λ e. omega (arith, e))
      ∙ get_or-set_same (set blank 0 1) (L + 2) 1 0 (omega (arith, size₁))

  exit_marked : at (marked L) (L + 3) ≡ 1
  exit_marked = get_or-set_same (set (set blank 0 1) (L + 2) 1) (L + 3) 1 0 (omega (arith, size₂))

  abbrev zero_cells : List Bool
  zero_cells = cells_by L (λ cell. false)

  -- TMS alone: 1 where marked, else 0
  one : (b : Bool) → b ≡ true → clock b false ≡ 1
  unfolding clock bit_value
  one b e = rw e

  none : (b : Bool) → b ≡ false → clock b false ≡ 0
  unfolding clock bit_value
  none b e = rw e

  module _ (some : 0 < L) (i : ℕ) where
    at_start : i < 3 → at (marked L) i ≡ at (scan zero_cells) i
    at_start l = ⊎_elim
        (λ z. ap (at (marked L)) z ∙ first_marked ∙ sym (scan_start_at zero_cells i l ∙ one (eqb i 0) (eq-eqb i 0 z)))
        (λ z. unmarked L i z (λ e. omega (arith, e)) (λ e. omega (arith, e))
        ∙ sym (scan_start_at zero_cells i l ∙ none (eqb i 0) (ne_eqb i 0 z)))
        (equal_or_not i 0)

    module _ (j : ℕ) (q : i ≡ suc (suc (suc j))) where
      shift_clock : j < L → at (scan zero_cells) i ≡ clock (eqb (j + 1) L) false
      shift_clock l =
          let size = cells_size L (λ cell. false) in
          scan_shift_at zero_cells i j q (omega (arith, size))
          ∙ ap₂ (λ (n : ℕ) (b : Bool). clock (eqb (j + 1) n) b) size (cells_at L (λ cell. false) j l)

      in_shift : j < L → at (marked L) i ≡ at (scan zero_cells) i
      in_shift l = ⊎_elim
          (λ z. let w : i ≡ L + 2 = omega arith in
          ap (at (marked L)) w ∙ shift_marked ∙ sym (shift_clock l ∙ one (eqb (j + 1) L) (eq-eqb (j + 1) L z)))
          (λ z. unmarked L i (λ e. omega (arith, e)) (λ e. z (omega (arith, e))) (λ e. omega (arith, e))
          ∙ sym (shift_clock l ∙ none (eqb (j + 1) L) (ne_eqb (j + 1) L z)))
          (equal_or_not (j + 1) L)

      end_clock : L ≤ j → j < L + 2 → at (scan zero_cells) i ≡ clock (eqb j L) false
      end_clock l m =
          let size = cells_size L (λ cell. false) in
          scan_end_at zero_cells i j q (omega (arith, size)) (omega (arith, size)) ∙ ap (λ (n : ℕ). clock (eqb j n) false) size

      at_end : L ≤ j → j < L + 2 → at (marked L) i ≡ at (scan zero_cells) i
      at_end l m = ⊎_elim
          (λ z. let w : i ≡ L + 3 = omega arith in
          ap (at (marked L)) w ∙ exit_marked ∙ sym (end_clock l m ∙ one (eqb j L) (eq-eqb j L z)))
          (λ z. unmarked L i (λ e. omega (arith, e)) (λ e. omega (arith, e)) (λ e. z (omega (arith, e)))
          ∙ sym (end_clock l m ∙ none (eqb j L) (ne_eqb j L z)))
          (equal_or_not j L)

  pub zero_scan : 0 < L → BeginsWith (marked L) (scan (cells_by L (λ cell. false)))
  zero_scan some i l =
      let size = cells_size L (λ cell. false) in
      let whole = scan_size zero_cells in
      let within : i < L + 5 = omega (arith, size, whole, l) in ⊎_elim
      (λ low. at_start some i low)
      (λ high. let j = i - 3 in let q : i ≡ suc (suc (suc j)) = omega arith in
      ⊎_elim (λ m. in_shift some i j q m) (λ m. at_end some i j q m (omega arith)) (less_or_not j L))
      (less_or_not i 3)

-- ---- the drivers' clocks

-- the clocks of the first drivers are put
pub record DriversPut (L : ℕ) (drivers : List ℕ) (vector : ℕ) (list : List ℕ) (count : ℕ) : Type 0 where
  pub size : length list ≡ 205
  pub within : count ≤ length drivers
  pub put : (i : ℕ) → i < count → at list (3 + at drivers i) ≡ clock (eqb (at drivers i + 1) L) (has vector i)
  pub other : (k : ℕ) → k < L + 5 → ((i : ℕ) → i < count → k ≢ 3 + at drivers i)
      → at list k ≡ at (scan (cells_by L (λ cell. false))) k

pub no_driver_put : (L : ℕ) (drivers : List ℕ) (vector : ℕ) (list : List ℕ) → length list ≡ 205
    → BeginsWith list (scan (cells_by L (λ cell. false))) → DriversPut L drivers vector list 0
no_driver_put L drivers vector list e same = record {
  size = e;
  within = omega arith;
  put = λ i l. absurd (not-suc-le-zero l);
  other = λ k l none. same k (let whole = scan_size (cells_by L (λ cell. false)) in let n = cells_size L (λ cell. false) in omega arith);
}

module _ (L : ℕ) (drivers : List ℕ) (vector : ℕ) (list : List ℕ) (count : ℕ) (most : L ≤ 200) (d : Distinct L drivers)
    (p : DriversPut L drivers vector list count) where
  pub driver_put : (byte : ℕ) → count < length drivers → byte ≡ clock (eqb (at drivers count + 1) L) (has vector count)
      → DriversPut L drivers vector (set list (3 + at drivers count) byte) (count + 1)
  driver_put byte l e =
      let here = 3 + at drivers count in
      let inside = d.inside count l in record {
        size = length-set list here byte ∙ p.size;
        within = omega arith;
        put = below_more (λ i. at (set list here byte) (3 + at drivers i) ≡ clock (eqb (at drivers i + 1) L) (has vector i)) count
            (λ i m. get_or-set_other list here (3 + at drivers i) byte 0
            (λ same. let q = d.apart i count (omega arith) l (omega (arith, same)) in omega (arith, q, m)) ∙ p.put i m)
            (get_or-set_same list here byte 0 (omega (arith, p.size)) ∙ e);
        other = λ k m none. get_or-set_other list here k byte 0 (none count (omega arith)) ∙ p.other k m (λ i a. none i (omega arith));
      }

  pub drivers_put : length drivers ≤ count → BeginsWith list (scan (contents L drivers all_zero vector))
  drivers_put l k m = ⊎_elim
      (λ low. untouched (λ i a. λ e. omega (arith, e)) (λ j q a. absurd (omega (arith, q))))
      (λ high. let j = k - 3 in let q : k ≡ 3 + j = omega arith in ⊎_elim
      (λ w. driven j q w.0 w.1 w.2)
      (λ none. untouched (λ i a e. none i a (omega (arith, e))) (λ z e a. let same : z ≡ j = omega (arith, e) in
      carries_nothing z a (λ i b. rw same (none i b))))
      (driver_or_not drivers j))
      (less_or_not k 3)
    where
      zeros : List Bool
      zeros = cells_by L (λ cell. false)

      whole : List Bool
      whole = contents L drivers all_zero vector

      bound : k < L + 5
      bound = let a = scan_size whole in let b = cells_size L (cell_bit drivers all_zero vector) in omega arith

      carries_nothing : (z : ℕ) → z < length zeros → ((i : ℕ) → i < length drivers → at drivers i ≢ z)
          → get_or zeros z false ≡ get_or whole z false
      carries_nothing z a none =
          let n = cells_size L (λ cell. false) in
          let inside : z < L = omega (arith, n, a) in
          cells_at L (λ cell. false) z inside
          ∙ sym (cells_at L (cell_bit drivers all_zero vector) z inside ∙ other_bit drivers all_zero vector z none)

      untouched : ((i : ℕ) → i < length drivers → k ≢ 3 + at drivers i)
          → ((j : ℕ) → k ≡ 3 + j → j < length zeros → get_or zeros j false ≡ get_or whole j false) → at list k ≡ at (scan whole) k
      untouched none same =
          p.other k bound (λ i a. none i (omega (arith, a, p.within)))
          ∙ scan_same_at zeros whole (cells_size L (λ cell. false) ∙ sym (cells_size L (cell_bit drivers all_zero vector))) k
          (let n = cells_size L (λ cell. false) in omega (arith, n, bound)) same

      driven : (j : ℕ) → k ≡ 3 + j → (i : ℕ) → i < length drivers → at drivers i ≡ j → at list k ≡ at (scan whole) k
      driven j q i a e =
          let n = cells_size L (cell_bit drivers all_zero vector) in
          let inside = d.inside i a in
          let place : k ≡ 3 + at drivers i = omega (arith, q, e) in
          ap (at list) place ∙ p.put i (omega (arith, a, l))
          ∙ ap₂ (λ (n : ℕ) (b : Bool). clock (eqb (at drivers i + 1) n) b) (sym n)
          (sym (cells_at L (cell_bit drivers all_zero vector) (at drivers i) inside ∙ driver_bit L drivers all_zero d vector i a))
          ∙ sym (scan_shift_at whole k (at drivers i) (omega (arith, place)) (omega (arith, n, inside)))
