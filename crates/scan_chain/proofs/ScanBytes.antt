-- The bytes of a scan by their index.
use Rattle.std.proofs.Common.{◌≡◌, refl, sym, ap, ap₂, ◌∙◌, Bool, true, false, ⊎_elim, List, [], ◌∷◌, ◌++◌, ℕ, zero}
use Rattle.std.proofs.Common.{suc, ◌+◌, ◌-◌, ◌*◌, ◌≤◌, ◌<◌, not-suc-le-zero, le_of_suc-le-suc, add-one, arith, eqb}
use Rattle.std.proofs.Common.{length, get_or, get_or-append-add, eq-eqb, ne_eqb}
use mir.Val.{bool_byte}
use lib.Dec.{eqb-suc-suc, eqb-zero-suc}
use lib.ListN.{get_or-append}
use Rattle.words.specs.Bits.{bit_value, at}
use Rattle.words.proofs.Tests.{less_or_not}
use Rattle.scan_chain.specs.Scans.{clock, is_empty, shift_clocks, scan}
use Rattle.scan_chain.proofs.CellContents.{shift_size}

-- ---- one clock

pub clock_byte : (tms tdi : Bool) → bool_byte tms + 2 * bool_byte tdi ≡ clock tms tdi
unfolding clock bit_value
clock_byte true true = refl
clock_byte true false = refl
clock_byte false true = refl
clock_byte false false = refl

-- ---- a scan by its index

is_last : {A : Type 0} (xs : List A) → is_empty xs ≡ eqb 1 (suc (length xs))
unfolding is_empty
is_last [] = refl
is_last (x ∷ xs) = sym (eqb-suc-suc 0 (suc (length xs)) ∙ eqb-zero-suc (length xs))

shift_at : (cells : List Bool) (j : ℕ) → j < length cells → at (shift_clocks cells) j ≡ clock (eqb (suc j) (length cells)) (get_or cells j false)
unfolding shift_clocks
shift_at [] j l = absurd (not-suc-le-zero l)
shift_at (b ∷ bs) zero l = ap (λ (x : Bool). clock x b) (is_last bs)
shift_at (b ∷ bs) (suc j) l = shift_at bs j (le_of_suc-le-suc l) ∙ ap (λ (x : Bool). clock x (get_or bs j false)) (sym (eqb-suc-suc (suc j) (length bs)))

pub scan_start_at : (cells : List Bool) (i : ℕ) → i < 3 → at (scan cells) i ≡ clock (eqb i 0) false
unfolding scan
scan_start_at cells zero l = refl
scan_start_at cells (suc zero) l = refl
scan_start_at cells (suc (suc zero)) l = refl
scan_start_at cells (suc (suc (suc i))) l = absurd (not-suc-le-zero {n = i} (omega arith))

module _ (cells : List Bool) (i j : ℕ) (e : i ≡ suc (suc (suc j))) where
  pub scan_shift_at : j < length cells → at (scan cells) i ≡ clock (eqb (j + 1) (length cells)) (get_or cells j false)
  unfolding scan
  scan_shift_at l =
      ap (at (scan cells)) e ∙ get_or-append (shift_clocks cells) _ 0 j (omega (arith, shift_size cells)) ∙ shift_at cells j l
      ∙ ap (λ (n : ℕ). clock (eqb n (length cells)) (get_or cells j false)) (sym (add-one j))

  pub scan_end_at : length cells ≤ j → j < length cells + 2 → at (scan cells) i ≡ clock (eqb j (length cells)) false
  unfolding scan
  scan_end_at l m = go (j - length cells) (omega arith)
    where
      go : (d : ℕ) → j ≡ length cells + d → at (scan cells) i ≡ clock (eqb j (length cells)) false
      go zero q =
          let same : j ≡ length (shift_clocks cells) + 0 = omega (arith, shift_size cells) in
          ap (at (scan cells)) e ∙ ap (at (shift_clocks cells ++ clock true false ∷ clock false false ∷ [])) same ∙ get_or-append-add (shift_clocks cells) _ 0 0
          ∙ ap (λ (b : Bool). clock b false) (sym (eq-eqb j (length cells) (omega arith)))
      go (suc zero) q =
          let same : j ≡ length (shift_clocks cells) + 1 = omega (arith, shift_size cells) in
          let other : j ≡ length cells → ⊥ = λ z. omega arith in
          ap (at (scan cells)) e ∙ ap (at (shift_clocks cells ++ clock true false ∷ clock false false ∷ [])) same ∙ get_or-append-add (shift_clocks cells) _ 1 0
          ∙ ap (λ (b : Bool). clock b false) (sym (ne_eqb j (length cells) other))
      go (suc (suc d)) q = absurd (not-suc-le-zero {n = 0} (omega arith))

-- two scans have the same byte where they carry the same bit
pub scan_same_at : (cells other : List Bool) → length cells ≡ length other → (i : ℕ) → i < length cells + 5
    → ((j : ℕ) → i ≡ 3 + j → j < length cells → get_or cells j false ≡ get_or other j false) → at (scan cells) i ≡ at (scan other) i
scan_same_at cells other e i l same = ⊎_elim
    (λ low. scan_start_at cells i low ∙ sym (scan_start_at other i low))
    (λ high. let j = i - 3 in let q : i ≡ suc (suc (suc j)) = omega arith in ⊎_elim
    (λ inside. scan_shift_at cells i j q inside
    ∙ ap₂ (λ (n : ℕ) (b : Bool). clock (eqb (j + 1) n) b) e (same j (omega arith) inside)
    ∙ sym (scan_shift_at other i j q (omega arith)))
    (λ past. scan_end_at cells i j q past (omega arith) ∙ ap (λ (n : ℕ). clock (eqb j n) false) e
    ∙ sym (scan_end_at other i j q (omega arith) (omega arith)))
    (less_or_not j (length cells)))
    (less_or_not i 3)
