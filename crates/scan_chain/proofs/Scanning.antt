-- All scans, one after another.
use Rattle.std.proofs.Common.{◌≡◌, refl, sym, ap, ap₂, ◌∙◌, Bool, false, List, [], ◌∷◌, ◌++◌, map, ℕ, zero, suc, ◌+◌}
use Rattle.std.proofs.Common.{◌*◌, ◌<◌, suc-mul, le_of_suc-le-suc, not-suc-le-zero, arith, eqb, length, get_or}
use Rattle.std.proofs.Common.{length-append, get_or-append-add}
use lib.ListN.{length-map, get_or-map, get_or-append}
use Rattle.words.specs.Bits.{bit_value, at}
use Rattle.words.proofs.Bits.{bit_value_is, bit_value_below_two}
use Rattle.scan_chain.specs.Tap.{TapState, run_test_idle}
use Rattle.scan_chain.specs.BoundaryRegister.{Chain, Outside, Run, run}
use Rattle.scan_chain.specs.Scans.{scans}
use Rattle.scan_chain.specs.Responses.{shifted_out}
use Rattle.scan_chain.specs.Board.{CellCount}
use Rattle.scan_chain.specs.Playing.{Idle, scan_states, states_of_scans}
use Rattle.scan_chain.proofs.Running.{machine, block, scan_run}

block_size : (outside : Outside) (t : ℕ) (captured : List Bool) → length (block outside t captured) ≡ length captured + 5
block_size outside t captured =
    let last = suc (suc t) + length captured in
    let both = length-append (map bit_value captured) (bit_value (outside.undriven (suc last)) ∷ bit_value (outside.undriven (suc (suc last))) ∷ []) in
    let same = length-map captured bit_value in
    omega arith

-- TDO at shift clock j
block_at : (outside : Outside) (t : ℕ) (captured : List Bool) (j : ℕ) → j < length captured
    → at (block outside t captured) (3 + j) ≡ bit_value (get_or captured j false)
unfolding bit_value
block_at outside t captured j l =
    let q : 3 + j ≡ suc (suc (suc j)) = omega arith in
    let same = length-map captured bit_value in
    let m : j < length (map bit_value captured) = omega arith in
    ap (at (block outside t captured)) q ∙ get_or-append (map bit_value captured) _ 0 j m ∙ get_or-map bit_value captured j false

-- ---- TDO of any run: a byte a clock, 0 or 1

pub tdo_size : (outside : Outside) (t : ℕ) (m : Chain) (bytes : List ℕ) → length (run outside t m bytes).tdo ≡ length bytes
unfolding run
tdo_size outside t m [] = refl
tdo_size outside t m (byte ∷ bytes) = ap suc (tdo_size outside (suc t) _ bytes)

pub tdo_bits : (outside : Outside) (t : ℕ) (m : Chain) (bytes : List ℕ) (i : ℕ) → at (run outside t m bytes).tdo i < 2
unfolding run
tdo_bits outside t m [] i = omega arith
tdo_bits outside t m (byte ∷ bytes) zero = bit_value_below_two _
tdo_bits outside t m (byte ∷ bytes) (suc i) = tdo_bits outside (suc t) _ bytes i

-- ---- all scans

abbrev pub AllSized : ℕ → List (List Bool) → Type 0
AllSized L [] = Unit {0}
AllSized L (cells ∷ more) = (length cells ≡ L) × AllSized L more

-- Scans from given outputs: the states passed, what is updated, and what TDO shows of scan s at shift clock j: what cell j
-- captured at some moment while the outputs before that scan were driven.
pub record Scanned (L : ℕ) (outside : Outside) (outputs : List Bool) (all : List (List Bool)) (r : Run) : Type 0 where
  pub ends : Idle r.end
  pub states : r.states ≡ states_of_scans (length all) L
  pub updates : r.updates ≡ all
  pub captured : (s : ℕ) → s < length all
      → (u : ℕ) × ((j : ℕ) → j < L → shifted_out L r.tdo s j ≡ get_or (outside.inputs u (get_or (outputs ∷ all) s [])) j false)

module _ (L : ℕ) (outside : Outside) (some : 0 < L) (sizes : CellCount L outside) where
  -- shift clock j of the first scan, and of a later one
  first_out : (t : ℕ) (outputs : List Bool) (more : List ℕ) (j : ℕ) → j < L
      → shifted_out L (block outside t (outside.inputs (suc (suc t)) outputs) ++ more) 0 j ≡ get_or (outside.inputs (suc (suc t)) outputs) j false
  unfolding shifted_out
  first_out t outputs more j l =
      let captured = outside.inputs (suc (suc t)) outputs in
      let size = sizes (suc (suc t)) outputs in
      let whole = block_size outside t captured in
      let q : 0 * (L + 5) + (3 + j) ≡ 3 + j = omega arith in
      ap (λ (n : ℕ). eqb n 1)
      (ap (at (block outside t captured ++ more)) q ∙ get_or-append (block outside t captured) more 0 (3 + j) (omega arith)
      ∙ block_at outside t captured j (omega arith))
      ∙ bit_value_is (get_or captured j false)

  later_out : (t : ℕ) (outputs : List Bool) (more : List ℕ) (s j : ℕ)
      → shifted_out L (block outside t (outside.inputs (suc (suc t)) outputs) ++ more) (suc s) j ≡ shifted_out L more s j
  unfolding shifted_out
  later_out t outputs more s j =
      let captured = outside.inputs (suc (suc t)) outputs in
      let size = sizes (suc (suc t)) outputs in
      let whole = block_size outside t captured in
      let q : suc s * (L + 5) + (3 + j) ≡ length (block outside t captured) + (s * (L + 5) + (3 + j)) = omega (arith, suc-mul s (L + 5)) in
      ap (λ (n : ℕ). eqb n 1) (ap (at (block outside t captured ++ more)) q ∙ get_or-append-add (block outside t captured) more _ 0)

  pub all_scans : (all : List (List Bool)) → AllSized L all → (t : ℕ) (register outputs : List Bool)
      → Scanned L outside outputs all (run outside t (machine run_test_idle register outputs) (scans all))
  unfolding run scans states_of_scans
  all_scans [] h t register outputs = record {
    ends = record { state = refl; extest = refl };
    states = refl;
    updates = refl;
    captured = λ s l. absurd (not-suc-le-zero l);
  }
  all_scans (cells ∷ more) h t register outputs =
      let e : length (outside.inputs (suc (suc t)) outputs) ≡ length cells = sizes (suc (suc t)) outputs ∙ sym h.0 in
      let rest = all_scans more h.1 (t + (length cells + 5)) cells cells in
      let r = run outside (t + (length cells + 5)) (machine run_test_idle cells cells) (scans more) in
      rw (scan_run outside t register outputs cells (scans more) (omega arith) e) record {
        ends = rest.ends;
        states = ap₂ (λ (n : ℕ) (later : List TapState). scan_states n ++ later) h.0 rest.states;
        updates = ap (λ l. cells ∷ l) rest.updates;
        captured = λ s l. captured_at t outputs cells more r rest s l;
      }
    where
      captured_at : (t : ℕ) (outputs cells : List Bool) (more : List (List Bool)) (r : Run) → Scanned L outside cells more r → (s : ℕ) → s < suc (length more)
          → (u : ℕ) × ((j : ℕ) → j < L → shifted_out L (block outside t (outside.inputs (suc (suc t)) outputs) ++ r.tdo) s j
          ≡ get_or (outside.inputs u (get_or (outputs ∷ cells ∷ more) s [])) j false)
      captured_at t outputs cells more r rest zero l = (suc (suc t), λ j m. first_out t outputs r.tdo j m)
      captured_at t outputs cells more r rest (suc s) l =
          let before = rest.captured s (le_of_suc-le-suc l) in
          (before.0, λ j m. later_out t outputs r.tdo s j ∙ before.1 j m)
