-- The standard's diagram and the register, computed: a walk over all its arrows, and what a chain does beside the scans
-- that *write clocks* writes.
use Rattle.std.specs.Prelude.{ℕ, ◌≡◌, Bool, true, false, List, [], ◌∷◌, eqb}
use Rattle.scan_chain.specs.Tap.{TapState, test_logic_reset, run_test_idle, select_dr_scan, capture_dr, shift_dr, exit1_dr}
use Rattle.scan_chain.specs.Tap.{pause_dr, exit2_dr, update_dr, select_ir_scan, capture_ir, shift_ir, exit1_ir, pause_ir}
use Rattle.scan_chain.specs.Tap.{exit2_ir, update_ir, next}
use Rattle.scan_chain.specs.BoundaryRegister.{Chain, Outside, Run, run}

-- EXTEST is loaded; what the cells have before is of no account
unfoldable pub start : Chain
start = record { state = run_test_idle; extest = true; register = []; outputs = [] }

-- two cells whose inputs are what they drive; before the first update they are 0, but cell 0's is 1 at clock 2. Outside the
-- shift TDO reads 1 at clock 1, else 0.
unfoldable pub looped_inputs : ℕ → List Bool → List Bool
looped_inputs t [] = eqb t 2 ∷ false ∷ []
looped_inputs t (cell ∷ cells) = cell ∷ cells

unfoldable pub looped : Outside
looped = record { inputs = looped_inputs; undriven = λ t. eqb t 1 }

unfoldable pub played : List ℕ → Run
played bytes = run looped 0 start bytes

pub record TapCases : Type 0 where
  -- every arrow of the diagram, from Run-Test/Idle
  pub data_column :
      (played (0 ∷ 1 ∷ 0 ∷ 0 ∷ 0 ∷ 1 ∷ 0 ∷ 0 ∷ 1 ∷ 0 ∷ 1 ∷ 1 ∷ 1 ∷ 0 ∷ 1 ∷ 0 ∷ 1 ∷ 1 ∷ 0 ∷ [])).states
      ≡ run_test_idle ∷ select_dr_scan ∷ capture_dr ∷ shift_dr ∷ shift_dr ∷ exit1_dr ∷ pause_dr ∷ pause_dr ∷ exit2_dr
      ∷ shift_dr ∷ exit1_dr ∷ update_dr ∷ select_dr_scan ∷ capture_dr ∷ exit1_dr ∷ pause_dr ∷ exit2_dr ∷ update_dr
      ∷ run_test_idle ∷ []
  pub instruction_column :
      (played (1 ∷ 1 ∷ 0 ∷ 0 ∷ 0 ∷ 1 ∷ 0 ∷ 0 ∷ 1 ∷ 0 ∷ 1 ∷ 1 ∷ 1 ∷ 1 ∷ 0 ∷ 1 ∷ 0 ∷ 1 ∷ 1 ∷ 0 ∷ 1 ∷ 1 ∷ 1 ∷ 1 ∷ 0 ∷ [])).states
      ≡ select_dr_scan ∷ select_ir_scan ∷ capture_ir ∷ shift_ir ∷ shift_ir ∷ exit1_ir ∷ pause_ir ∷ pause_ir ∷ exit2_ir
      ∷ shift_ir ∷ exit1_ir ∷ update_ir ∷ select_dr_scan ∷ select_ir_scan ∷ capture_ir ∷ exit1_ir ∷ pause_ir ∷ exit2_ir
      ∷ update_ir ∷ run_test_idle ∷ select_dr_scan ∷ select_ir_scan ∷ test_logic_reset ∷ test_logic_reset ∷ run_test_idle ∷ []
  -- the standard's own test of it: five clocks with TMS 1 reach Test-Logic-Reset from every state
  pub five_ones : (state : TapState) → next (next (next (next (next state true) true) true) true) true ≡ test_logic_reset
  -- a scan of 1 0, TDO in it, and the same with a pause between the two bits
  pub scanned : (played (1 ∷ 0 ∷ 0 ∷ 2 ∷ 1 ∷ 1 ∷ 0 ∷ [])).updates ≡ (true ∷ false ∷ []) ∷ []
  pub shown : (played (1 ∷ 0 ∷ 0 ∷ 2 ∷ 1 ∷ 1 ∷ 0 ∷ [])).tdo ≡ 0 ∷ 1 ∷ 0 ∷ 1 ∷ 0 ∷ 0 ∷ 0 ∷ []
  pub paused : (played (1 ∷ 0 ∷ 0 ∷ 3 ∷ 0 ∷ 2 ∷ 3 ∷ 2 ∷ 1 ∷ 1 ∷ 0 ∷ [])).updates ≡ (true ∷ false ∷ []) ∷ []
  pub shown_around_a_pause : (played (1 ∷ 0 ∷ 0 ∷ 3 ∷ 0 ∷ 2 ∷ 3 ∷ 2 ∷ 1 ∷ 1 ∷ 0 ∷ [])).tdo
      ≡ 0 ∷ 1 ∷ 0 ∷ 1 ∷ 0 ∷ 0 ∷ 0 ∷ 0 ∷ 0 ∷ 0 ∷ 0 ∷ []
  -- captured and updated without a shift; the next scan captures what was driven
  pub captured : (played (1 ∷ 0 ∷ 1 ∷ 1 ∷ 0 ∷ [])).updates ≡ (true ∷ false ∷ []) ∷ []
  pub driven : (played (1 ∷ 0 ∷ 0 ∷ 2 ∷ 3 ∷ 1 ∷ 1 ∷ 0 ∷ 1 ∷ 1 ∷ 0 ∷ [])).updates ≡ (true ∷ true ∷ []) ∷ (true ∷ true ∷ []) ∷ []
  -- after Test-Logic-Reset, and after Update-IR, another instruction stands: the same scan updates nothing
  pub reset : (played (1 ∷ 1 ∷ 1 ∷ 0 ∷ 1 ∷ 0 ∷ 0 ∷ 2 ∷ 1 ∷ 1 ∷ 0 ∷ [])).updates ≡ []
  pub other_instruction : (played (1 ∷ 1 ∷ 0 ∷ 1 ∷ 1 ∷ 0 ∷ 1 ∷ 0 ∷ 0 ∷ 2 ∷ 1 ∷ 1 ∷ 0 ∷ [])).updates ≡ []
