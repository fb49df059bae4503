-- The TAP controller of IEEE 1149.1: its sixteen states by the standard's names, and the state that follows by TMS.
use Rattle.std.specs.Prelude.{Bool, cond}

pub data TapState : Type 0 where
  test_logic_reset run_test_idle : TapState
  select_dr_scan capture_dr shift_dr exit1_dr pause_dr exit2_dr update_dr : TapState
  select_ir_scan capture_ir shift_ir exit1_ir pause_ir exit2_ir update_ir : TapState

-- the state after a rising edge of TCK: the first where TMS is 1, the second where it is 0
unfoldable pub next : TapState → (tms : Bool) → TapState
next test_logic_reset tms = cond tms test_logic_reset run_test_idle
next run_test_idle tms = cond tms select_dr_scan run_test_idle
next select_dr_scan tms = cond tms select_ir_scan capture_dr
next capture_dr tms = cond tms exit1_dr shift_dr
next shift_dr tms = cond tms exit1_dr shift_dr
next exit1_dr tms = cond tms update_dr pause_dr
next pause_dr tms = cond tms exit2_dr pause_dr
next exit2_dr tms = cond tms update_dr shift_dr
next update_dr tms = cond tms select_dr_scan run_test_idle
next select_ir_scan tms = cond tms test_logic_reset capture_ir
next capture_ir tms = cond tms exit1_ir shift_ir
next shift_ir tms = cond tms exit1_ir shift_ir
next exit1_ir tms = cond tms update_ir pause_ir
next pause_ir tms = cond tms exit2_ir pause_ir
next exit2_ir tms = cond tms update_ir shift_ir
next update_ir tms = cond tms select_dr_scan run_test_idle

-- What a state has the boundary-scan register do under EXTEST: capture and shift at the rising edge that leaves the
-- state, update at the falling edge after it is entered. In Test-Logic-Reset and Update-IR another instruction takes
-- the place of EXTEST.
pub data Action : Type 0 where
  hold capture shift update release : Action

unfoldable pub action : TapState → Action
action test_logic_reset = release
action run_test_idle = hold
action select_dr_scan = hold
action capture_dr = capture
action shift_dr = shift
action exit1_dr = hold
action pause_dr = hold
action exit2_dr = hold
action update_dr = update
action select_ir_scan = hold
action capture_ir = hold
action shift_ir = hold
action exit1_ir = hold
action pause_ir = hold
action exit2_ir = hold
action update_ir = release
