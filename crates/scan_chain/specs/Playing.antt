-- What bytes do that are played into a chain.
use Rattle.std.specs.Prelude.{ℕ, zero, suc, ◌+◌, ◌≤◌, ◌<◌, ◌≡◌, true, List, [], ◌∷◌, ◌++◌, length, get_or, replicate}
use Rattle.words.specs.Bits.{at}
use Rattle.scan_chain.specs.Tap.{TapState, run_test_idle, select_dr_scan, capture_dr, shift_dr, exit1_dr, update_dr}
use Rattle.scan_chain.specs.BoundaryRegister.{Chain, Run}
use Rattle.scan_chain.specs.Scans.{Carries, clock_count, scanned}

-- in Run-Test/Idle, EXTEST loaded
pub record Idle (chain : Chain) : Type 0 where
  pub state : chain.state ≡ run_test_idle
  pub extest : chain.extest ≡ true

-- the states that a scan passes, from Run-Test/Idle on
unfoldable pub scan_states : ℕ → List TapState
scan_states L = select_dr_scan ∷ capture_dr ∷ (replicate L shift_dr ++ exit1_dr ∷ update_dr ∷ run_test_idle ∷ [])

-- and so many scans
unfoldable pub states_of_scans : (scans L : ℕ) → List TapState
states_of_scans zero L = []
states_of_scans (suc scans) L = scan_states L ++ states_of_scans scans L

-- Exactly these vectors are updated, in order, the last one twice, each as the contents of the cells: the drivers' have
-- its bits, all others the bits held. The chain ends as it began, in Run-Test/Idle, and TDO has a bit for each clock.
pub record Updates (L : ℕ) (drivers held vectors : List ℕ) (r : Run) : Type 0 where
  pub ends : Idle r.end
  pub states : r.states ≡ states_of_scans (length vectors + 1) L
  pub number : length r.updates ≡ length vectors + 1
  pub each : (s : ℕ) → s ≤ length vectors → Carries L drivers held (at (scanned vectors) s) (get_or r.updates s [])
  pub clocks : length r.tdo ≡ clock_count (length vectors) L
  pub bits : (i : ℕ) → i < length r.tdo → at r.tdo i < 2
