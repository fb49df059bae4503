-- One scan, clock by clock.
use Rattle.std.proofs.Common.{◌≡◌, refl, sym, ap, ap₂, ◌∙◌, Bool, true, false, List, [], ◌∷◌, ◌++◌, map, append_assoc}
use Rattle.std.proofs.Common.{append-nil, ℕ, suc, ◌+◌, ◌<◌, arith, length, drop, get_or, replicate}
use lib.Seq.{append_snoc}
use Rattle.words.specs.Bits.{has, bit_value}
use Rattle.scan_chain.specs.Tap.{TapState, run_test_idle, select_dr_scan, capture_dr, shift_dr, exit1_dr, update_dr, next, action}
use Rattle.scan_chain.specs.BoundaryRegister.{Chain, Outside, Run, doing, clocked, updated, latched, keeps_extest, tdo, rising, falling, run}
use Rattle.scan_chain.specs.Scans.{clock, is_empty, shift_clocks, scan}
use Rattle.scan_chain.specs.Playing.{scan_states}

tms_of : (a b : Bool) → has (clock a b) 0 ≡ a
unfolding has clock bit_value
tms_of true true = refl
tms_of true false = refl
tms_of false true = refl
tms_of false false = refl

tdi_of : (a b : Bool) → has (clock a b) 1 ≡ b
unfolding has clock bit_value
tdi_of true true = refl
tdi_of true false = refl
tdi_of false true = refl
tdi_of false false = refl

-- under EXTEST
abbrev pub machine : TapState → (register outputs : List Bool) → Chain
machine state register outputs = record { state = state; extest = true; register = register; outputs = outputs }

-- a run after what went before it
abbrev pub after : List TapState → List (List Bool) → List ℕ → Run → Run
after states updates tdo r =
    record { states = states ++ r.states; updates = updates ++ r.updates; tdo = tdo ++ r.tdo; end = r.end }

-- a clock in each state that a scan goes through
module _ (outside : Outside) (t : ℕ) (register outputs : List Bool) (more : List ℕ) where
  pub shift_last : (b : Bool)
      → run outside t (machine shift_dr register outputs) (clock true b ∷ more)
      ≡ after (exit1_dr ∷ []) [] (bit_value (get_or register 0 false) ∷ []) (run outside (suc t) (machine exit1_dr (drop 1 register ++ b ∷ []) outputs) more)
  unfolding run rising falling doing next action clocked updated latched keeps_extest tdo
  shift_last b = rw (tms_of true b, tdi_of true b)

  pub shift_on : (b : Bool)
      → run outside t (machine shift_dr register outputs) (clock false b ∷ more)
      ≡ after (shift_dr ∷ []) [] (bit_value (get_or register 0 false) ∷ []) (run outside (suc t) (machine shift_dr (drop 1 register ++ b ∷ []) outputs) more)
  unfolding run rising falling doing next action clocked updated latched keeps_extest tdo
  shift_on b = rw (tms_of false b, tdi_of false b)

  pub scan_start :
      run outside t (machine run_test_idle register outputs) (clock true false ∷ clock false false ∷ clock false false ∷ more)
      ≡ after (select_dr_scan ∷ capture_dr ∷ shift_dr ∷ []) []
      (bit_value (outside.undriven t) ∷ bit_value (outside.undriven (suc t)) ∷ bit_value (outside.undriven (suc (suc t))) ∷ [])
      (run outside (suc (suc (suc t))) (machine shift_dr (outside.inputs (suc (suc t)) outputs) outputs) more)
  unfolding run rising falling doing next action clocked updated latched keeps_extest tdo has clock bit_value
  scan_start = refl

  pub scan_end :
      run outside t (machine exit1_dr register outputs) (clock true false ∷ clock false false ∷ more)
      ≡ after (update_dr ∷ run_test_idle ∷ []) (register ∷ []) (bit_value (outside.undriven t) ∷ bit_value (outside.undriven (suc t)) ∷ [])
      (run outside (suc (suc t)) (machine run_test_idle register register) more)
  unfolding run rising falling doing next action clocked updated latched keeps_extest tdo has clock bit_value
  scan_end = refl

-- the shift: what is in the register goes out, what is carried comes in
shift_run : (outside : Outside) (outputs : List Bool) (more : List ℕ) (t : ℕ) (b : Bool) (bits : List Bool) (x : Bool) (xs ys : List Bool) → length bits ≡ length xs
    → run outside t (machine shift_dr (x ∷ (xs ++ ys)) outputs) (shift_clocks (b ∷ bits) ++ more)
    ≡ after (replicate (length bits) shift_dr ++ exit1_dr ∷ []) [] (map bit_value (x ∷ xs))
    (run outside (suc t + length bits) (machine exit1_dr (ys ++ b ∷ bits) outputs) more)
unfolding shift_clocks is_empty
shift_run outside outputs more t b [] x [] ys e =
    let q : suc t + 0 ≡ suc t = omega arith in
    rw q (shift_last outside t (x ∷ ys) outputs more b)
shift_run outside outputs more t b (c ∷ bits) x (y ∷ xs) ys e =
    let q : suc (suc t) + length bits ≡ suc t + length (c ∷ bits) = omega arith in
    shift_on outside t (x ∷ (y ∷ xs) ++ ys) outputs (shift_clocks (c ∷ bits) ++ more) b
    ∙ ap (after (shift_dr ∷ []) [] (bit_value x ∷ []))
    (ap (λ (r : List Bool). run outside (suc t) (machine shift_dr (y ∷ r) outputs) (shift_clocks (c ∷ bits) ++ more)) (append_assoc xs ys (b ∷ []))
    ∙ shift_run outside outputs more (suc t) c bits y xs (ys ++ b ∷ []) (omega arith)
    ∙ ap₂ (λ (n : ℕ) (r : List Bool). after (replicate (length bits) shift_dr ++ exit1_dr ∷ []) [] (map bit_value (y ∷ xs)) (run outside n (machine exit1_dr r outputs) more)) q (append_snoc ys b (c ∷ bits)))
shift_run outside outputs more t b [] x (y ∷ xs) ys e = absurd (omega arith)
shift_run outside outputs more t b (c ∷ bits) x [] ys e = absurd (omega arith)

-- TDO over one scan
abbrev pub block : Outside → ℕ → List Bool → List ℕ
block outside t captured =
    let last = suc (suc t) + length captured in
    bit_value (outside.undriven t) ∷ bit_value (outside.undriven (suc t)) ∷ bit_value (outside.undriven (suc (suc t)))
    ∷ (map bit_value captured ++ bit_value (outside.undriven (suc last)) ∷ bit_value (outside.undriven (suc (suc last))) ∷ [])

-- one scan, whatever is in the register before it and whatever comes after it
pub scan_run : (outside : Outside) (t : ℕ) (register outputs cells : List Bool) (more : List ℕ)
    → 0 < length cells → length (outside.inputs (suc (suc t)) outputs) ≡ length cells
    → run outside t (machine run_test_idle register outputs) (scan cells ++ more)
    ≡ after (scan_states (length cells)) (cells ∷ []) (block outside t (outside.inputs (suc (suc t)) outputs))
    (run outside (t + (length cells + 5)) (machine run_test_idle cells cells) more)
unfolding scan scan_states
scan_run outside t register outputs [] more l e = absurd (omega arith)
scan_run outside t register outputs (b ∷ bits) more l e =
    scan_start outside t register outputs (shift_clocks (b ∷ bits) ++ (clock true false ∷ clock false false ∷ []) ++ more)
    ∙ ap (after (select_dr_scan ∷ capture_dr ∷ shift_dr ∷ []) []
    (bit_value (outside.undriven t) ∷ bit_value (outside.undriven (suc t)) ∷ bit_value (outside.undriven (suc (suc t))) ∷ []))
    (ap (run outside (suc (suc (suc t))) (machine shift_dr (outside.inputs (suc (suc t)) outputs) outputs)) (append_assoc (shift_clocks (b ∷ bits)) _ more)
    ∙ shifted (outside.inputs (suc (suc t)) outputs) e)
  where
    shifts : List TapState
    shifts = replicate (length bits) shift_dr

    shifted : (captured : List Bool) → length captured ≡ length (b ∷ bits)
        → run outside (suc (suc (suc t))) (machine shift_dr captured outputs) (shift_clocks (b ∷ bits) ++ (clock true false ∷ clock false false ∷ more))
        ≡ after (shifts ++ exit1_dr ∷ update_dr ∷ run_test_idle ∷ []) ((b ∷ bits) ∷ [])
        (map bit_value captured ++ bit_value (outside.undriven (suc (suc (suc t) + length captured))) ∷ bit_value (outside.undriven (suc (suc (suc (suc t) + length captured)))) ∷ [])
        (run outside (t + (length (b ∷ bits) + 5)) (machine run_test_idle (b ∷ bits) (b ∷ bits)) more)
    shifted [] q = absurd (omega arith)
    shifted (x ∷ xs) q =
        let m : suc (suc (suc (suc t))) + length bits ≡ suc (suc (suc t) + length (x ∷ xs)) = omega arith in
        let n : suc (suc (suc (suc (suc t) + length (x ∷ xs)))) ≡ t + (length (b ∷ bits) + 5) = omega arith in
        let ends = clock true false ∷ clock false false ∷ more in
        let rest = run outside (t + (length (b ∷ bits) + 5)) (machine run_test_idle (b ∷ bits) (b ∷ bits)) more in
        let put : List TapState → List ℕ → Run =
        λ states tdo. record { states = states; updates = (b ∷ bits) ∷ rest.updates; tdo = tdo; end = rest.end } in
        ap (λ (r : List Bool). run outside (suc (suc (suc t))) (machine shift_dr (x ∷ r) outputs) (shift_clocks (b ∷ bits) ++ ends)) (sym (append-nil xs))
        ∙ shift_run outside outputs ends (suc (suc (suc t))) b bits x xs [] (omega arith)
        ∙ ap (λ (k : ℕ). after (shifts ++ exit1_dr ∷ []) [] (map bit_value (x ∷ xs)) (run outside k (machine exit1_dr (b ∷ bits) outputs) ends)) m
        ∙ ap (after (shifts ++ exit1_dr ∷ []) [] (map bit_value (x ∷ xs))) (scan_end outside (suc (suc (suc t) + length (x ∷ xs))) (b ∷ bits) outputs more)
        ∙ ap (λ (k : ℕ). after (shifts ++ exit1_dr ∷ []) ((b ∷ bits) ∷ []) (map bit_value (x ∷ xs))
        (after (update_dr ∷ run_test_idle ∷ []) []
        (bit_value (outside.undriven (suc (suc (suc t) + length (x ∷ xs)))) ∷ bit_value (outside.undriven (suc (suc (suc (suc t) + length (x ∷ xs))))) ∷ [])
        (run outside k (machine run_test_idle (b ∷ bits) (b ∷ bits)) more))) n
        ∙ ap₂ put
        (append_assoc shifts (exit1_dr ∷ []) (update_dr ∷ run_test_idle ∷ rest.states)
        ∙ sym (append_assoc shifts (exit1_dr ∷ update_dr ∷ run_test_idle ∷ []) rest.states))
        (sym (append_assoc (map bit_value (x ∷ xs)) _ rest.tdo))
