-- What the bytes written do to a chain, and with a board in the loop what is read back.
use Rattle.std.proofs.Common.{◌≡◌, sym, subst, ap, ap₂, ◌∙◌, Bool, false, List, [], map, ℕ, ◌+◌, ◌^◌, ◌≤◌, ◌<◌}
use Rattle.std.proofs.Common.{add-one, arith, length, get_or, le-ltb}
use lib.ListN.{length-map}
use Rattle.words.specs.Bits.{at}
use Rattle.words.specs.Answers.{full}
use Rattle.words.proofs.Answers.{AllFail, none_passed, full_answer}
use Rattle.words.proofs.Making.{map_at}
use Rattle.network.specs.declared.Network.{Network}
use Rattle.network.specs.Reading.{response}
use Rattle.network.proofs.Rows.{decides_high_bit, no_high_bit}
use Rattle.scan_chain.specs.Tap.{TapState, run_test_idle}
use Rattle.scan_chain.specs.BoundaryRegister.{Chain, Outside, Run, run}
use Rattle.scan_chain.specs.Scans.{clock_count, all_zero, Carries, contents, scanned, clocks}
use Rattle.scan_chain.specs.Responses.{responses}
use Rattle.scan_chain.specs.Rows.{bad_tdo}
use Rattle.scan_chain.specs.Calls.{write_tests, write_answer, read_tests, read_answer}
use Rattle.scan_chain.specs.Cells.{Distinct}
use Rattle.scan_chain.specs.Board.{CellCount, Wired}
use Rattle.scan_chain.specs.Playing.{Idle, states_of_scans, Updates}
use Rattle.scan_chain.proofs.Running.{machine}
use Rattle.scan_chain.proofs.Scanning.{Scanned, all_scans, tdo_size, tdo_bits}
use Rattle.scan_chain.proofs.CellContents.{scanned_size, contents_sized, clocks_size, contents_carry}
use Rattle.scan_chain.proofs.ChainRows.{AdmittedChain, chain_admitted, drivers_distinct, receivers_inside, bits_are}
use Rattle.scan_chain.proofs.Board.{response_back}

module _ (n : ℕ) (owners vectors : List ℕ) (L : ℕ) (drivers receivers : List ℕ) (room : ℕ) (bytes : List ℕ)
    (wrote : write_answer n owners vectors L drivers receivers room ≡ full bytes) where
  passed : AllFail (write_tests n owners vectors L drivers receivers room) × (clocks L drivers all_zero vectors ≡ bytes)
  unfolding write_answer
  passed = none_passed (write_tests n owners vectors L drivers receivers room) (clocks L drivers all_zero vectors) bytes wrote

  admitted : AdmittedChain 200 n (length owners) L drivers receivers
  admitted = chain_admitted 200 n (length owners) L drivers receivers passed.0.1.1.1.1.0

  far : Distinct L drivers
  far = drivers_distinct L drivers receivers admitted.distinct

  narrow : (t : ℕ) → t < length vectors → at vectors t < 2 ^ length drivers
  narrow t l = rw admitted.drivers_counted
      (no_high_bit n vectors ((decides_high_bit n vectors).1 passed.0.1.1.1.0) t l)

  module _ (outside : Outside) (cells : CellCount L outside) (start : ℕ) (chain : Chain) (idle : Idle chain) where
    abbrev all : List (List Bool)
    all = map (contents L drivers all_zero) (scanned vectors)

    all_size : length all ≡ length vectors + 1
    all_size = length-map (scanned vectors) (contents L drivers all_zero) ∙ scanned_size vectors ∙ sym (add-one (length vectors))

    done : Scanned L outside chain.outputs all (run outside start chain bytes)
    unfolding clocks
    done =
        let same : machine run_test_idle chain.register chain.outputs ≡ chain =
        ap₂ (λ (s : TapState) (x : Bool). record { state = s; extest = x; register = chain.register; outputs = chain.outputs })
        (sym idle.state) (sym idle.extest) in
        let two = admitted.two in
        subst (λ (r : Run). Scanned L outside chain.outputs all r)
        (ap₂ (λ (k : Chain) (bs : List ℕ). run outside start k bs) same passed.1)
        (all_scans L outside (omega arith) cells all (contents_sized L drivers all_zero (scanned vectors)) start chain.register
        chain.outputs)

    -- (a) the vectors reach the cells
    pub updates : Updates L drivers all_zero vectors (run outside start chain bytes)
    updates = record {
      ends = done.ends;
      states = done.states ∙ ap (λ (s : ℕ). states_of_scans s L) all_size;
      number = ap length done.updates ∙ all_size;
      each = λ s l. subst (Carries L drivers all_zero (at (scanned vectors) s))
          (sym (ap (λ (u : List (List Bool)). get_or u s []) done.updates
          ∙ map_at (contents L drivers all_zero) [] (scanned vectors) s (omega (arith, scanned_size vectors))))
          (contents_carry L drivers all_zero far (at (scanned vectors) s));
      clocks = tdo_size outside start chain bytes ∙ ap length (sym passed.1) ∙ clocks_size L drivers all_zero vectors;
      bits = λ i l. tdo_bits outside start chain bytes i;
    }

    tdo_good : bad_tdo (length vectors) L (run outside start chain bytes).tdo ≡ false
    tdo_good = bits_are (clock_count (length vectors) L) (run outside start chain bytes).tdo updates.clocks
        (tdo_bits outside start chain bytes)

    -- the reader's answer: what TDO has
    reads_responses : (space : ℕ) → length vectors ≤ space
        → read_answer n owners (length vectors) L drivers receivers (run outside start chain bytes).tdo space
        ≡ full (responses L receivers (length vectors) (run outside start chain bytes).tdo)
    unfolding read_answer
    reads_responses space l =
        full_answer (read_tests n owners (length vectors) L drivers receivers (run outside start chain bytes).tdo space)
        (responses L receivers (length vectors) (run outside start chain bytes).tdo) (
          passed.0.0,
          (
            passed.0.1.0,
            (
              passed.0.1.1.0,
              (
                passed.0.1.1.1.1.0,
                (tdo_good, (le-ltb space (length vectors) l, tt)),
              ),
            ),
          ),
        )

-- (b) with a board in the loop
pub response_read_back : (net : Network) (owners vectors : List ℕ) (L : ℕ) (drivers receivers : List ℕ) (room : ℕ) (bytes : List ℕ)
    → write_answer net.nets owners vectors L drivers receivers room ≡ full bytes
    → (state : List ℕ) (outside : Outside) → Wired net state L drivers receivers outside
    → (start : ℕ) (chain : Chain) → Idle chain → (space : ℕ) → length vectors ≤ space
    → read_answer net.nets owners (length vectors) L drivers receivers (run outside start chain bytes).tdo space
    ≡ full (response net state vectors)
response_read_back net owners vectors L drivers receivers room bytes wrote state outside board start chain idle space l =
    let n = net.nets in
    let k = admitted n owners vectors L drivers receivers room bytes wrote in
    reads_responses n owners vectors L drivers receivers room bytes wrote outside board.cells start chain idle space l
    ∙ ap full (response_back net state L drivers receivers all_zero outside board
    (far n owners vectors L drivers receivers room bytes wrote) (receivers_inside L drivers receivers k.distinct) vectors
    (narrow n owners vectors L drivers receivers room bytes wrote) chain.outputs (run outside start chain bytes)
    (done n owners vectors L drivers receivers room bytes wrote outside board.cells start chain idle))
