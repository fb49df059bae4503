-- What is promised of clocks that a pod plays into a chain under EXTEST, by the sixteen states of IEEE 1149.1, whatever the
-- cells had before and whatever TDO reads outside the shift.
use Rattle.std.specs.Prelude.{ℕ, ◌≤◌, ◌≡◌, List, length, take}
use Rattle.words.specs.Answers.{full}
use Rattle.network.specs.declared.Network.{Network}
use Rattle.network.specs.Reading.{Response}
use Rattle.network.specs.States.{State}
use Rattle.checker.specs.declared.Verdict.TheVariants.{Pass}
use Rattle.scan_chain.specs.BoundaryRegister.{Chain, Outside, run}
use Rattle.scan_chain.specs.Scans.{all_zero}
use Rattle.scan_chain.specs.Board.{CellCount, Wired}
use Rattle.scan_chain.specs.Playing.{Idle, Updates}
use Rattle.demands.specs.Demand2.{DiagnosisProgram}
use Rattle.demands.specs.Demand3.{CheckProgram}
use Rattle.demands.specs.ClockCalls.{WriteClocksProgram, ReadClocksProgram}

-- The bytes written start and end in Run-Test/Idle and update exactly the vectors in order, the last one twice: the
-- drivers' cells have the vector's bits, every other cell 0. This holds whatever the inputs of the cells are.
abbrev pub PlaysVectors : WriteClocksProgram → Type 0
PlaysVectors writes =
    (nets : ℕ) (owners vectors : List ℕ) (cells : ℕ) (drivers receivers lent : List ℕ) (count : ℕ)
    → let wrote = writes nets owners vectors cells drivers receivers lent in wrote.returned ≡ full count
    → (outside : Outside) → CellCount cells outside → (start : ℕ) (chain : Chain) → Idle chain
    → Updates cells drivers all_zero vectors (run outside start chain (take count wrote.list))

-- With a board in any wiring state behind the cells, for every gate, level and list of receivers: the reader, handed what
-- TDO had, gives exactly the response of that state to the vectors.
abbrev pub ReadsBoard : WriteClocksProgram → ReadClocksProgram → Type 0
ReadsBoard writes reads =
    (net : Network) (owners vectors : List ℕ) (cells : ℕ) (drivers receivers lent : List ℕ) (count : ℕ)
    → let wrote = writes net.nets owners vectors cells drivers receivers lent in wrote.returned ≡ full count
    → (state : List ℕ) (outside : Outside) → Wired net state cells drivers receivers outside
    → (start : ℕ) (chain : Chain) → Idle chain → (words_lent : List ℕ) → length vectors ≤ length words_lent
    → let tdo = (run outside start chain (take count wrote.list)).tdo in
    let did = reads net.nets owners (length vectors) cells drivers receivers tdo words_lent in
    (did.returned ≡ full (length vectors)) × Response net state vectors (take (length vectors) did.list)

-- With a passed set, *diagnosis* of what the reader gives is the state of the board: from bytes to reaches.
abbrev pub DiagnosesBoard : CheckProgram → WriteClocksProgram → ReadClocksProgram → DiagnosisProgram → Type 0
DiagnosesBoard checks writes reads diagnoses =
    (net : Network) (owners : List ℕ) (k : ℕ) (vectors : List ℕ) → checks net k vectors ≡ full Pass
    → (cells : ℕ) (drivers receivers lent : List ℕ) (count : ℕ)
    → let wrote = writes net.nets owners vectors cells drivers receivers lent in wrote.returned ≡ full count
    → (state : List ℕ) → State net (length owners) k state → (outside : Outside) → Wired net state cells drivers receivers outside
    → (start : ℕ) (chain : Chain) → Idle chain
    → (words_lent : List ℕ) → length vectors ≤ length words_lent → (state_lent : List ℕ) → length owners ≤ length state_lent
    → let tdo = (run outside start chain (take count wrote.list)).tdo in
    let read = reads net.nets owners (length vectors) cells drivers receivers tdo words_lent in
    let did = diagnoses net owners k vectors (take (length vectors) read.list) state_lent in
    (did.returned ≡ full (length owners)) × (take (length owners) did.list ≡ state)
