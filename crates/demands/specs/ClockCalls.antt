-- The calls *write clocks* and *read clocks* on a scan chain: a program for each, and what is asked of them on every input.
-- `owners` has the net of each receiver, `drivers` and `receivers` the cells of the drivers and of the receivers.
use Rattle.std.specs.Prelude.{ℕ, ◌≡◌, List, length}
use Rattle.words.specs.Answers.{Filled, FillsByTable}
use Rattle.scan_chain.specs.Scans.{all_zero, clocks}
use Rattle.scan_chain.specs.Responses.{responses}
use Rattle.scan_chain.specs.Calls.{WriteRows, ReadRows}

-- what they return, and the lent list after them
abbrev pub WriteClocksProgram : Type 0
WriteClocksProgram = (nets : ℕ) → (owners vectors : List ℕ) → (cells : ℕ) → (drivers receivers lent : List ℕ) → Filled ℕ

abbrev pub ReadClocksProgram : Type 0
ReadClocksProgram = (nets : ℕ) → (owners : List ℕ) → (count cells : ℕ) → (drivers receivers tdo lent : List ℕ) → Filled ℕ

-- On every input they refuse by the first row that holds and leave the list as it was, or write the clocks of the
-- vectors, or the responses that TDO has, into its front and keep its tail.
abbrev pub WritesClocks : WriteClocksProgram → Type 0
WritesClocks program = (nets : ℕ) (owners vectors : List ℕ) (cells : ℕ) (drivers receivers lent : List ℕ)
    → FillsByTable (WriteRows nets owners vectors cells drivers receivers (length lent))
    (λ bytes. bytes ≡ clocks cells drivers all_zero vectors) lent
    (program nets owners vectors cells drivers receivers lent)

abbrev pub ReadsClocks : ReadClocksProgram → Type 0
ReadsClocks program = (nets : ℕ) (owners : List ℕ) (count cells : ℕ) (drivers receivers tdo lent : List ℕ)
    → FillsByTable (ReadRows nets owners count cells drivers receivers tdo (length lent))
    (λ words. words ≡ responses cells receivers count tdo) lent
    (program nets owners count cells drivers receivers tdo lent)
