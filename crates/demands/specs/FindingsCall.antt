-- The call *findings*: a program for it, and what document 01 asks of it on every input.
use Rattle.std.specs.Prelude.{ℕ, List, length}
use Rattle.words.specs.Answers.{Filled, FillsByTable}
use Rattle.network.specs.declared.Network.{Network}
use Rattle.findings.specs.declared.Finding.{Finding}
use Rattle.findings.specs.FindingsTable.{FindingsRows, Findings}

-- what it returns, and the lent table after it
abbrev pub FindingsProgram : Type 0
FindingsProgram = Network → (owners state : List ℕ) → (lent : List Finding) → Filled Finding

-- On every input it refuses by the first row that holds and leaves the table as it was, or writes a record a receiver
-- into the front of the table and keeps its tail.
abbrev pub Finds : FindingsProgram → Type 0
Finds program = (net : Network) (owners state : List ℕ) (lent : List Finding)
    → FillsByTable (FindingsRows net owners state (length lent)) (Findings net owners state) lent (program net owners state lent)
