-- The call *own receivers*: a program for it, and what is asked of it on every input.
use Rattle.std.specs.Prelude.{ℕ, List, length}
use Rattle.words.specs.Answers.{Filled, FillsByTable}
use Rattle.network.specs.OwnReceivers.{OwnReceivers, OwnReceiversRows}

-- what it returns, and the lent list after it
abbrev pub OwnReceiversProgram : Type 0
OwnReceiversProgram = (nets : ℕ) → (lent : List ℕ) → Filled ℕ

-- On every input it refuses by the first row that holds and leaves the list as it was, or writes the list of own
-- receivers into its front and keeps its tail.
abbrev pub Owns : OwnReceiversProgram → Type 0
Owns program = (nets : ℕ) (lent : List ℕ)
    → FillsByTable (OwnReceiversRows nets (length lent)) (OwnReceivers nets) lent (program nets lent)
