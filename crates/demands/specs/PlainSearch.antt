-- Document 02's plain search over all driver sets of a small board, against the call *check*.
use Rattle.std.specs.Prelude.{ℕ, ◌≤◌, ◌≡◌, ◌≢◌, ◌↔◌, List}
use Rattle.words.specs.Answers.{full, NoneHolds}
use Rattle.network.specs.declared.Network.{Network}
use Rattle.network.specs.Rows.{SetRows}
use Rattle.checker.specs.declared.Verdict.{Verdict}
use Rattle.checker.specs.declared.Verdict.TheVariants.{Pass}
use Rattle.demands.specs.Demand3.{CheckProgram}

-- a program for the search
abbrev pub SearchProgram : Type 0
SearchProgram = Network → ℕ → List ℕ → Verdict

-- on every network of at most 10 nets and every test set that the rows admit: below n the same verdict and the same
-- pair; at n both pass or neither does, and the pair shown by the call is its own
pub record SearchAgrees (checks : CheckProgram) (searches : SearchProgram) : Type 0 where
  pub below_n : (net : Network) (k : ℕ) (vectors : List ℕ) → net.nets ≤ 10 → NoneHolds (SetRows net k vectors)
      → k ≢ net.nets → checks net k vectors ≡ full (searches net k vectors)
  pub at_n : (net : Network) (vectors : List ℕ) → net.nets ≤ 10 → NoneHolds (SetRows net net.nets vectors)
      → (checks net net.nets vectors ≡ full Pass) ↔ (searches net net.nets vectors ≡ Pass)
