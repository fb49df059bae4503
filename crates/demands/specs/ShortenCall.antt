-- The call *shorten*: a program for it, what is asked of it on every input, and what is promised of the vectors that it
-- keeps.
use Rattle.std.specs.Prelude.{ℕ, ◌-◌, ◌≤◌, ◌<◌, min, ◌≡◌, List, length, take}
use Rattle.words.specs.Answers.{Answer, full, ByTable, NoneHolds, lent_after}
use Rattle.network.specs.declared.Network.{Network}
use Rattle.network.specs.Rows.{SetRows}
use Rattle.checker.specs.declared.Verdict.TheVariants.{Pass}
use Rattle.checker.specs.Passed.{Within}
use Rattle.shorter.specs.declared.Shortened.{Shortened}
use Rattle.shorter.specs.Shorter.{without, InOrder}
use Rattle.shorter.specs.Shorten.{ShortenRows, Shorter, IsShorter, kept_of, counted}
use Rattle.demands.specs.Demand3.{CheckProgram}

-- ---- the call

-- what one call did: what it returned, and the lent list after it
pub record ShortenDone : Type 0 where
  pub returned : Answer Shortened
  pub list : List ℕ

abbrev pub ShortenProgram : Type 0
ShortenProgram = (net : Network) → (k : ℕ) → (vectors : List ℕ) → (allowed : ℕ) → (lent : List ℕ) → ShortenDone

-- refused by the first row that holds and the list as it was; or the vectors that the rule keeps in its front and its
-- tail kept, and returned how many they are, the checks made and the floor
pub record ShortensByTable (net : Network) (k : ℕ) (vectors : List ℕ) (allowed : ℕ) (lent : List ℕ) (did : ShortenDone)
    : Type 0 where
  pub answer : Answer Shorter
  pub by_table : ByTable (ShortenRows net k vectors (length lent)) (IsShorter net k vectors allowed) answer
  pub returned : did.returned ≡ counted answer
  pub list : did.list ≡ lent_after (kept_of answer) lent

abbrev pub Shortens : ShortenProgram → Type 0
Shortens program = (net : Network) (k : ℕ) (vectors : List ℕ) (allowed : ℕ) (lent : List ℕ)
    → ShortensByTable net k vectors allowed lent (program net k vectors allowed lent)

-- ---- what is promised

-- the call *check* passes a set
abbrev pub Passes : CheckProgram → Network → ℕ → List ℕ → Type 0
Passes checks net k vectors = checks net k vectors ≡ full Pass

-- of the vectors kept, and of what is returned
pub record KeptSet (checks : CheckProgram) (net : Network) (k : ℕ) (vectors : List ℕ) (allowed : ℕ) (kept : List ℕ)
    (counts : Shortened) : Type 0 where
  pub size : length kept ≡ counts.kept
  -- the set given is passed, and so is the kept one, which has vectors given, in the order given
  pub given_passes : Passes checks net k vectors
  pub passes : Passes checks net k kept
  pub in_order : InOrder kept vectors
  -- a check a vector, as far as they are allowed
  pub checks_made : counts.checks ≡ min allowed (length vectors)
  -- every passed set of the class has at least as many vectors as the floor says, so none is shorter than the kept one
  -- by more than kept minus the floor
  pub at_least : (others : List ℕ) → Passes checks net k others → counts.floor ≤ length others
  pub distance : (others : List ℕ) → Passes checks net k others
      → length kept - length others ≤ length kept - counts.floor
  -- beyond document 02: with checks for every vector, no single vector of the kept set can be left out
  pub none_spare : length vectors ≤ allowed → (i : ℕ) → i < length kept → ¬ (Passes checks net k (without i kept))

pub record KeepsPassedSets (checks : CheckProgram) (shortens : ShortenProgram) : Type 0 where
  pub kept_set : (net : Network) (k : ℕ) (vectors : List ℕ) (allowed : ℕ) (lent : List ℕ) (counts : Shortened)
      → (shortens net k vectors allowed lent).returned ≡ full counts
      → KeptSet checks net k vectors allowed (take counts.kept (shortens net k vectors allowed lent).list) counts
  -- one vector is never passed, so no trial is on an empty set
  pub two_vectors : (net : Network) (k : ℕ) (vectors : List ℕ) → Passes checks net k vectors → 2 ≤ length vectors
  -- separation is monotone: a set that the rows admit and that has all vectors of a passed one is passed
  pub more_vectors : (net : Network) (k : ℕ) (vectors more : List ℕ) → Passes checks net k vectors
      → NoneHolds (SetRows net k more) → Within vectors more → Passes checks net k more
