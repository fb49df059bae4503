-- How far a search through the sets of a class has come, and which set alone can have given an answer. Only the
-- contracts of helpers use this: the rule is said in `Rule`.
use Rattle.std.specs.Prelude.{ℕ, ◌+◌, ◌%◌, ◌^◌, ◌≤◌, ◌<◌, ◌≡◌, false, ◌&&◌, List, map, eqb, length}
use Rattle.std.specs.Int.Count.{ones}
use Rattle.words.specs.Bits.{at}
use Rattle.words.specs.Searching.{least, is_found, sets_of_class}
use Rattle.std.specs.Prelude.{Option}
use Rattle.network.specs.declared.Network.{Network}
use Rattle.network.specs.Reading.{sequential_response}
use Rattle.network.specs.Joint.{joint_word}
use Rattle.network.specs.States.{DriverSet, few_drivers}
use Rattle.checker.specs.declared.Verdict.{Verdict}
use Rattle.checker.specs.Rule.{smaller_alike, bounded_verdict}

-- a table has what each set of the class below `next` reads, and none of them is confused with a smaller one
pub record Seen (net : Network) (k : ℕ) (vectors table : List ℕ) (next : ℕ) : Type 0 where
  pub readings : table ≡ map (sequential_response net vectors) (sets_of_class k next)
  pub none_confused : (set : ℕ) → set < next → set < 2 ^ net.nets
      → few_drivers net k set && is_found (smaller_alike net k vectors set) ≡ false

-- A set of the class, what its drivers drive, and the sets that have `left` drivers more at most, all below `limit`:
-- the set's own drivers are at or above it.
pub record Branch (net : Network) (k : ℕ) (vectors : List ℕ) (left limit set word : ℕ) : Type 0 where
  pub drivers : ones set + left ≡ k
  pub some_left : 0 < left
  pub limit_most : limit ≤ net.nets
  pub above : set % 2 ^ limit ≡ 0
  pub inside : set + 2 ^ limit ≤ 2 ^ net.nets
  pub driven : word ≡ joint_word net vectors set

-- no other set of the class can have answered so
abbrev pub OnlyAnswer : Network → ℕ → List ℕ → ℕ → ℕ → Type 0
OnlyAnswer net k vectors answered reach = (set : ℕ) → DriverSet net k set → sequential_response net vectors set ≡ answered → set ≡ reach

-- such a set for each answer
abbrev pub LookedUp : Network → ℕ → (vectors answers reaches : List ℕ) → Type 0
LookedUp net k vectors answers reaches = (i : ℕ) → i < length answers → OnlyAnswer net k vectors (at answers i) (at reaches i)

-- what each driver set reads, at its number
abbrev pub AllRead : Network → (vectors words : List ℕ) → Type 0
AllRead net vectors words = (set : ℕ) → set < 2 ^ net.nets → at words set ≡ sequential_response net vectors set

-- of the sets whose readings are given, the smallest of the class that reads so
abbrev pub first_alike : Network → ℕ → (words : List ℕ) → ℕ → Option ℕ
first_alike net k words word = least (length words) 0 (λ set. few_drivers net k set && eqb (at words set) word)

-- what a search of all sets of the class comes to: the rule's verdict, and where it is pass, the sets looked up
pub record Searched (net : Network) (k : ℕ) (vectors answers reaches : List ℕ) (v : Verdict) : Type 0 where
  pub rule : v ≡ bounded_verdict net k vectors
  pub sets : v ≡ Verdict.Pass → LookedUp net k vectors answers reaches
