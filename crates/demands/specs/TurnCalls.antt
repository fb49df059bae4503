-- The calls *turn* and *turn back*: a program for each, and what is asked of them on every input.
use Rattle.std.specs.Prelude.{ℕ, ◌≤◌, ◌≡◌, List, length, take}
use Rattle.words.specs.Answers.{full, Filled, FillsByTable}
use Rattle.turning.specs.Turn.{Exchanged, TurnRows, TurnBackRows}

-- what they return, and the lent list after them
abbrev pub TurnProgram : Type 0
TurnProgram = (nets : ℕ) → (vectors lent : List ℕ) → Filled ℕ

abbrev pub TurnBackProgram : Type 0
TurnBackProgram = (nets count : ℕ) → (words lent : List ℕ) → Filled ℕ

-- On every input they refuse by the first row that holds and leave the list as it was, or write the words with rows and
-- columns exchanged into its front and keep its tail.
abbrev pub Turns : TurnProgram → Type 0
Turns program = (nets : ℕ) (vectors lent : List ℕ)
    → FillsByTable (TurnRows nets vectors (length lent)) (Exchanged nets vectors) lent (program nets vectors lent)

abbrev pub TurnsBack : TurnBackProgram → Type 0
TurnsBack program = (nets count : ℕ) (words lent : List ℕ)
    → FillsByTable (TurnBackRows nets count words (length lent)) (Exchanged count words) lent (program nets count words lent)

-- either after the other gives back what went in
pub record ThereAndBack (turn : TurnProgram) (back : TurnBackProgram) : Type 0 where
  pub turned_back : (nets : ℕ) (vectors lent vectors_lent : List ℕ) (count : ℕ) → (turn nets vectors lent).returned ≡ full count
      → length vectors ≤ length vectors_lent
      → let did = back nets (length vectors) (take count (turn nets vectors lent).list) vectors_lent in
      (did.returned ≡ full (length vectors)) × (take (length vectors) did.list ≡ vectors)
  pub turned_again : (nets v : ℕ) (words lent words_lent : List ℕ) (count : ℕ) → (back nets v words lent).returned ≡ full count
      → length words ≤ length words_lent
      → let did = turn nets (take count (back nets v words lent).list) words_lent in
      (did.returned ≡ full (length words)) × (take (length words) did.list ≡ words)
