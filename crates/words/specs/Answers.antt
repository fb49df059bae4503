-- What every call answers, and what it leaves in the memory that was lent to it.
use Rattle.std.specs.Prelude.{ℕ, ◌≡◌, ◌⊎◌, Bool, true, false, cond, List, [], ◌∷◌, ◌++◌, length, drop}

-- a refusal number of the table of documents 01 and 02, or the full result
pub data Answer (A : Type 0) : Type 0 where
  refused : ℕ → Answer A
  full : A → Answer A

-- ---- the table, as document 01 says it

-- Rows from top to bottom, each a number and what holds. The first that holds is the answer; if none holds, the full
-- result.
abbrev pub ByTable : {A : Type 0} → List (ℕ × Type 0) → (A → Type 0) → Answer A → Type 0
ByTable {A} [] result a = (x : A) × (a ≡ full x) × result x
ByTable ((number, holds) ∷ rows) result a = (holds × (a ≡ refused number)) ⊎ ((¬ holds) × ByTable rows result a)

abbrev pub NoneHolds : List (ℕ × Type 0) → Type 0
NoneHolds [] = Unit {0}
NoneHolds ((number, holds) ∷ rows) = (¬ holds) × NoneHolds rows

-- ---- the table, computed

-- the number of the first test that passes, or else the full result
unfoldable pub by_tests : {A : Type 0} → List (ℕ × Bool) → A → Answer A
by_tests [] x = full x
by_tests ((number, test) ∷ tests) x = let rest = by_tests tests x in cond test (refused number) rest

-- that number alone, or 0
abbrev pub first_number : List (ℕ × Bool) → ℕ
first_number [] = 0
first_number ((number, test) ∷ tests) = cond test number (first_number tests)

-- a test that passes exactly where something holds
abbrev pub Decides : Bool → Type 0 → Type 0
Decides test holds = (test ≡ true → holds) × (test ≡ false → ¬ holds)

-- row by row the same numbers, and tests that decide what holds; a test is asked only where no earlier row holds
abbrev pub Decided : List (ℕ × Type 0) → List (ℕ × Bool) → Type 0
Decided [] [] = Unit {0}
Decided [] (t ∷ tests) = ⊥
Decided (r ∷ rows) [] = ⊥
Decided ((number, holds) ∷ rows) ((number', test) ∷ tests) = (number ≡ number') × Decides test holds × (¬ holds → Decided rows tests)

-- ---- lent lists

-- A lent list after the call: as it was after a refusal; else what was written, then its old tail.
unfoldable pub lent_after : {A : Type 0} → Answer (List A) → List A → List A
lent_after (refused k) old = old
lent_after (full xs) old = xs ++ drop (length xs) old

-- what a call that fills a lent list returns: the refusal, or how many entries it wrote
unfoldable pub count_of : {A : Type 0} → Answer (List A) → Answer ℕ
count_of (refused k) = refused k
count_of (full xs) = full (length xs)

-- A call that fills a lent list: what it returned, and the list after it.
pub record Filled (A : Type 0) : Type 0 where
  pub returned : Answer ℕ
  pub list : List A

-- Such a call by its rows: some answer that they allow is the one returned and written into the list lent.
pub record FillsByTable {A : Type 0} (rows : List (ℕ × Type 0)) (result : List A → Type 0) (lent : List A) (did : Filled A) : Type 0 where
  pub answer : Answer (List A)
  pub allowed : ByTable rows result answer
  pub returned : did.returned ≡ count_of answer
  pub list : did.list ≡ lent_after answer lent
