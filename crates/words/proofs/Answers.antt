-- The table computed is the table said, and it leaves nothing open.
use Rattle.std.proofs.Common.{◌≡◌, refl, sym, ap, ap₂, ◌∙◌, subst, Bool, true, false, cond, ◌⊎◌, inl, inr, ◌≢◌, List}
use Rattle.std.proofs.Common.{[], ◌∷◌, ◌++◌, ℕ, ◌≤◌, arith, length, take, drop, length-append, length-drop}
use lib.Seq.{drop-append_seam, take-append_seam}
use Rattle.words.specs.Answers.{Answer, refused, full, ByTable, NoneHolds, by_tests, first_number, Decided, lent_after}
use Rattle.words.specs.Answers.{count_of, Filled, FillsByTable}

-- no answer is both a refusal and a full result
pub refused_not_full : {A B : Type 0} {number : ℕ} {x : A} {a : Answer A} → a ≡ refused number → a ≡ full x → B
refused_not_full {number = number} {x = x} p q = let e : refused number ≡ full x = sym p ∙ q in
    let z : ◌≡◌ {A = ℕ} 0 1 = cc in absurd (omega arith)

module _ {A : Type 0} (result : A → Type 0) where
  -- tests that decide their rows give the answer that the rows allow
  pub tests_by_table : (rows : List (ℕ × Type 0)) (tests : List (ℕ × Bool)) (x : A) → Decided rows tests → (NoneHolds rows → result x)
      → ByTable rows result (by_tests tests x)
  unfolding by_tests
  tests_by_table [] [] x d r = (x, refl, r tt)
  tests_by_table [] (t ∷ tests) x d r = absurd d
  tests_by_table (r ∷ rows) [] x d h = absurd d
  tests_by_table ((number, holds) ∷ rows) ((number', test) ∷ tests) x (same, decides, rest) r =
      go test decides.0 decides.1 (λ n. tests_by_table rows tests x (rest n))
    where
      go : (t : Bool) → (t ≡ true → holds) → (t ≡ false → ¬ holds)
          → (¬ holds → (NoneHolds rows → result x) → ByTable rows result (by_tests tests x))
          → (holds × (cond t (refused number') (by_tests tests x) ≡ refused number)) ⊎
          ((¬ holds) × ByTable rows result (cond t (refused number') (by_tests tests x)))
      go true yes! no! later = inl (yes! refl, ap refused (sym same))
      go false yes! no! later = inr (no! refl, later (no! refl) (λ n. r (no! refl, n)))

  -- two answers that the rows allow are equal, if the result is
  pub table_determined : (rows : List (ℕ × Type 0)) (a b : Answer A) → (NoneHolds rows → (x y : A) → result x → result y → x ≡ y)
      → ByTable rows result a → ByTable rows result b → a ≡ b
  table_determined [] a b one (x, p, rx) (y, q, ry) = p ∙ ap full (one tt x y rx ry) ∙ sym q
  table_determined ((number, holds) ∷ rows) a b one (inl (h, p)) (inl (k, q)) = p ∙ sym q
  table_determined ((number, holds) ∷ rows) a b one (inl (h, p)) (inr (k, q)) = absurd (k h)
  table_determined ((number, holds) ∷ rows) a b one (inr (h, p)) (inl (k, q)) = absurd (h k)
  table_determined ((number, holds) ∷ rows) a b one (inr (h, p)) (inr (k, q)) = table_determined rows a b (λ n. one (h, n)) p q

module _ {A : Type 0} (result : A → Type 0) where
  -- what is said of the full result may be said in other words
  pub table_implies : (other : A → Type 0) (rows : List (ℕ × Type 0)) (a : Answer A) → (NoneHolds rows → (x : A) → result x → other x)
      → ByTable rows result a → ByTable rows other a
  table_implies other [] a h (x, e, r) = (x, e, h tt x r)
  table_implies other ((number, holds) ∷ rows) a h (inl p) = inl p
  table_implies other ((number, holds) ∷ rows) a h (inr (n, p)) = inr (n, table_implies other rows a (λ m. h (n, m)) p)

  -- a full result that the rows allow is the result
  pub table_full : (rows : List (ℕ × Type 0)) (x : A) → ByTable rows result (full x) → result x
  table_full [] x (y, e, r) = let same : y ≡ x = cc in subst result same r
  table_full ((number, holds) ∷ rows) x (inl (h, e)) = refused_not_full e refl
  table_full ((number, holds) ∷ rows) x (inr (n, p)) = table_full rows x p

  -- and it is allowed only where no row holds
  pub table_none_holds : (rows : List (ℕ × Type 0)) (x : A) → ByTable rows result (full x) → NoneHolds rows
  table_none_holds [] x p = tt
  table_none_holds ((number, holds) ∷ rows) x (inl (h, e)) = refused_not_full e refl
  table_none_holds ((number, holds) ∷ rows) x (inr (n, p)) = (n, table_none_holds rows x p)

  -- where the first rows do not hold, the others decide
  pub table_skip : (rows more : List (ℕ × Type 0)) (a : Answer A) → NoneHolds rows → ByTable (rows ++ more) result a → ByTable more result a
  table_skip [] more a n p = p
  table_skip ((number, holds) ∷ rows) more a (n, m) (inl (h, e)) = absurd (n h)
  table_skip ((number, holds) ∷ rows) more a (n, m) (inr (k, p)) = table_skip rows more a m p

  -- where no row holds, no refusal is allowed
  pub table_not_refused : (rows : List (ℕ × Type 0)) (number : ℕ) → NoneHolds rows → ByTable rows result (refused number) → ⊥
  table_not_refused [] number n (y, e, r) = refused_not_full refl e
  table_not_refused ((other, holds) ∷ rows) number (n, m) (inl (h, e)) = n h
  table_not_refused ((other, holds) ∷ rows) number (n, m) (inr (k, p)) = table_not_refused rows number m p

-- of rows and others after them, none holds
pub none_front : (rows more : List (ℕ × Type 0)) → NoneHolds (rows ++ more) → NoneHolds rows
none_front [] more none = tt
none_front ((number, holds) ∷ rows) more (fails, none) = (fails, none_front rows more none)

pub none_rest : (rows more : List (ℕ × Type 0)) → NoneHolds (rows ++ more) → NoneHolds more
none_rest [] more none = none
none_rest ((number, holds) ∷ rows) more (fails, none) = none_rest rows more none

pub none_both : (rows more : List (ℕ × Type 0)) → NoneHolds rows → NoneHolds more → NoneHolds (rows ++ more)
none_both [] more none others = others
none_both ((number, holds) ∷ rows) more (fails, none) others = (fails, none_both rows more none others)

pub decided_append : (rows more : List (ℕ × Type 0)) (tests others : List (ℕ × Bool)) → Decided rows tests
    → (NoneHolds rows → Decided more others)
    → Decided (rows ++ more) (tests ++ others)
decided_append [] more [] others d e = e tt
decided_append [] more (t ∷ tests) others d e = absurd d
decided_append (r ∷ rows) more [] others d e = absurd d
decided_append ((number, holds) ∷ rows) more ((number', test) ∷ tests) others (same, decides, rest) e =
    (same, decides, λ n. decided_append rows more tests others (rest n) (λ m. e (n, m)))

-- where the tests let a call through, no row holds
pub let_through : {A : Type 0} (rows : List (ℕ × Type 0)) (tests : List (ℕ × Bool)) (x y : A) → Decided rows tests
    → by_tests tests x ≡ full y → NoneHolds rows
unfolding by_tests
let_through [] [] x y d e = tt
let_through [] (t ∷ tests) x y d e = absurd d
let_through (r ∷ rows) [] x y d e = absurd d
let_through ((number, holds) ∷ rows) ((number', test) ∷ tests) x y (same, decides, rest) e =
    go test decides.1 e (λ n. let_through rows tests x y (rest n))
  where
    go : (t : Bool) → (t ≡ false → ¬ holds) → cond t (refused number') (by_tests tests x) ≡ full y
        → (¬ holds → by_tests tests x ≡ full y → NoneHolds rows)
        → (¬ holds) × NoneHolds rows
    go true no! q later = refused_not_full refl q
    go false no! q later = (no! refl, later (no! refl) q)

-- ---- a full answer, and tests that all fail

abbrev pub AllFail : List (ℕ × Bool) → Type 0
AllFail [] = Unit {0}
AllFail ((number, test) ∷ tests) = (test ≡ false) × AllFail tests

-- a full answer is the result, and no test passed
pub none_passed : {A : Type 0} (tests : List (ℕ × Bool)) (x y : A) → by_tests tests x ≡ full y → AllFail tests × (x ≡ y)
unfolding by_tests
none_passed [] x y e = (tt, cc)
none_passed ((number, test) ∷ tests) x y e = go test e (none_passed tests x y)
  where
    go : (t : Bool) → cond t (refused number) (by_tests tests x) ≡ full y → (by_tests tests x ≡ full y → AllFail tests × (x ≡ y))
        → ((t ≡ false) × AllFail tests) × (x ≡ y)
    go true q later = refused_not_full refl q
    go false q later = let r = later q in ((refl, r.0), r.1)

pub full_answer : {A : Type 0} (tests : List (ℕ × Bool)) (x : A) → AllFail tests → by_tests tests x ≡ full x
unfolding by_tests
full_answer [] x h = refl
full_answer ((number, test) ∷ tests) x (e, h) = rw e (full_answer tests x h)

-- none of the numbers is 0
abbrev pub Numbered : List (ℕ × Bool) → Type 0
Numbered [] = Unit {0}
Numbered ((number, test) ∷ tests) = (number ≢ 0) × Numbered tests

-- tests before others, by the number of the first that passes
module _ {A : Type 0} (more : List (ℕ × Bool)) (x : A) where
  pub first_refuses : (tests : List (ℕ × Bool)) → first_number tests ≢ 0 → by_tests (tests ++ more) x ≡ refused (first_number tests)
  unfolding by_tests
  first_refuses [] some = absurd (some refl)
  first_refuses ((number, test) ∷ tests) some = go test (first_refuses tests) some
    where
      go : (t : Bool) → (first_number tests ≢ 0 → by_tests (tests ++ more) x ≡ refused (first_number tests))
          → cond t number (first_number tests) ≢ 0
          → cond t (refused number) (by_tests (tests ++ more) x) ≡ refused (cond t number (first_number tests))
      go true later some = refl
      go false later some = later some

  pub first_passes : (tests : List (ℕ × Bool)) → Numbered tests → first_number tests ≡ 0
      → by_tests (tests ++ more) x ≡ by_tests more x
  unfolding by_tests
  first_passes [] n none = refl
  first_passes ((number, test) ∷ tests) (n, ns) none = go test (first_passes tests ns) none
    where
      go : (t : Bool) → (first_number tests ≡ 0 → by_tests (tests ++ more) x ≡ by_tests more x)
          → cond t number (first_number tests) ≡ 0
          → cond t (refused number) (by_tests (tests ++ more) x) ≡ by_tests more x
      go true later none = absurd (n none)
      go false later none = later none

-- first tests that several calls share, then a call's own
module _ {A B : Type 0} (x : A) (y : B) where
  pub shared_refuse : (tests more : List (ℕ × Bool)) (number : ℕ) → by_tests tests x ≡ refused number
      → by_tests (tests ++ more) y ≡ refused number
  unfolding by_tests
  shared_refuse [] more number e = refused_not_full e refl
  shared_refuse ((n, test) ∷ tests) more number e = go test e (shared_refuse tests more number)
    where
      go : (t : Bool) → cond t (refused n) (by_tests tests x) ≡ refused number
          → (by_tests tests x ≡ refused number → by_tests (tests ++ more) y ≡ refused number)
          → cond t (refused n) (by_tests (tests ++ more) y) ≡ refused number
      go true q later = let same : n ≡ number = cc in ap refused same
      go false q later = later q

  pub shared_pass : (tests more : List (ℕ × Bool)) (z : A) → by_tests tests x ≡ full z → by_tests (tests ++ more) y ≡ by_tests more y
  unfolding by_tests
  shared_pass [] more z e = refl
  shared_pass ((n, test) ∷ tests) more z e = go test e (shared_pass tests more z)
    where
      go : (t : Bool) → cond t (refused n) (by_tests tests x) ≡ full z
          → (by_tests tests x ≡ full z → by_tests (tests ++ more) y ≡ by_tests more y)
          → cond t (refused n) (by_tests (tests ++ more) y) ≡ by_tests more y
      go true q later = refused_not_full refl q
      go false q later = later q

module _ {A : Type 0} where
  -- a longer list keeps its tail
  pub tail_kept : (xs old : List A) → drop (length xs) (lent_after (full xs) old) ≡ drop (length xs) old
  unfolding lent_after
  tail_kept xs old = drop-append_seam xs (drop (length xs) old)

  pub front_written : (xs old : List A) → take (length xs) (lent_after (full xs) old) ≡ xs
  unfolding lent_after
  front_written xs old = take-append_seam xs (drop (length xs) old)

  -- a list that has room keeps its length
  pub lent_length : (xs old : List A) → length xs ≤ length old → length (lent_after (full xs) old) ≡ length old
  unfolding lent_after
  lent_length xs old fits =
      let both = length-append xs (drop (length xs) old) in
      let tail = length-drop (length xs) old in omega arith

  -- what was written is within the list
  pub written_fits : (xs old : List A) → length xs ≤ length (lent_after (full xs) old)
  unfolding lent_after
  written_fits xs old = let both = length-append xs (drop (length xs) old) in omega arith

  -- what a call that fills a list owes when it refuses, and when it has written
  pub owed_refused : (a : Answer (List A)) (number : ℕ) (lent : List A) → a ≡ refused number
      → (refused number ≡ count_of a) × (lent ≡ lent_after a lent)
  unfolding count_of lent_after
  owed_refused a number lent e = (rw e, rw e)

  pub owed_full : (a : Answer (List A)) (count : ℕ) (xs lent list : List A) → a ≡ full xs → count ≡ length xs
      → list ≡ lent_after (full xs) lent
      → (full count ≡ count_of a) × (list ≡ lent_after a lent)
  unfolding count_of
  owed_full a count xs lent list e n l = (rw e (ap full n), rw e l)

  -- and what the number returned tells of the answer
  pub counted_refused : (a : Answer (List A)) (number : ℕ) → count_of a ≡ refused number → a ≡ refused number
  unfolding count_of
  counted_refused (refused other) number e = let same : other ≡ number = cc in ap refused same
  counted_refused (full xs) number e = refused_not_full e refl

  pub counted_full : (a : Answer (List A)) (count : ℕ) → count_of a ≡ full count → (xs : List A) × (a ≡ full xs) × (length xs ≡ count)
  unfolding count_of
  counted_full (refused number) count e = refused_not_full refl e
  counted_full (full xs) count e = let same : length xs ≡ count = cc in (xs, refl, same)

  -- two calls that fill a list by one table did the same, if the table allows one answer only
  pub fills_determined : (rows : List (ℕ × Type 0)) (result : List A → Type 0) (lent : List A) (p q : Filled A)
      → ((a b : Answer (List A)) → ByTable rows result a → ByTable rows result b → a ≡ b)
      → FillsByTable rows result lent p → FillsByTable rows result lent q → p ≡ q
  fills_determined rows result lent p q one f g =
      let same : f.answer ≡ g.answer = one f.answer g.answer f.allowed g.allowed in
      ap₂ (λ (r : Answer ℕ) (l : List A). record { returned = r; list = l })
      (f.returned ∙ ap count_of same ∙ sym g.returned) (f.list ∙ ap (λ (x : Answer (List A)). lent_after x lent) same ∙ sym g.list)
