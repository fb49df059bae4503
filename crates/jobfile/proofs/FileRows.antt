-- The tests of the file's rows decide them.
use Rattle.std.proofs.Common.{◌≡◌, refl, sym, ap, ap₂, ◌∙◌, ◌⊎◌, ◌≢◌, ⊎_elim, Bool, true, false, not, cond, ◌&&◌}
use Rattle.std.proofs.Common.{◌||◌, true≢false, List, [], ◌∷◌, ℕ, zero, suc, ◌+◌, ◌-◌, ◌%◌, ◌≤◌, ◌<◌, arith, eqb, ltb}
use Rattle.std.proofs.Common.{length, take, eqb-true, eq-eqb, ne_eqb, ltb-false, le-ltb}
use mathlib.Core.Bool.{false≢true}
use borrow.Author.Tests.{not-false}
use Rattle.std.specs.List.{starts_with}
use Rattle.std.proofs.lemmas.Slice.Eq.{bytes_eq-Decides}
use Rattle.words.specs.Answers.{Decides}
use Rattle.words.specs.Searching.{any}
use Rattle.words.proofs.Tests.{cases, contrary, and_left, and_right, and_both, and_false, neither, decides_less}
use Rattle.words.proofs.Tests.{decides_equal, decides_not, decides_or, decides_and, test_passes}
use Rattle.words.proofs.Searching.{any_none, any_false, decides_any}
use Rattle.jobfile.specs.Layout.{mark, most_bytes, entry_count, bodies_at, entry_kind, body_offset, body_length}
use Rattle.jobfile.specs.Layout.{Row1, Layout, Row2, Row3, same_bytes, bad_mark, bad_entry, bad_layout}
use Rattle.jobfile.specs.Layout.{KindAt, kind_at, nets_size, bad_bodies}
use Rattle.jobfile.specs.VectorsBody.{lead}

-- ---- row 1

same_is : (xs ys : List ℕ) → same_bytes xs ys ≡ true → xs ≡ ys
unfolding same_bytes
same_is [] [] e = refl
same_is [] (y ∷ ys) e = absurd (false≢true e)
same_is (x ∷ xs) [] e = absurd (false≢true e)
same_is (x ∷ xs) (y ∷ ys) e =
    ap₂ (λ (z : ℕ) (zs : List ℕ). z ∷ zs) (eqb-true x y (and_left (eqb x y) (same_bytes xs ys) e))
    (same_is xs ys (and_right (eqb x y) (same_bytes xs ys) e))

same_itself : (xs : List ℕ) → same_bytes xs xs ≡ true
unfolding same_bytes
same_itself [] = refl
same_itself (x ∷ xs) = and_both (eq-eqb x x refl) (same_itself xs)

pub same_if_equal : (xs ys : List ℕ) → xs ≡ ys → same_bytes xs ys ≡ true
same_if_equal xs ys q = ap (same_bytes xs) (sym q) ∙ same_itself xs

pub decides_same_bytes : (xs ys : List ℕ) → Decides (same_bytes xs ys) (xs ≡ ys)
decides_same_bytes xs ys = (same_is xs ys, λ e q. contrary (same_if_equal xs ys q) e)

-- the library's test of a file's first bytes is this one
pub starts_same : (file : List ℕ) → starts_with eqb file mark ≡ same_bytes (take 4 file) mark
starts_same file =
    let first = take 4 file in
    let d = bytes_eq-Decides mark first in
    let s = decides_same_bytes first mark in
    ⊎_elim (λ e. d.1 (sym (s.0 e)) ∙ sym e)
    (λ e. ⊎_elim (λ q. absurd (s.1 e (sym (d.0 q)))) (λ q. q) (cases (starts_with eqb file mark)) ∙ sym e)
    (cases (same_bytes first mark))

pub decides_row_1 : (file : List ℕ) → Decides (bad_mark file) (Row1 file)
decides_row_1 file = decides_not (decides_same_bytes (take 4 file) mark)

-- ---- row 2

decides_kind : (i kind : ℕ) → Decides (kind_at i kind) (KindAt i kind)
decides_kind i kind = decides_or (decides_equal kind (suc i)) (decides_and (decides_equal i 1) (decides_equal kind 4))

-- an entry that breaks nothing
module _ (file : List ℕ) (i : ℕ) where
  abbrev pub body_start : ℕ
  body_start = cond (eqb i 0) (bodies_at (entry_count file)) (body_offset file (i - 1) + body_length file (i - 1))

  abbrev ends_early : Bool
  ends_early = eqb (suc i) (entry_count file) && not (eqb (body_offset file i + body_length file i) (length file))

  entry_facts : bad_entry file i ≡ false → KindAt i (entry_kind file i) × (body_offset file i ≡ body_start) × (ends_early ≡ false)
  unfolding bad_entry
  entry_facts e =
      let p = neither (not (kind_at i (entry_kind file i))) (not (eqb (body_offset file i) body_start) || ends_early) e in
      let q = neither (not (eqb (body_offset file i) body_start)) ends_early p.1 in
      ((decides_kind i (entry_kind file i)).0 (not-false _ p.0), eqb-true _ _ (not-false _ q.0), q.1)

  entry_test : KindAt i (entry_kind file i) → body_offset file i ≡ body_start → ends_early ≡ false → bad_entry file i ≡ false
  unfolding bad_entry
  entry_test k o l = rw (test_passes (decides_kind i (entry_kind file i)) k, eq-eqb (body_offset file i) body_start o, l)

start_after : (file : List ℕ) (i : ℕ) → body_start file (suc i) ≡ body_offset file i + body_length file i
start_after file i = let back : suc i - 1 ≡ i = omega arith in rw (ne_eqb (suc i) 0 (λ e. omega arith), back)

-- what a file that passes the test has
module _ (file : List ℕ) (e : bad_layout file ≡ false) where
  layout_facts : (length file ≤ most_bytes) × ((entry_count file ≡ 2) ⊎ (entry_count file ≡ 3))
      × (bodies_at (entry_count file) ≤ length file)
      × ((i : ℕ) → i < entry_count file → bad_entry file i ≡ false)
  unfolding bad_layout
  layout_facts =
      let entry = any (entry_count file) (bad_entry file) in
      let table = ltb (length file) (bodies_at (entry_count file)) in
      let counted = eqb (entry_count file) 2 || eqb (entry_count file) 3 in
      let p = neither (ltb most_bytes (length file)) (not counted || (table || entry)) e in
      let q = neither (not counted) (table || entry) p.1 in
      let r = neither table entry q.1 in (
        ltb-false _ _ p.0,
        (decides_or (decides_equal (entry_count file) 2) (decides_equal (entry_count file) 3)).0 (not-false _ q.0),
        ltb-false _ _ r.0,
        λ i l. any_false (bad_entry file) (entry_count file) i l r.1,
      )

  pub two_entries : 2 ≤ entry_count file
  two_entries = ⊎_elim (λ q. omega arith) (λ q. omega arith) layout_facts.1

  pub table_there : bodies_at (entry_count file) ≤ length file
  table_there = layout_facts.2

  pub test→layout : Layout file
  test→layout = record {
    size = layout_facts.0;
    entries = layout_facts.1;
    table = layout_facts.2;
    kinds = λ i l. (entry_facts file i (layout_facts.3 i l)).0;
    first_body = (entry_facts file 0 (layout_facts.3 0 (omega (arith, two_entries)))).1;
    no_gaps = λ i l. (entry_facts file (suc i) (layout_facts.3 (suc i) l)).1 ∙ start_after file i;
    to_the_end = λ i q. ends i q;
  }
    where
      ends : (i : ℕ) → suc i ≡ entry_count file → body_offset file i + body_length file i ≡ length file
      ends i q =
          let early = (entry_facts file i (layout_facts.3 i (omega arith))).2 in
          eqb-true _ _ (not-false _
          (sym (ap (λ (b : Bool). b && not (eqb (body_offset file i + body_length file i) (length file)))
          (eq-eqb (suc i) (entry_count file) q)) ∙ early))

module _ (file : List ℕ) (h : Layout file) where
  entry_passes : (i : ℕ) → i < entry_count file → bad_entry file i ≡ false
  entry_passes i l = entry_test file i (h.kinds i l) (start i l) (ends i)
    where
      start : (i : ℕ) → i < entry_count file → body_offset file i ≡ body_start file i
      start zero l = h.first_body
      start (suc i) l = h.no_gaps i l ∙ sym (start_after file i)

      ends : (i : ℕ) → ends_early file i ≡ false
      ends i =
          ⊎_elim
          (λ e.
          let all = h.to_the_end i (eqb-true (suc i) (entry_count file) e) in
          rw (eq-eqb (body_offset file i + body_length file i) (length file) all) (and_false (eqb (suc i) (entry_count file))))
          (λ e. rw e)
          (cases (eqb (suc i) (entry_count file)))

  pub layout→test : bad_layout file ≡ false
  unfolding bad_layout
  layout→test =
      let counted = test_passes (decides_or (decides_equal (entry_count file) 2) (decides_equal (entry_count file) 3)) h.entries in
      rw (le-ltb most_bytes (length file) h.size, counted, le-ltb (length file) (bodies_at (entry_count file)) h.table)
      (any_none (bad_entry file) (entry_count file) entry_passes)

pub decides_row_2 : (file : List ℕ) → Decides (bad_layout file) (Row2 file)
decides_row_2 file = (λ e h. contrary e (layout→test file h), λ e n. n (test→layout file e))

-- the test, taken in two: before the entries, and the entries
three_hold : (a b t entry : Bool) → a || (b || t) ≡ true → a || (b || (t || entry)) ≡ true
three_hold true b t entry e = refl
three_hold false true t entry e = refl
three_hold false false true entry e = refl
three_hold false false false entry e = absurd (false≢true e)

three_fail : (a b t entry : Bool) → a || (b || t) ≡ false → (t ≡ false) × (a || (b || (t || entry)) ≡ entry)
three_fail true b t entry e = absurd (true≢false e)
three_fail false true t entry e = absurd (true≢false e)
three_fail false false true entry e = absurd (true≢false e)
three_fail false false false entry e = (refl, refl)

module _ (file : List ℕ) (count : ℕ) (counted : count ≡ entry_count file) where
  abbrev size_breaks : ℕ → Bool
  size_breaks entries = ltb most_bytes (length file) || (not (eqb entries 2 || eqb entries 3) || ltb (length file) (bodies_at entries))

  pub table_breaks : size_breaks count ≡ true → bad_layout file ≡ true
  unfolding bad_layout
  table_breaks e =
      three_hold (ltb most_bytes (length file)) (not (eqb (entry_count file) 2 || eqb (entry_count file) 3))
      (ltb (length file) (bodies_at (entry_count file)))
      (any (entry_count file) (bad_entry file)) (ap size_breaks (sym counted) ∙ e)

  pub table_stands : size_breaks count ≡ false
      → (bodies_at (entry_count file) ≤ length file) × (bad_layout file ≡ any (entry_count file) (bad_entry file))
  unfolding bad_layout
  table_stands e =
      let f =
      three_fail (ltb most_bytes (length file)) (not (eqb (entry_count file) 2 || eqb (entry_count file) 3))
      (ltb (length file) (bodies_at (entry_count file)))
      (any (entry_count file) (bad_entry file)) (ap size_breaks (sym counted) ∙ e) in
      (ltb-false _ _ f.0, f.1)

-- ---- row 3

pub decides_row_3 : (file : List ℕ) → Decides (bad_bodies file) (Row3 file)
unfolding bad_bodies
decides_row_3 file =
    let d =
    decides_any (λ i. ltb 0 i && not (eqb (body_length file i % 8) (lead (entry_kind file i))))
    (λ i. (0 < i) × (body_length file i % 8 ≢ lead (entry_kind file i))) (entry_count file)
    (λ i. decides_and (decides_less 0 i) (decides_not (decides_equal (body_length file i % 8) (lead (entry_kind file i))))) in
    decides_or (decides_not (decides_equal (body_length file 0) nets_size))
    (λ e. let w = d.0 e in (w.0, w.2.0, w.1, w.2.1), λ e w. d.1 e (w.0, w.2, (w.1, w.3)))
