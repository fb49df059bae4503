-- Laws of writing into a list.
use Rattle.std.proofs.Common.{◌≡◌, sym, ap, ap₂, ◌∙◌, List, [], ◌∷◌, ◌++◌, append_assoc, append-nil, ℕ, suc, ◌+◌, ◌≤◌}
use Rattle.std.proofs.Common.{◌<◌, arith, length, take, drop, set, length-append, length-drop, take-append-drop}
use Rattle.std.proofs.Common.{length-take-le, take_at, drop-drop}
use lib.Seq.{drop-append-add, set_split}
use Rattle.words.specs.Answers.{lent_after, full}
use Rattle.words.specs.Writing.{written}

module _ (list : List ℕ) (index : ℕ) where
  pub written_none : written list index [] ≡ list
  unfolding written
  written_none =
      let e : index + 0 ≡ index = omega arith in
      ap₂ (λ (front : List ℕ) (n : ℕ). front ++ drop n list) (append-nil (take index list)) e ∙ take-append-drop index list

  pub written_one : (entry : ℕ) → index < length list → set list index entry ≡ written list index (entry ∷ [])
  unfolding written
  written_one entry l =
      let e : suc index ≡ index + 1 = omega arith in
      set_split list index entry l ∙ sym (append_assoc (take index list) (entry ∷ []) (drop (suc index) list))
      ∙ ap (λ (n : ℕ). take index list ++ (entry ∷ []) ++ drop n list) e

  -- the front of the list up to the end of what was written
  front_size : (entries : List ℕ) → index ≤ length list → length (take index list ++ entries) ≡ index + length entries
  front_size entries l =
      let front = length-take-le index list l in
      let both = length-append (take index list) entries in
      omega arith

  pub written_length : (entries : List ℕ) → index + length entries ≤ length list → length (written list index entries) ≡ length list
  unfolding written
  written_length entries l =
      let front = front_size entries (omega arith) in
      let tail = length-drop (index + length entries) list in
      let both = length-append (take index list ++ entries) (drop (index + length entries) list) in
      omega arith

  -- entries, then others right after them
  pub written_more : (first second : List ℕ) → index ≤ length list
      → written (written list index first) (index + length first) second ≡ written list index (first ++ second)
  unfolding written
  written_more first second l =
      let front = front_size first l in
      let head = take index list ++ first in
      let tail = drop (index + length first) list in
      let size : index + length first + length second ≡ length head + length second = omega arith in
      let end : index + length first + length second ≡ index + length (first ++ second) = let both =
      length-append first second in omega arith in
      let rest : drop (index + length first + length second) (head ++ tail) ≡ drop (index + length (first ++ second)) list =
      ap (λ (n : ℕ). drop n (head ++ tail)) size ∙ drop-append-add head tail (length second)
      ∙ drop-drop (length second) (index + length first) list
      ∙ ap (λ (n : ℕ). drop n list) end in
      ap₂ (λ (a b : List ℕ). a ++ second ++ b) (take_at head tail (index + length first) front) rest
      ∙ ap (λ (a : List ℕ). a ++ drop (index + length (first ++ second)) list) (append_assoc (take index list) first second)

-- a list after one write, and after a second right behind it
pub written_next : (list middle after : List ℕ) (index next : ℕ) (first second : List ℕ)
    → middle ≡ written list index first → after ≡ written middle next second
    → next ≡ index + length first → index ≤ length list → after ≡ written list index (first ++ second)
written_next list middle after index next first second e f n l =
    f ∙ ap₂ (λ (m : List ℕ) (k : ℕ). written m k second) e n ∙ written_more list index first second l

-- from the front on
pub written_front : (list entries : List ℕ) → written list 0 entries ≡ lent_after (full entries) list
unfolding written lent_after
written_front list entries = let e : 0 + length entries ≡ length entries = omega arith in ap (λ (n : ℕ). entries ++ drop n list) e
