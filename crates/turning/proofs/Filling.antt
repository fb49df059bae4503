-- The loops that put turned words into a list: a turn, and the end.
use Rattle.std.proofs.Common.{◌≡◌, sym, ap₂, ◌∙◌, List, ◌++◌, ℕ, ◌+◌, ◌≤◌, ◌<◌, arith, length, take, drop, set}
use Rattle.words.specs.Answers.{full, lent_after}
use Rattle.words.specs.Turning.{column, transpose}
use Rattle.words.proofs.Making.{list_fill, list_filled}
use Rattle.words.proofs.Columns.{transpose_size, transpose_at}

module _ (columns : ℕ) (rows lent list : List ℕ) (i : ℕ) (so_far : list ≡ take i (transpose columns rows) ++ drop i lent) where
  pub turn_more : (word : ℕ) → word ≡ column rows i → i < columns → columns ≤ length lent
      → set list i word ≡ take (i + 1) (transpose columns rows) ++ drop (i + 1) lent
  turn_more word e l room =
      let size = transpose_size columns rows in
      ap₂ (λ (m : List ℕ) (x : ℕ). set m i x) so_far (e ∙ sym (transpose_at columns rows i l))
      ∙ list_fill (transpose columns rows) lent i (omega (arith, size)) (omega arith)

  pub turn_end : i ≤ columns → columns ≤ i → list ≡ lent_after (full (transpose columns rows)) lent
  unfolding lent_after
  turn_end l m =
      let size = transpose_size columns rows in
      so_far ∙ list_filled (transpose columns rows) lent i (omega (arith, size)) (omega (arith, size))
