-- What a call that fills a list returned and wrote, and its answer: each from the other.
use Rattle.std.proofs.Common.{◌≡◌, sym, ap, ◌∙◌, List, ℕ, length, take}
use Rattle.words.specs.Answers.{Answer, full, lent_after, count_of}
use Rattle.words.proofs.Answers.{counted_full, front_written}

-- it says how many words it wrote: these are at the front of the list
pub front : (a : Answer (List ℕ)) (count : ℕ) (lent : List ℕ) → count_of a ≡ full count
    → (xs : List ℕ) × (a ≡ full xs) × (take count (lent_after a lent) ≡ xs)
front a count lent e =
    let w = counted_full a count e in (
      w.0,
      w.1,
      ap (λ (b : Answer (List ℕ)). take count (lent_after b lent)) w.1
          ∙ ap (λ (n : ℕ). take n (lent_after (full w.0) lent)) (sym w.2) ∙ front_written w.0 lent,
    )

-- its answer is known
pub wrote : (a : Answer (List ℕ)) (xs lent : List ℕ) → a ≡ full xs
    → (count_of a ≡ full (length xs)) × (take (length xs) (lent_after a lent) ≡ xs)
unfolding count_of
wrote a xs lent e = (
  ap count_of e,
  ap (λ (b : Answer (List ℕ)). take (length xs) (lent_after b lent)) e ∙ front_written xs lent,
)
