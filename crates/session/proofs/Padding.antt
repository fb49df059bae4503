-- Words at the front of an array of zeros.
use Rattle.std.proofs.Common.{ℕ, zero, suc, ◌-◌, ◌≤◌, arith, ◌≡◌, ap, ◌∙◌, List, ◌++◌, length, drop, replicate}
use Rattle.std.proofs.Common.{length-append}
use lib.ListN.{length-replicate}
use Rattle.words.specs.Answers.{full, lent_after}
use Rattle.session.specs.Record.{pad}

zeros_left : (count size : ℕ) → drop count (replicate {A = ℕ} size 0) ≡ replicate (size - count) 0
zeros_left zero size = let e : size - 0 ≡ size = omega arith in rw e
zeros_left (suc count) zero = let e : 0 - suc count ≡ 0 = omega arith in rw e
zeros_left (suc count) (suc size) = let e : suc size - suc count ≡ size - count = omega arith in rw e (zeros_left count size)

pub padded : (size : ℕ) (words : List ℕ) → lent_after (full words) (replicate size 0) ≡ pad size words
unfolding lent_after
padded size words = ap (λ (rest : List ℕ). words ++ rest) (zeros_left (length words) size)

pub pad_size : (size : ℕ) (words : List ℕ) → length words ≤ size → length (pad size words) ≡ size
pad_size size words l =
    length-append words (replicate (size - length words) 0) ∙ omega (arith, length-replicate {A = ℕ} (size - length words) 0)
