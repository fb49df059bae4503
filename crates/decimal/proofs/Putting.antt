-- Bytes put into a text from an index on.
use Rattle.std.proofs.Common.{◌≡◌, ap, List, ◌++◌, ℕ, ◌+◌, length, take, drop}
use Rattle.std.proofs.Math.Seq.{paste, take-length}
use Rattle.words.specs.Writing.{written}

pub pasted : (text : List ℕ) (start : ℕ) (bytes : List ℕ) → paste text start bytes (length bytes) ≡ written text start bytes
unfolding written
pasted text start bytes =
    ap (λ (front : List ℕ). take start text ++ front ++ drop (start + length bytes) text) (take-length bytes)
