-- What the code's helpers ask and give.
use Rattle.std.specs.Prelude.{ℕ, ◌<◌, ◌≡◌, List, length}
use Rattle.words.specs.Bits.{at}

-- cells of a chain, none of them twice
pub record Distinct (L : ℕ) (cells : List ℕ) : Type 0 where
  pub inside : (i : ℕ) → i < length cells → at cells i < L
  pub apart : (i j : ℕ) → i < length cells → j < length cells → at cells i ≡ at cells j → i ≡ j

-- cells of a chain
abbrev pub Inside : ℕ → List ℕ → Type 0
Inside L cells = (i : ℕ) → i < length cells → at cells i < L

-- a list that begins with these bytes
abbrev pub BeginsWith : (list bytes : List ℕ) → Type 0
BeginsWith list bytes = (i : ℕ) → i < length bytes → at list i ≡ at bytes i
