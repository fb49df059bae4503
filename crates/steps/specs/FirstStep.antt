-- The first step of a session: each net has a sequential word (STV) of its own, and none covers another.
use Rattle.std.specs.Prelude.{ℕ, zero, suc, ◌+◌, ◌/◌, ◌^◌, ◌<◌, ◌≤◌, ◌≡◌, ◌⊎◌, List, eqb, leb, length, take}
use Rattle.words.specs.Bits.{has, at, ones_of}
use Rattle.words.specs.Searching.{least, or_zero, passing}
use Rattle.words.specs.Turning.{transpose}
use Rattle.network.specs.declared.Network.{Network}

-- document 01's C(p, q): the number of ways to choose q of p things
unfoldable pub binomial : ℕ → ℕ → ℕ
binomial p zero = 1
binomial zero (suc q) = 0
binomial (suc p) (suc q) = binomial p q + binomial p (suc q)

-- document 01's p: the smallest number with C(p, p/2 rounded down) at least n
unfoldable pub word_length : Network → ℕ
word_length net = or_zero (least (suc net.nets) 0 (λ p. leb net.nets (binomial p (p / 2))))

-- the numbers below 2^p with exactly p/2 (rounded down) ones, ascending
unfoldable pub balanced_words : ℕ → List ℕ
balanced_words p = passing (λ w. eqb (ones_of p w) (p / 2)) (2 ^ p)

-- the n smallest of them, net 0 first: the sequential words of step one
unfoldable pub sequential_words : Network → List ℕ
sequential_words net = take net.nets (balanced_words (word_length net))

-- the p vectors of step one: bit i of vector t is bit t of net i's word
unfoldable pub first_vectors : Network → List ℕ
first_vectors net = transpose (word_length net) (sequential_words net)

-- ---- the same, as document 01 says it

pub record WordLength (net : Network) (p : ℕ) : Type 0 where
  pub enough : net.nets ≤ binomial p (p / 2)
  pub smallest : (q : ℕ) → q < p → binomial q (q / 2) < net.nets

pub record SmallestWords (net : Network) (p : ℕ) (words : List ℕ) : Type 0 where
  pub one_a_net : length words ≡ net.nets
  pub below : (i : ℕ) → i < net.nets → at words i < 2 ^ p
  pub half_ones : (i : ℕ) → i < net.nets → ones_of p (at words i) ≡ p / 2
  pub ascending : (i j : ℕ) → i < j → j < net.nets → at words i < at words j
  -- every other such word is larger than all of them
  pub smallest : (w : ℕ) → w < 2 ^ p → ones_of p w ≡ p / 2
      → ((i : ℕ) × (i < net.nets) × (at words i ≡ w)) ⊎ ((i : ℕ) → i < net.nets → at words i < w)

-- The words of p bits turned into p vectors: bit t of net i's word is bit i of vector t, and there are no other bits.
pub record VectorsOfWords (net : Network) (p : ℕ) (words vectors : List ℕ) : Type 0 where
  pub one_a_bit : length vectors ≡ p
  pub no_high_bit : (t : ℕ) → t < p → at vectors t < 2 ^ net.nets
  pub bits : (t i : ℕ) → t < p → i < net.nets → has (at vectors t) i ≡ has (at words i) t
