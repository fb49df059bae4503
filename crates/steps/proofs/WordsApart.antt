-- What the proofs need of the sequential words of step one: each has a 0 and a 1, and none covers another.
use Rattle.std.proofs.Common.{ℕ, ◌^◌, ◌<◌, ◌≡◌, ◌≢◌, true, false, length}
use Rattle.words.specs.Bits.{has, at}
use Rattle.network.specs.declared.Network.{Network}
use Rattle.steps.specs.FirstStep.{word_length, sequential_words}

pub record WordsApart (net : Network) : Type 0 where
  pub size : length (sequential_words net) ≡ net.nets
  pub below : (i : ℕ) → i < net.nets → at (sequential_words net) i < 2 ^ word_length net
  pub has_gap : (i : ℕ) → i < net.nets → (t : ℕ) × (t < word_length net) × (has (at (sequential_words net) i) t ≡ false)
  pub has_one : (i : ℕ) → i < net.nets → (t : ℕ) × (t < word_length net) × (has (at (sequential_words net) i) t ≡ true)
  pub uncovered : (i j : ℕ) → i < net.nets → j < net.nets → i ≢ j
      → (t : ℕ) × (t < word_length net) × (has (at (sequential_words net) j) t ≡ true) × (has (at (sequential_words net) i) t ≡ false)
