-- What a receiver's answers to the extra vector and the walking vectors show of its reach.
use Rattle.std.specs.Prelude.{ℕ, ◌^◌, ◌<◌, ◌≡◌, ◌⊎◌, ◌≢◌, Bool, true, List, length}
use Rattle.words.specs.Bits.{has, at}
use Rattle.network.specs.declared.Network.{Network}
use Rattle.network.specs.Reading.{active, walking_vector, extra_vector, needs_extra}

-- the answer to a vector is the gate's active value
abbrev pub active_answer : Network → ℕ → ℕ → Bool
active_answer net answered t = active net (has answered t)

-- the first t answers, by those that are active: none to the extra vector, if there is one, and the drivers whose
-- walking vectors have such an answer
pub record Gathered (net : Network) (vectors : List ℕ) (on : ℕ → Bool) (t reach : ℕ) : Type 0 where
  pub inside : reach < 2 ^ net.nets
  pub driven : (u : ℕ) → u < t → on u ≡ true → needs_extra net ≡ true → at vectors u ≢ extra_vector net
  pub sound : (j : ℕ) → j < net.nets → has reach j ≡ true
      → (u : ℕ) × (u < t) × (at vectors u ≡ walking_vector net j) × (on u ≡ true)
  pub complete : (j u : ℕ) → j < net.nets → u < t → at vectors u ≡ walking_vector net j → on u ≡ true → has reach j ≡ true

-- all answers: nothing reaches a receiver whose answer to the extra vector is active; else the drivers gathered do
abbrev pub Walked : Network → List ℕ → ℕ → ℕ → Type 0
Walked net vectors answered reach =
    ((t : ℕ) × (t < length vectors) × (needs_extra net ≡ true) × (at vectors t ≡ extra_vector net)
    × (active_answer net answered t ≡ true) × (reach ≡ 0))
    ⊎ Gathered net vectors (active_answer net answered) (length vectors) reach
