-- The second step of a session: which nets the first answers leave unclear, and the vectors that settle them.
use Rattle.std.specs.Prelude.{ℕ, ◌^◌, ◌<◌, ◌≡◌, ◌↔◌, Bool, not, cond, List, [], ◌∷◌, ◌++◌, map, eqb, length}
use Rattle.words.specs.Bits.{at}
use Rattle.words.specs.Searching.{passing, any}
use Rattle.words.specs.Turning.{column, transpose}
use Rattle.network.specs.declared.Network.{Network}
use Rattle.network.specs.Reading.{walking_vector, extra_vectors}
use Rattle.steps.specs.FirstStep.{sequential_words, first_vectors}

-- the receivers of net i, all of them and no other, returned this word; `words` is what the receivers returned,
-- `owners` has the net of each: no receiver of net i failed to return it, and no other returned it
unfoldable pub only_from : ℕ → (words owners : List ℕ) → ℕ → Bool
only_from word words owners i =
    not (any (length owners) (λ r. let returned = eqb (at words r) word in
    cond (eqb (at owners r) i) (not returned) returned))

-- net i is clear if all its receivers returned its sequential word and no other receiver did; the answers turned are
-- what the receivers returned
unfoldable pub is_clear : Network → (owners answers : List ℕ) → ℕ → Bool
is_clear net owners answers i = only_from (at (sequential_words net) i) (transpose (length owners) answers) owners i

-- the same, as a proposition
pub record Clear (net : Network) (owners answers : List ℕ) (i : ℕ) : Type 0 where
  pub own : (r : ℕ) → r < length owners → at owners r ≡ i → column answers r ≡ at (sequential_words net) i
  pub alone : (r : ℕ) → r < length owners → column answers r ≡ at (sequential_words net) i → at owners r ≡ i

-- the unclear nets, ascending; document 01's F is their count
unfoldable pub unclear : Network → (owners answers : List ℕ) → List ℕ
unclear net owners answers = passing (λ i. not (is_clear net owners answers i)) net.nets

-- the same, as document 01 says it: nets of the network, ascending, and just those that are not clear
pub record UnclearNets (net : Network) (owners answers nets : List ℕ) : Type 0 where
  pub below : (u : ℕ) → u < length nets → at nets u < net.nets
  pub ascending : (u v : ℕ) → u < v → v < length nets → at nets u < at nets v
  pub not_clear : (i : ℕ) → i < net.nets
      → ((u : ℕ) × (u < length nets) × (at nets u ≡ i)) ↔ (¬ (Clear net owners answers i))

-- the extra vector, if there is one, then the walking vector of each net given; nothing if no net is
abbrev pub settling_vectors : Network → List ℕ → List ℕ
settling_vectors net [] = []
settling_vectors net (i ∷ nets) = extra_vectors net ++ map (walking_vector net) (i ∷ nets)

-- the vectors of step two, by the first answers
unfoldable pub second_vectors : Network → (owners answers : List ℕ) → List ℕ
second_vectors net owners answers = settling_vectors net (unclear net owners answers)

-- all vectors of a session
abbrev pub session_vectors : Network → (owners answers : List ℕ) → List ℕ
session_vectors net owners answers = first_vectors net ++ second_vectors net owners answers

-- the state in which each reach is its own net's driver
unfoldable pub fault_free_state : (owners : List ℕ) → List ℕ
fault_free_state owners = map (λ i. 2 ^ i) owners
