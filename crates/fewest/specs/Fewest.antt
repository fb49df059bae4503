-- Document 02, "No shorter first step": no list of sequential words, none of which covers another, takes fewer vectors
-- than a session's first step, and no set that is passed for k = n has fewer than n + 1 where there is an extra vector
-- (OR at soft level 1, AND at soft level 0), and than n where there is none.
use Rattle.std.specs.Prelude.{ℕ, ◌+◌, ◌^◌, ◌<◌, ◌≤◌, ◌≡◌, ◌≢◌, true, List, length}
use Rattle.words.specs.Bits.{has, at}
use Rattle.words.specs.Answers.{full}
use Rattle.words.specs.Turning.{tabulate, transpose}
use Rattle.network.specs.declared.Network.{Network}
use Rattle.network.specs.Reading.{response, extra_vectors}
use Rattle.network.specs.States.{State, AtMostOneFits}
use Rattle.network.specs.Rows.{AdmittedNetwork}
use Rattle.checker.specs.declared.Verdict.TheVariants.{Pass}
use Rattle.checker.specs.Check.{check_answer}
use Rattle.steps.specs.FirstStep.{word_length, sequential_words, first_vectors}
use Rattle.steps.specs.SecondStep.{settling_vectors}

-- ---- words that do not cover one another

-- document 02's *covers*: a has a 1 wherever b has
abbrev pub Covers : ℕ → ℕ → Type 0
Covers a b = (t : ℕ) → has b t ≡ true → has a t ≡ true

-- two of the words, of which one covers the other
pub record SomeCovers (words : List ℕ) : Type 0 where
  pub one : ℕ
  pub other : ℕ
  pub one_inside : one < length words
  pub other_inside : other < length words
  pub differ : one ≢ other
  pub covers : Covers (at words one) (at words other)

-- none of the words covers another
abbrev pub NoneCovers : List ℕ → Type 0
NoneCovers words = ¬ (SomeCovers words)

-- a sequential word of q bits for each net, and none covers another
pub record UncoveredWords (net : Network) (q : ℕ) (words : List ℕ) : Type 0 where
  pub one_a_net : length words ≡ net.nets
  pub below : (i : ℕ) → i < length words → at words i < 2 ^ q
  pub none_covers : NoneCovers words

-- vectors that give the nets such words: bit t of net i's word is bit i of vector t
abbrev pub Uncovered : Network → List ℕ → Type 0
Uncovered net vectors = NoneCovers (transpose net.nets vectors)

-- ---- sets for k = n

-- with these vectors and one receiver a net, whatever the response, at most one state of class n fits
abbrev pub Separates : Network → List ℕ → Type 0
Separates net vectors = AtMostOneFits net net.nets net.nets vectors

-- two different states of class n with one response
pub record TwoStates (net : Network) (vectors : List ℕ) : Type 0 where
  pub one : List ℕ
  pub other : List ℕ
  pub one_state : State net net.nets net.nets one
  pub other_state : State net net.nets net.nets other
  pub differ : one ≢ other
  pub same_response : response net one vectors ≡ response net other vectors

-- the call *check* passes the set
abbrev pub Passes : Network → List ℕ → Type 0
Passes net vectors = check_answer net net.nets vectors ≡ full Pass

-- the extra vector, if there is one, and the walking vectors: the session's vectors that settle nets, for all nets
unfoldable pub walking_set : Network → List ℕ
walking_set net = settling_vectors net (tabulate net.nets (λ i. i))

-- how many these are: n + 1 for OR at soft level 1 and AND at soft level 0, n for the other two
abbrev pub walking_count : Network → ℕ
walking_count net = net.nets + length (extra_vectors net)

-- ---- how few vectors there can be

-- every list of vectors of a kind has at least so many
abbrev pub AtLeast : (Network → List ℕ → Type 0) → (Network → ℕ) → Type 0
AtLeast kind count = (net : Network) → AdmittedNetwork net → (vectors : List ℕ) → kind net vectors → count net ≤ length vectors

-- and ours is of the kind and has exactly so many: that is the fewest possible
pub record Fewest (kind : Network → List ℕ → Type 0) (ours : Network → List ℕ) (count : Network → ℕ) : Type 0 where
  pub of_kind : (net : Network) → AdmittedNetwork net → kind net (ours net)
  pub exactly : (net : Network) → AdmittedNetwork net → length (ours net) ≡ count net
  pub at_least : AtLeast kind count

-- the same of words and their bits: the session's own words have p, and no such words have fewer
pub record ShortestWords : Type 0 where
  pub own : (net : Network) → AdmittedNetwork net → UncoveredWords net (word_length net) (sequential_words net)
  pub at_least : (net : Network) → AdmittedNetwork net → (q : ℕ) (words : List ℕ) → UncoveredWords net q words → word_length net ≤ q
  -- of n words with fewer bits one covers another
  pub else_covered : (net : Network) → AdmittedNetwork net → (q : ℕ) (words : List ℕ) → length words ≡ net.nets
      → ((i : ℕ) → i < length words → at words i < 2 ^ q) → q < word_length net → SomeCovers words

-- ---- the request, whole

pub record NoneShorter : Type 0 where
  -- p is the fewest bits that n words can have, none of which covers another
  pub words : ShortestWords
  -- and the fewest vectors that give n nets such words
  pub first_step : Fewest Uncovered first_vectors word_length
  -- with fewer vectors there are two nets, and the word of one covers that of the other
  pub two_nets : (net : Network) → AdmittedNetwork net → (vectors : List ℕ) → length vectors < word_length net
      → SomeCovers (transpose net.nets vectors)
  -- n, and one for the extra vector if there is one, is the fewest vectors with which at most one state of class n fits
  pub separating : Fewest Separates walking_set walking_count
  -- with fewer there are two states of class n that the vectors do not tell apart
  pub two_states : (net : Network) → AdmittedNetwork net → (vectors : List ℕ) → length vectors < walking_count net → TwoStates net vectors
  -- so that is the fewest that the call passes for k = n
  pub passed : Fewest Passes walking_set walking_count
