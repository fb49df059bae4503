-- The checker's rule for a network, a class and a test set: as document 01 says it, and computed.
use Rattle.std.specs.Prelude.{ℕ, ◌-◌, ◌^◌, ◌<◌, ◌≡◌, ◌⊎◌, ◌≢◌, Bool, true, not, ◌&&◌, cond, List, ◌∷◌, eqb, length, replicate}
use Rattle.words.specs.Bits.{at}
use Rattle.words.specs.Searching.{least, is_found, among}
use Rattle.std.specs.Prelude.{Option}
use Rattle.std.specs.Prelude.{Some, None}
use Rattle.network.specs.declared.Network.{Network}
use Rattle.network.specs.Reading.{all_drivers, all_but, walking_vector, extra_vector, needs_extra, ReadAlike, sequential_response}
use Rattle.network.specs.States.{DriverSet, few_drivers}
use Rattle.checker.specs.declared.Verdict.{Verdict}
use Rattle.checker.specs.declared.Verdict.TheVariants.{Pass, Pair}

-- ---- the rule as document 01 says it

-- a vector equal to this word
abbrev pub Among : ℕ → List ℕ → Type 0
Among word vectors = (t : ℕ) × (t < length vectors) × (at vectors t ≡ word)

-- the extra vector is there, if the network has one; it has one, which is not there
abbrev pub ExtraThere : Network → List ℕ → Type 0
ExtraThere net vectors = needs_extra net ≡ true → Among (extra_vector net) vectors

abbrev pub ExtraMissing : Network → List ℕ → Type 0
ExtraMissing net vectors = (needs_extra net ≡ true) × (¬ Among (extra_vector net) vectors)

-- k = n: where the extra vector is missing, the empty set and all drivers; else, for the smallest net without its
-- walking vector, all drivers but that one, and all drivers; else pass
abbrev pub FullRule : Network → List ℕ → Verdict → Type 0
FullRule net vectors Pass = ExtraThere net vectors × ((i : ℕ) → i < net.nets → Among (walking_vector net i) vectors)
FullRule net vectors (Pair a b) =
    (ExtraMissing net vectors × (a ≡ 0) × (b ≡ all_drivers net))
    ⊎ (ExtraThere net vectors
    × ((i : ℕ)
    × (i < net.nets)
    × (¬ Among (walking_vector net i) vectors)
    × ((j : ℕ) → j < i → Among (walking_vector net j) vectors)
    × (a ≡ all_but net i)
    × (b ≡ all_drivers net)))

-- a and b are sets of the class, a is the smaller, and both read the same on every vector
pub record Confused (net : Network) (k : ℕ) (vectors : List ℕ) (a b : ℕ) : Type 0 where
  pub smaller : a < b
  pub first_set : DriverSet net k a
  pub second_set : DriverSet net k b
  pub read_alike : ReadAlike net vectors a b

-- k below n: the smallest b with which a smaller set is confused, and the smallest such a; if there is none, pass
abbrev pub BoundedRule : Network → ℕ → List ℕ → Verdict → Type 0
BoundedRule net k vectors Pass = (a b : ℕ) → ¬ Confused net k vectors a b
BoundedRule net k vectors (Pair a b) =
    Confused net k vectors a b
    × ((x y : ℕ) → y < b → ¬ Confused net k vectors x y)
    × ((x : ℕ) → x < a → ¬ Confused net k vectors x b)

-- the rule for k = n first, even if n is 2 or 3
abbrev pub Rule : Network → ℕ → List ℕ → Verdict → Type 0
Rule net k vectors verdict = ((k ≡ net.nets) × FullRule net vectors verdict) ⊎ ((k ≢ net.nets) × BoundedRule net k vectors verdict)

-- the state of m receivers shown for a set: its reach at receiver 0, all other receivers floating
unfoldable pub shown_state : (m set : ℕ) → List ℕ
shown_state m set = set ∷ replicate (m - 1) 0

-- ---- the rule computed

-- the smallest set of the class, below b, that reads as b does
unfoldable pub smaller_alike : Network → ℕ → List ℕ → ℕ → Option ℕ
smaller_alike net k vectors b =
    least b 0 (λ a. few_drivers net k a && eqb (sequential_response net vectors a) (sequential_response net vectors b))

abbrev pub pair_with : Option ℕ → ℕ → Verdict
pair_with (Some a) b = Pair a b
pair_with None b = Pass

abbrev pub pair_at : Option ℕ → (ℕ → Option ℕ) → Verdict
pair_at (Some b) smaller = pair_with (smaller b) b
pair_at None smaller = Pass

-- k below n
unfoldable pub bounded_verdict : Network → ℕ → List ℕ → Verdict
bounded_verdict net k vectors =
    pair_at (least (2 ^ net.nets) 0 (λ b. few_drivers net k b && is_found (smaller_alike net k vectors b))) (smaller_alike net k vectors)

abbrev pub pair_without : Network → Option ℕ → Verdict
pair_without net (Some i) = Pair (all_but net i) (all_drivers net)
pair_without net None = Pass

-- there is an extra vector, and it is not among the vectors
unfoldable pub extra_missing : Network → List ℕ → Bool
extra_missing net vectors = let there = among (extra_vector net) vectors in needs_extra net && not there

-- k = n
unfoldable pub full_verdict : Network → List ℕ → Verdict
full_verdict net vectors =
    let by_net = pair_without net (least net.nets 0 (λ i. not (among (walking_vector net i) vectors))) in
    cond (extra_missing net vectors) (Pair 0 (all_drivers net)) by_net

-- the verdict, k = n first
unfoldable pub verdict : Network → ℕ → List ℕ → Verdict
verdict net k vectors = let bounded = bounded_verdict net k vectors in cond (eqb k net.nets) (full_verdict net vectors) bounded
