-- What receivers read: a wired OR or a wired AND of what their drivers drive, and the soft level where nothing is
-- driven (source document 000, sections 2 and 3; document 02's gate).
use Rattle.std.specs.Prelude.{ℕ, ◌-◌, ◌^◌, ◌<◌, ◌≡◌, ◌⊎◌, ◌↔◌, ◌≢◌, Bool, true, false, not, ◌&&◌, cond, List, [], ◌∷◌, map, eqb, length}
use Rattle.words.specs.Bits.{has, word, at}
use Rattle.words.specs.Searching.{any}
use Rattle.network.specs.declared.Network.{Network}

-- ---- networks by name

-- n nets, the level that their receivers float to, and the gate: 0 for OR, 1 for AND
abbrev pub network_with : (nets level gate : ℕ) → Network
network_with nets level gate = record { nets = nets; level = level; gate = gate }

-- the same, by the gate
abbrev pub wired_or : (nets level : ℕ) → Network
wired_or nets level = network_with nets level 0

abbrev pub wired_and : (nets level : ℕ) → Network
wired_and nets level = network_with nets level 1

-- document 01's networks: wired OR, and floating receivers read 1
abbrev pub network_of : ℕ → Network
network_of nets = wired_or nets 1

-- the soft level, what a floating receiver reads; row 17 refuses every number but 0 and 1
abbrev pub soft_level : Network → Bool
soft_level net = eqb net.level 1

-- whether the gate is AND; row 20 refuses every number but 0 and 1
abbrev pub is_and : Network → Bool
is_and net = eqb net.gate 1

-- whether a value is the gate's active one: of drivers tied together, one that drives it decides. 1 at a wired OR, 0 at
-- a wired AND
unfoldable pub active : Network → Bool → Bool
active net value = cond (is_and net) (not value) value

-- ---- driver sets and vectors by name

-- all n drivers, and all drivers but i
unfoldable pub all_drivers : Network → ℕ
all_drivers net = 2 ^ net.nets - 1

unfoldable pub all_but : Network → ℕ → ℕ
all_but net i = all_drivers net - 2 ^ i

-- the walking vector of net i: the single 1 at i, or at a wired AND the single 0 among n bits
unfoldable pub walking_vector : Network → ℕ → ℕ
walking_vector net i = cond (is_and net) (all_but net i) (2 ^ i)

-- the vector that tells a floating receiver from one that is driven: vector 0, or at a wired AND all n ones
unfoldable pub extra_vector : Network → ℕ
extra_vector net = cond (is_and net) (all_drivers net) 0

-- whether there is one: only where a floating receiver reads the active value, as one does that an active driver
-- reaches
unfoldable pub needs_extra : Network → Bool
needs_extra net = active net (soft_level net)

-- the extra vector, if there is one
unfoldable pub extra_vectors : Network → List ℕ
extra_vectors net = cond (needs_extra net) (extra_vector net ∷ []) []

-- ---- reading

-- some driver is in both sets; of a reach and a vector: some driver in the reach drives 1
unfoldable pub meets : Network → ℕ → ℕ → Bool
meets net a b = any net.nets (λ j. has a j && has b j)

-- some driver in the reach drives 0
unfoldable pub some_at_0 : Network → ℕ → ℕ → Bool
some_at_0 net reach vector = any net.nets (λ j. has reach j && not (has vector j))

-- what the drivers in a reach drive together. Wired OR: 1 if one of them drives 1, else 0. Wired AND: 0 if one of them
-- drives 0, else 1.
unfoldable pub driven : Network → ℕ → ℕ → Bool
driven net reach vector = cond (is_and net) (not (some_at_0 net reach vector)) (meets net reach vector)

-- what a receiver of this reach reads on a vector
unfoldable pub reads : Network → ℕ → ℕ → Bool
reads net reach vector = let together = driven net reach vector in cond (eqb reach 0) (soft_level net) together

-- some driver in the reach drives this value
abbrev pub Drives : Network → ℕ → ℕ → Bool → Type 0
Drives net reach vector value = (j : ℕ) × (j < net.nets) × (has reach j ≡ true) × (has vector j ≡ value)

-- the drivers in the reach drive 1 together: none of them drives 0 (AND), or one drives 1 (OR)
abbrev pub Driven1 : Network → ℕ → ℕ → Type 0
Driven1 net reach vector =
    ((net.gate ≡ 1) × (¬ (Drives net reach vector false))) ⊎ ((net.gate ≢ 1) × Drives net reach vector true)

-- `reads`, said of the drivers: the reach is empty and the level is 1, or it is not empty and its drivers drive 1
abbrev pub Reads1 : Network → ℕ → ℕ → Type 0
Reads1 net reach vector = ((reach ≡ 0) × (net.level ≡ 1)) ⊎ ((reach ≢ 0) × Driven1 net reach vector)

-- the sequential word (SRV) of a receiver of this reach: bit t is what it reads on vector t
unfoldable pub sequential_response : Network → List ℕ → ℕ → ℕ
sequential_response net vectors reach = word (map (reads net reach) vectors)

-- the parallel word that a state answers to a vector: bit i is what receiver i reads
unfoldable pub response_word : Network → List ℕ → ℕ → ℕ
response_word net state vector = word (map (λ reach. reads net reach vector) state)

-- document 01's response: one parallel word a vector, in order
unfoldable pub response : Network → List ℕ → List ℕ → List ℕ
response net state vectors = map (response_word net state) vectors

-- two sets read the same on every vector
abbrev pub ReadAlike : Network → List ℕ → ℕ → ℕ → Type 0
ReadAlike net vectors a b = (t : ℕ) → t < length vectors → reads net a (at vectors t) ≡ reads net b (at vectors t)

-- The response, said of its bits: a word a vector, none with a bit at or above the receivers, and bit i of word t is 1
-- exactly when receiver i reads 1 on vector t.
pub record Response (net : Network) (state vectors words : List ℕ) : Type 0 where
  pub one_a_vector : length words ≡ length vectors
  pub no_high_bit : (t : ℕ) → t < length words → at words t < 2 ^ length state
  pub bits : (t i : ℕ) → t < length vectors → i < length state → (has (at words t) i ≡ true) ↔ Reads1 net (at state i) (at vectors t)
