-- The refusal rows that calls share: each as the table of documents 01 and 02 says it, and as a test.
use Rattle.std.specs.Prelude.{ℕ, ◌^◌, ◌<◌, ◌≤◌, ◌≡◌, ◌⊎◌, ◌≢◌, Bool, not, ◌||◌, ◌&&◌, List, [], ◌∷◌, ◌++◌, eqb, leb, ltb, length}
use Rattle.words.specs.Bits.{at}
use Rattle.words.specs.Searching.{any, among}
use Rattle.words.specs.Answers.{Answer, NoneHolds, by_tests, first_number}
use Rattle.network.specs.declared.Network.{Network}
use Rattle.network.specs.States.{State}

-- ---- the rows

-- net count: n below 2 or above 48
abbrev pub Row5 : Network → Type 0
Row5 net = (net.nets < 2) ⊎ (48 < net.nets)

-- some receiver is on net i; here and below `owners` has the net of each receiver, and m is its length
abbrev pub HasReceiver : List ℕ → ℕ → Type 0
HasReceiver owners i = (r : ℕ) × (r < length owners) × (at owners r ≡ i)

-- receivers: m below n or above 64, a receiver that names no net, or a net that has none
abbrev pub Row21 : Network → List ℕ → Type 0
Row21 net owners =
    ((length owners < net.nets) ⊎ (64 < length owners))
    ⊎ (((r : ℕ) × (r < length owners) × (net.nets ≤ at owners r))
    ⊎ ((i : ℕ) × (i < net.nets) × (¬ (HasReceiver owners i))))

-- 1, 2, 3, n or, for n up to 10, one from 4 to n - 1
abbrev pub NamedClass : Network → ℕ → Type 0
NamedClass net k =
    (k ≡ 1) ⊎ ((k ≡ 2) ⊎ ((k ≡ 3) ⊎ ((k ≡ net.nets) ⊎ ((net.nets ≤ 10) × ((4 ≤ k) × (k < net.nets))))))

-- class: k none of these, or above n
abbrev pub Row6 : Network → ℕ → Type 0
Row6 net k = (¬ (NamedClass net k)) ⊎ (net.nets < k)

-- neither 0 nor 1
abbrev pub NoBit : ℕ → Type 0
NoBit x = ¬ ((x ≡ 0) ⊎ (x ≡ 1))

-- soft level: neither 0 nor 1
abbrev pub Row17 : Network → Type 0
Row17 net = NoBit net.level

-- gate: neither OR (0) nor AND (1)
abbrev pub Row20 : Network → Type 0
Row20 net = NoBit net.gate

-- vectors, by their number: fewer than 1 or more than 64
abbrev pub BadCount : ℕ → Type 0
BadCount count = (count < 1) ⊎ (64 < count)

-- vectors: fewer than 1 or more than 64
abbrev pub Row7 : List ℕ → Type 0
Row7 vectors = BadCount (length vectors)

-- rows 8 and 10: a bit at or above the width, the number of drivers or of receivers
abbrev pub HighBit : ℕ → List ℕ → Type 0
HighBit width words = (t : ℕ) × (t < length words) × (2 ^ width ≤ at words t)

-- responses: not as many as vectors
abbrev pub Row9 : (vectors responses : ℕ) → Type 0
Row9 vectors responses = responses ≢ vectors

-- wiring state: not one of the class
abbrev pub Row11 : Network → (m k : ℕ) → List ℕ → Type 0
Row11 net m k state = ¬ (State net m k state)

-- lent list: shorter than the result
abbrev pub Row12 : ℕ → ℕ → Type 0
Row12 result room = room < result

-- ---- the same as tests

abbrev pub bad_net_count : Network → Bool
bad_net_count net = ltb net.nets 2 || ltb 48 net.nets

unfoldable pub bad_receivers : Network → List ℕ → Bool
bad_receivers net owners =
    let no_net = any (length owners) (λ r. leb net.nets (at owners r)) in
    let no_receiver = any net.nets (λ i. not (among i owners)) in
    (ltb (length owners) net.nets || ltb 64 (length owners)) || (no_net || no_receiver)

abbrev pub named_class : Network → ℕ → Bool
named_class net k =
    eqb k 1 || (eqb k 2 || (eqb k 3 || (eqb k net.nets || (leb net.nets 10 && (leb 4 k && ltb k net.nets)))))

abbrev pub bad_class : Network → ℕ → Bool
bad_class net k = not (named_class net k) || ltb net.nets k

abbrev pub no_bit : ℕ → Bool
no_bit x = not (eqb x 0 || eqb x 1)

abbrev pub bad_level : Network → Bool
bad_level net = no_bit net.level

abbrev pub bad_gate : Network → Bool
bad_gate net = no_bit net.gate

abbrev pub bad_count : ℕ → Bool
bad_count count = ltb count 1 || ltb 64 count

abbrev pub bad_vector_count : List ℕ → Bool
bad_vector_count vectors = bad_count (length vectors)

unfoldable pub has_high_bit : ℕ → List ℕ → Bool
has_high_bit width words = any (length words) (λ t. leb (2 ^ width) (at words t))

abbrev pub bad_response_count : (vectors responses : ℕ) → Bool
bad_response_count vectors responses = not (eqb responses vectors)

abbrev pub no_room : ℕ → ℕ → Bool
no_room result room = ltb room result

-- ---- the rows of a board alone, a network and its receivers: a call that takes receivers and no class begins with
-- them, and a session's record keeps to them

abbrev pub BoardRows : Network → List ℕ → List (ℕ × Type 0)
BoardRows net owners = (5, Row5 net) ∷ (21, Row21 net owners) ∷ (17, Row17 net) ∷ (20, Row20 net) ∷ []

abbrev pub board_tests : Network → List ℕ → List (ℕ × Bool)
board_tests net owners =
    (5, bad_net_count net) ∷ (21, bad_receivers net owners) ∷ (17, bad_level net) ∷ (20, bad_gate net) ∷ []

-- the number of the first that holds, or 0
abbrev pub board_refusal : Network → List ℕ → ℕ
board_refusal net owners = first_number (board_tests net owners)

-- a board that they let through
abbrev pub AdmittedBoard : Network → List ℕ → Type 0
AdmittedBoard net owners = NoneHolds (BoardRows net owners)

-- a network that they let through, whatever its receivers: rows 5, 17 and 20
abbrev pub AdmittedNetwork : Network → Type 0
AdmittedNetwork net = NoneHolds ((5, Row5 net) ∷ (17, Row17 net) ∷ (20, Row20 net) ∷ [])

-- ---- rows 5, 6, 17, 20, 7 and 8, with which every call on a test set and a class begins; 21 after 5 if it takes
-- receivers

-- 6, 17 and 20, with row 6 as the call has it
abbrev pub ClassRows : Type 0 → Network → List (ℕ × Type 0)
ClassRows row_6 net = (6, row_6) ∷ (17, Row17 net) ∷ (20, Row20 net) ∷ []

-- 7 and 8
abbrev pub VectorRows : Network → List ℕ → List (ℕ × Type 0)
VectorRows net vectors = (7, Row7 vectors) ∷ (8, HighBit net.nets vectors) ∷ []

-- 5, 6, 17 and 20: all that stand before those of the vectors
abbrev pub NetworkRows : Network → ℕ → List (ℕ × Type 0)
NetworkRows net k = (5, Row5 net) ∷ ClassRows (Row6 net k) net

abbrev pub SetRows : Network → ℕ → List ℕ → List (ℕ × Type 0)
SetRows net k vectors = NetworkRows net k ++ VectorRows net vectors

abbrev pub BoardSetRows : Network → List ℕ → ℕ → List ℕ → List (ℕ × Type 0)
BoardSetRows net owners k vectors =
    (5, Row5 net) ∷ (21, Row21 net owners) ∷ ClassRows (Row6 net k) net ++ VectorRows net vectors

abbrev pub class_tests : Bool → Network → List (ℕ × Bool)
class_tests test_6 net = (6, test_6) ∷ (17, bad_level net) ∷ (20, bad_gate net) ∷ []

abbrev pub vector_tests : Network → List ℕ → List (ℕ × Bool)
vector_tests net vectors = (7, bad_vector_count vectors) ∷ (8, has_high_bit net.nets vectors) ∷ []

abbrev pub network_tests : Network → ℕ → List (ℕ × Bool)
network_tests net k = (5, bad_net_count net) ∷ class_tests (bad_class net k) net

abbrev pub set_tests : Network → ℕ → List ℕ → List (ℕ × Bool)
set_tests net k vectors = network_tests net k ++ vector_tests net vectors

abbrev pub board_set_tests : Network → List ℕ → ℕ → List ℕ → List (ℕ × Bool)
board_set_tests net owners k vectors =
    (5, bad_net_count net) ∷ (21, bad_receivers net owners) ∷ class_tests (bad_class net k) net ++ vector_tests net vectors

-- what they say alone, computed
abbrev pub network_admission : Network → ℕ → Answer (Unit {0})
network_admission net k = by_tests (network_tests net k) tt

abbrev pub set_admission : Network → ℕ → List ℕ → Answer (Unit {0})
set_admission net k vectors = by_tests (set_tests net k vectors) tt

abbrev pub board_admission : Network → List ℕ → ℕ → List ℕ → Answer (Unit {0})
board_admission net owners k vectors = by_tests (board_set_tests net owners k vectors) tt

-- the same of a board alone, its rows 5, 21, 17 and 20
abbrev pub board_only_admission : Network → List ℕ → Answer (Unit {0})
board_only_admission net owners = by_tests (board_tests net owners) tt
