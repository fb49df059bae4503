-- The calls *write clocks*, rows 5, 21, 7, 8, 18, 12, and *read clocks*, rows 5, 21, 7, 18, 19, 12, for chains of up to
-- 200 cells. Neither takes a level or a gate: rows 5 and 21 are those of any network of n nets. `owners` has the net of
-- each receiver, `drivers` and `receivers` the cells of the drivers and of the receivers.
use Rattle.std.specs.Prelude.{ℕ, Bool, List, [], ◌∷◌, ◌++◌, length}
use Rattle.words.specs.Answers.{Answer, by_tests}
use Rattle.network.specs.Reading.{network_of}
use Rattle.network.specs.Rows.{Row5, Row21, BadCount, Row7, HighBit, Row12, bad_net_count, bad_receivers, bad_count}
use Rattle.network.specs.Rows.{bad_vector_count, has_high_bit, no_room}
use Rattle.scan_chain.specs.Scans.{clock_count, all_zero, clocks}
use Rattle.scan_chain.specs.Responses.{responses}
use Rattle.scan_chain.specs.Rows.{Row18, Row19, bad_chain, bad_tdo}

-- ---- rows 5 and 21, with which both begin

abbrev pub NetsRows : ℕ → (owners : List ℕ) → List (ℕ × Type 0)
NetsRows n owners = (5, Row5 (network_of n)) ∷ (21, Row21 (network_of n) owners) ∷ []

abbrev pub nets_tests : ℕ → (owners : List ℕ) → List (ℕ × Bool)
nets_tests n owners = (5, bad_net_count (network_of n)) ∷ (21, bad_receivers (network_of n) owners) ∷ []

-- what they say alone
abbrev pub nets_admission : ℕ → (owners : List ℕ) → Answer (Unit {0})
nets_admission n owners = by_tests (nets_tests n owners) tt

-- ---- *write clocks*

abbrev pub WriteRows : ℕ → (owners vectors : List ℕ) → ℕ → (drivers receivers : List ℕ) → ℕ → List (ℕ × Type 0)
WriteRows n owners vectors L drivers receivers room =
    NetsRows n owners
    ++ (7, Row7 vectors)
    ∷ (8, HighBit n vectors)
    ∷ (18, Row18 n (length owners) L drivers receivers)
    ∷ (12, Row12 (clock_count (length vectors) L) room)
    ∷ []

abbrev pub write_tests : ℕ → (owners vectors : List ℕ) → ℕ → (drivers receivers : List ℕ) → ℕ → List (ℕ × Bool)
write_tests n owners vectors L drivers receivers room =
    nets_tests n owners
    ++ (7, bad_vector_count vectors)
    ∷ (8, has_high_bit n vectors)
    ∷ (18, bad_chain 200 n (length owners) L drivers receivers)
    ∷ (12, no_room (clock_count (length vectors) L) room)
    ∷ []

-- the call's answer, computed: all cells but the drivers' get 0
unfoldable pub write_answer : ℕ → (owners vectors : List ℕ) → ℕ → (drivers receivers : List ℕ) → ℕ → Answer (List ℕ)
write_answer n owners vectors L drivers receivers room =
    by_tests (write_tests n owners vectors L drivers receivers room) (clocks L drivers all_zero vectors)

-- ---- *read clocks*

abbrev pub ReadRows : ℕ → (owners : List ℕ) → (v L : ℕ) → (drivers receivers tdo : List ℕ) → ℕ → List (ℕ × Type 0)
ReadRows n owners v L drivers receivers tdo room =
    NetsRows n owners
    ++ (7, BadCount v)
    ∷ (18, Row18 n (length owners) L drivers receivers)
    ∷ (19, Row19 v L tdo)
    ∷ (12, Row12 v room)
    ∷ []

abbrev pub read_tests : ℕ → (owners : List ℕ) → (v L : ℕ) → (drivers receivers tdo : List ℕ) → ℕ → List (ℕ × Bool)
read_tests n owners v L drivers receivers tdo room =
    nets_tests n owners
    ++ (7, bad_count v)
    ∷ (18, bad_chain 200 n (length owners) L drivers receivers)
    ∷ (19, bad_tdo v L tdo)
    ∷ (12, no_room v room)
    ∷ []

-- the call's answer, computed
unfoldable pub read_answer : ℕ → (owners : List ℕ) → (v L : ℕ) → (drivers receivers tdo : List ℕ) → ℕ → Answer (List ℕ)
read_answer n owners v L drivers receivers tdo room =
    by_tests (read_tests n owners v L drivers receivers tdo room) (responses L receivers v tdo)
