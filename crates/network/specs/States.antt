-- Wiring states and their classes.
use Rattle.std.specs.Prelude.{ℕ, ◌^◌, ◌<◌, ◌≤◌, ◌≡◌, Bool, true, not, ◌&&◌, ◌||◌, List, eqb, leb, ltb, length}
use Rattle.words.specs.Bits.{has, at, ones_of}
use Rattle.words.specs.Searching.{any}
use Rattle.network.specs.declared.Network.{Network}
use Rattle.network.specs.Reading.{meets, response}

-- the number of drivers in a set: its count of ones
abbrev pub driver_count : Network → ℕ → ℕ
driver_count net set = ones_of net.nets set

-- a set of at most k of the drivers
pub record DriverSet (net : Network) (k set : ℕ) : Type 0 where
  pub inside : set < 2 ^ net.nets
  pub few : driver_count net set ≤ k

-- A wiring state of m receivers and class k: a reach for each receiver, each a set of at most k drivers, and two
-- reaches with a driver in common are equal.
pub record State (net : Network) (m k : ℕ) (state : List ℕ) : Type 0 where
  pub size : length state ≡ m
  pub reach : (i : ℕ) → i < length state → DriverSet net k (at state i)
  pub meet_only_if_equal : (i j x : ℕ) → i < length state → j < length state → x < net.nets → has (at state i) x ≡ true
      → has (at state j) x ≡ true
      → at state i ≡ at state j

-- document 01's "a state fits a response": it is of the class, and gives exactly that response
pub record Fits (net : Network) (m k : ℕ) (vectors responses state : List ℕ) : Type 0 where
  pub of_class : State net m k state
  pub gives : response net state vectors ≡ responses

-- whatever the response, at most one state of the class fits it
abbrev pub AtMostOneFits : Network → (m k : ℕ) → List ℕ → Type 0
AtMostOneFits net m k vectors =
    (responses s u : List ℕ) → Fits net m k vectors responses s → Fits net m k vectors responses u → s ≡ u

-- ---- a wiring state as a test, in the words of row 11

unfoldable pub few_drivers : Network → ℕ → ℕ → Bool
few_drivers net k set = leb (driver_count net set) k

unfoldable pub meet_and_differ : Network → ℕ → ℕ → Bool
meet_and_differ net a b = meets net a b && not (eqb a b)

unfoldable pub has_wrong_reach : Network → ℕ → List ℕ → Bool
has_wrong_reach net k state = any (length state) (λ i. not (ltb (at state i) (2 ^ net.nets) && few_drivers net k (at state i)))

unfoldable pub conflicts : Network → List ℕ → ℕ → Bool
conflicts net state reach = any (length state) (λ j. meet_and_differ net reach (at state j))

unfoldable pub has_conflict : Network → List ℕ → Bool
has_conflict net state = any (length state) (λ i. conflicts net state (at state i))

-- not m words; a bit at or above n, or more than k drivers; or two reaches that meet and differ
unfoldable pub not_a_state : Network → (m k : ℕ) → List ℕ → Bool
not_a_state net m k state =
    let wrong = has_wrong_reach net k state in
    let conflict = has_conflict net state in
    not (eqb (length state) m) || (wrong || conflict)
