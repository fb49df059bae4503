-- Cases of document 02's "No shorter first step", worked out by hand, and claims near it that are false.
use Rattle.std.specs.Prelude.{ℕ, ◌+◌, ◌≤◌, ◌<◌, ◌≡◌, ◌≢◌, List, [], ◌∷◌, ◌++◌, length, replicate}
use Rattle.words.specs.Bits.{at}
use Rattle.words.specs.Turning.{tabulate, transpose}
use Rattle.network.specs.declared.Network.{Network}
use Rattle.network.specs.Reading.{network_of, network_with, wired_or, wired_and, extra_vectors}
use Rattle.network.specs.Rows.{AdmittedNetwork}
use Rattle.steps.specs.FirstStep.{word_length}
use Rattle.fewest.specs.Fewest.{Covers, SomeCovers, UncoveredWords, Uncovered}
use Rattle.fewest.specs.Fewest.{Separates, TwoStates, Passes, walking_set, walking_count, AtLeast}

-- networks at soft level 1, wired OR

abbrev pub two : Network
two = network_of 2

abbrev pub four : Network
four = network_of 4

abbrev pub seven : Network
seven = network_of 7

abbrev pub forty_eight : Network
forty_eight = network_of 48

-- and the other three combinations of soft level and gate

abbrev pub four_pulled_down : Network
four_pulled_down = wired_or 4 0

abbrev pub four_wired_and : Network
four_wired_and = wired_and 4 1

abbrev pub four_pulled_down_and : Network
four_pulled_down_and = wired_and 4 0

-- five vectors for 7 nets, not the session's own: words of two ones and of three, in no order
abbrev pub five_vectors : List ℕ
five_vectors = 22 ∷ 42 ∷ 66 ∷ 13 ∷ 113 ∷ []

abbrev pub five_bit_words : List ℕ
five_bit_words = 24 ∷ 7 ∷ 9 ∷ 10 ∷ 17 ∷ 18 ∷ 20 ∷ []

-- the counting sequence for 7 nets: net i has the word i + 1
abbrev pub counting : List ℕ
counting = 85 ∷ 102 ∷ 120 ∷ []

-- for 4 nets, in place of vector 0 one with a bit above the nets: no driver drives 1 on it
abbrev pub above_the_nets : List ℕ
above_the_nets = 16 ∷ 1 ∷ 2 ∷ 4 ∷ 8 ∷ []

pub record FewestCases : Type 0 where
  -- each n from 2 to 48, at both soft levels and both gates and no other
  pub admitted : (n level gate : ℕ) → 2 ≤ n → n ≤ 48 → level ≤ 1 → gate ≤ 1 → AdmittedNetwork (network_with n level gate)
  pub no_other_level : (n level gate : ℕ) → 2 ≤ level → ¬ (AdmittedNetwork (network_with n level gate))
  pub no_other_gate : (n level gate : ℕ) → 2 ≤ gate → ¬ (AdmittedNetwork (network_with n level gate))
  -- and its p, at any level and gate: one n takes 2, one 3, three 4, four 5, ten 6, fifteen 7, thirteen 8
  pub lengths : (level gate : ℕ) → tabulate 47 (λ m. word_length (network_with (2 + m) level gate))
      ≡ replicate 1 2 ++ replicate 1 3 ++ replicate 3 4 ++ replicate 4 5 ++ replicate 10 6 ++ replicate 15 7 ++ replicate 13 8
  -- 13 is 1101 and 9 is 1001; 269 is 13 and 256
  pub covers : Covers 13 9
  pub covers_not : ¬ (Covers 9 13)
  pub covers_not_above : ¬ (Covers 13 269)
  -- five vectors serve 7 nets
  pub five_turned : transpose 7 five_vectors ≡ five_bit_words
  pub five_serve : Uncovered seven five_vectors
  pub five_words : UncoveredWords seven 5 five_bit_words
  -- no four do, and no seven serve 48
  pub too_few_for_7 : (vectors : List ℕ) → length vectors ≡ 4 → SomeCovers (transpose 7 vectors)
  pub too_few_for_48 : (vectors : List ℕ) → length vectors ≡ 7 → SomeCovers (transpose 48 vectors)
  pub counting_words : transpose 7 counting ≡ 1 ∷ 2 ∷ 3 ∷ 4 ∷ 5 ∷ 6 ∷ 7 ∷ []
  -- k = n: n + 1 vectors for OR at soft level 1 and AND at soft level 0, n for the other two
  pub count_or_1 : (n : ℕ) → walking_count (wired_or n 1) ≡ n + 1
  pub count_or_0 : (n : ℕ) → walking_count (wired_or n 0) ≡ n
  pub count_and_1 : (n : ℕ) → walking_count (wired_and n 1) ≡ n
  pub count_and_0 : (n : ℕ) → walking_count (wired_and n 0) ≡ n + 1
  -- k = 4: vector 0 and the walking vectors; a larger set in another order
  pub walking_of_4 : walking_set four ≡ 0 ∷ 1 ∷ 2 ∷ 4 ∷ 8 ∷ []
  pub six_pass : Passes four (15 ∷ 8 ∷ 4 ∷ 2 ∷ 1 ∷ 0 ∷ [])
  -- k = 4 at soft level 0: the walking vectors alone; they pass, and no three vectors do
  pub walking_of_4_at_0 : walking_set four_pulled_down ≡ 1 ∷ 2 ∷ 4 ∷ 8 ∷ []
  pub four_pass_at_0 : Passes four_pulled_down (1 ∷ 2 ∷ 4 ∷ 8 ∷ [])
  pub three_fail_at_0 : (vectors : List ℕ) → length vectors ≡ 3 → ¬ (Passes four_pulled_down vectors)
  pub too_few_at_0 : (vectors : List ℕ) → length vectors ≡ 3 → TwoStates four_pulled_down vectors
  -- k = 4, wired AND at soft level 1: the vectors with a single 0 alone; they pass, and no three vectors do
  pub walking_of_4_and : walking_set four_wired_and ≡ 14 ∷ 13 ∷ 11 ∷ 7 ∷ []
  pub four_pass_and : Passes four_wired_and (7 ∷ 11 ∷ 13 ∷ 14 ∷ [])
  pub too_few_and : (vectors : List ℕ) → length vectors ≡ 3 → TwoStates four_wired_and vectors
  -- and at soft level 0: all ones and the vectors with a single 0; they pass, and no four vectors do
  pub walking_of_4_and_0 : walking_set four_pulled_down_and ≡ 15 ∷ 14 ∷ 13 ∷ 11 ∷ 7 ∷ []
  pub five_pass_and_0 : Passes four_pulled_down_and (14 ∷ 15 ∷ 13 ∷ 11 ∷ 7 ∷ [])
  pub too_few_and_0 : (vectors : List ℕ) → length vectors ≡ 4 → TwoStates four_pulled_down_and vectors
  -- states are told apart by what drivers drive, also where the call refuses the set, here by row 8
  pub above_serves : Separates four above_the_nets
  pub above_refused : ¬ (Passes four above_the_nets)
  -- k = 48: whatever 48 vectors there are, two states give one response; and then more than one state fits
  pub too_few_for_class_48 : (vectors : List ℕ) → length vectors ≡ 48 → TwoStates forty_eight vectors
  pub two_states_fit : (net : Network) (vectors : List ℕ) → TwoStates net vectors → ¬ (Separates net vectors)

-- ---- false claims

-- nothing is asked of the words
abbrev pub AnyVectors : Network → List ℕ → Type 0
AnyVectors net vectors = Unit {0}

-- the words of any two nets differ
abbrev pub Different : Network → List ℕ → Type 0
Different net vectors =
    (i j : ℕ) → i < net.nets → j < net.nets → i ≢ j → at (transpose net.nets vectors) i ≢ at (transpose net.nets vectors) j

-- vectors of a kind, for the networks of one soft level and one gate
abbrev pub Combined : (level gate : ℕ) → (Network → List ℕ → Type 0) → Network → List ℕ → Type 0
Combined level gate kind net vectors = (net.level ≡ level) × (net.gate ≡ gate) × kind net vectors

-- a network has vectors of a kind that are as many as its nets
abbrev pub EnoughOf : Network → (Network → List ℕ → Type 0) → Type 0
EnoughOf net kind = (vectors : List ℕ) × (length vectors ≡ net.nets) × kind net vectors

pub record FalseClaims : Type 0 where
  -- one vector more than p; three for every n, which is false for 2 nets alone
  pub longer_step : ¬ (AtLeast Uncovered (λ net. word_length net + 1))
  pub three_for_all : ¬ (AtLeast Uncovered (λ net. 3))
  -- p vectors, though words may cover one another, and even if they differ
  pub covering : ¬ (AtLeast AnyVectors word_length)
  pub differing : ¬ (AtLeast Different word_length)
  -- k = n, of each soft level and gate alone: one vector more; as many for every n as for 3 nets, which 2 nets alone
  -- break
  pub larger_separating : (level gate : ℕ) → level ≤ 1 → gate ≤ 1
      → ¬ (AtLeast (Combined level gate Separates) (λ net. walking_count net + 1))
  pub larger_passed : (level gate : ℕ) → level ≤ 1 → gate ≤ 1
      → ¬ (AtLeast (Combined level gate Passes) (λ net. walking_count net + 1))
  pub same_for_all : (level gate : ℕ) → level ≤ 1 → gate ≤ 1
      → ¬ (AtLeast (Combined level gate Passes) (λ net. 3 + length (extra_vectors net)))
  -- k = n: n vectors are enough, which is false for OR at soft level 1, and for AND at soft level 0
  pub n_enough : ¬ (EnoughOf (wired_or 7 1) Passes)
  pub n_enough_and : ¬ (EnoughOf (wired_and 7 0) Passes)
