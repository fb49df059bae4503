-- Document 02's classes of small boards: which classes row 6 lets through, in the paper's words, and cases of classes
-- from 4 to n - 1 worked out from the paper, with what a search would show that leaves sets out. The reader's and the
-- writer's bounds of row 6 are in FileBounds.antt, the report's example in FileExamples.antt.
use Rattle.std.specs.Prelude.{ℕ, ◌≤◌, ◌<◌, ◌≡◌, ◌⊎◌, ◌≢◌, List, [], ◌∷◌}
use Rattle.words.specs.Answers.{Answer, refused, full}
use Rattle.network.specs.declared.Network.{Network}
use Rattle.network.specs.Reading.{network_of, wired_or, wired_and}
use Rattle.network.specs.Rows.{Row6}
use Rattle.network.specs.Respond.{response_answer}
use Rattle.checker.specs.declared.Verdict.TheVariants.{Pass, Pair}
use Rattle.checker.specs.Check.{check_answer}
use Rattle.diagnosis.specs.Diagnosis.{diagnosis_answer}
use Rattle.demands.specs.Programs.{our_plain_search}
use Rattle.demands.specs.Starred.{own, check}

-- a connector of five nets: walking ones and walking zeros, without the extra vector
abbrev pub walking_ones : List ℕ
walking_ones = 1 ∷ 2 ∷ 4 ∷ 8 ∷ 16 ∷ []

abbrev pub walking_zeros : List ℕ
walking_zeros = 30 ∷ 29 ∷ 27 ∷ 23 ∷ 15 ∷ []

-- nets 0 to 3 shorted, net 4 sound
abbrev pub four_shorted : List ℕ
four_shorted = 15 ∷ 15 ∷ 15 ∷ 15 ∷ 16 ∷ []

-- all five shorted, and all receivers floating
abbrev pub five_shorted : List ℕ
five_shorted = 31 ∷ 31 ∷ 31 ∷ 31 ∷ 31 ∷ []

abbrev pub all_floating : List ℕ
all_floating = 0 ∷ 0 ∷ 0 ∷ 0 ∷ 0 ∷ []

-- a set that passes for three drivers and not for four, of five nets and of six
abbrev pub set_of_five : List ℕ
set_of_five = 16 ∷ 1 ∷ 20 ∷ 5 ∷ 8 ∷ 2 ∷ 14 ∷ []

abbrev pub set_of_six : List ℕ
set_of_six = 34 ∷ 1 ∷ 6 ∷ 4 ∷ 8 ∷ 16 ∷ 32 ∷ 10 ∷ []

-- with drivers 2, 3 and 4 in a reach, no vector of it tells whether driver 1 is in it too
abbrev pub hides_driver_1 : List ℕ
hides_driver_1 = 0 ∷ 1 ∷ 4 ∷ 8 ∷ 16 ∷ 6 ∷ 10 ∷ 18 ∷ []

-- net 7 of eight never drives 1 alone: nets 0 to 3 in a reach hide it
abbrev pub strobe_of_eight : List ℕ
strobe_of_eight = 1 ∷ 2 ∷ 4 ∷ 8 ∷ 16 ∷ 32 ∷ 64 ∷ 129 ∷ 130 ∷ 132 ∷ 136 ∷ []

-- nor net 6 of seven: nets 0 to 4 hide it
abbrev pub strobe_of_seven : List ℕ
strobe_of_seven = 0 ∷ 1 ∷ 2 ∷ 4 ∷ 8 ∷ 16 ∷ 32 ∷ 65 ∷ 66 ∷ 68 ∷ 72 ∷ 80 ∷ []

-- *response from a state* and *diagnosis* for a class, with room for five words
abbrev pub respond_as : Network → ℕ → (vectors state : List ℕ) → Answer (List ℕ)
respond_as net k vectors state = response_answer net (own net) k vectors state 5

abbrev pub diagnose_as : Network → ℕ → (vectors responses : List ℕ) → Answer (List ℕ)
diagnose_as net k vectors responses = diagnosis_answer net (own net) k vectors responses 5

pub record RowSix : Type 0 where
  -- up to 10 nets every number from 1 to n is a class
  pub any_to_10 : (net : Network) (k : ℕ) → net.nets ≤ 10 → 1 ≤ k → k ≤ net.nets → ¬ (Row6 net k)
  -- of any board 1, 2, 3 and n are, as far as they are not above n; above 10 nets there are no others
  pub always : (net : Network) (k : ℕ) → (k ≡ 1) ⊎ ((k ≡ 2) ⊎ ((k ≡ 3) ⊎ (k ≡ net.nets))) → k ≤ net.nets
      → ¬ (Row6 net k)
  pub no_others : (net : Network) (k : ℕ) → 10 < net.nets → k ≢ 1 → k ≢ 2 → k ≢ 3 → k ≢ net.nets → Row6 net k
  -- 0 is no class, nor is a number above n
  pub not_0 : (net : Network) → 2 ≤ net.nets → Row6 net 0
  pub not_above : (net : Network) (k : ℕ) → net.nets < k → Row6 net k
  -- both sides of each bound: all sets but the empty one read 0 on vector 0, and class n has its own rule
  pub ten_4 : check 10 4 (0 ∷ []) ≡ full (Pair 1 2)
  pub ten_9 : check 10 9 (0 ∷ []) ≡ full (Pair 1 2)
  pub ten_10 : check 10 10 (0 ∷ []) ≡ full (Pair 1022 1023)
  pub ten_11 : check 10 11 (0 ∷ []) ≡ refused 6
  pub eleven_3 : check 11 3 (0 ∷ []) ≡ full (Pair 1 2)
  pub eleven_4 : check 11 4 (0 ∷ []) ≡ refused 6
  pub eleven_9 : check 11 9 (0 ∷ []) ≡ refused 6
  pub eleven_10 : check 11 10 (0 ∷ []) ≡ refused 6
  pub eleven_11 : check 11 11 (0 ∷ []) ≡ full (Pair 2046 2047)
  -- in the other calls that take a class
  pub respond_eleven_4 : respond_as (network_of 11) 4 (0 ∷ []) (own (network_of 11)) ≡ refused 6
  pub diagnose_eleven_4 : diagnose_as (network_of 11) 4 (0 ∷ []) (0 ∷ []) ≡ refused 6

pub record SmallClasses : Type 0 where
  -- ---- *check*: sets of four drivers, and a pair that only they show
  pub five_3 : check 5 3 set_of_five ≡ full Pass
  pub five_4 : check 5 4 set_of_five ≡ full (Pair 19 23)
  pub six_3 : check 6 3 set_of_six ≡ full Pass
  pub six_4 : check 6 4 set_of_six ≡ full (Pair 44 46)
  -- the last set of the class, 30, is searched too
  pub last_3 : check 5 3 hides_driver_1 ≡ full Pass
  pub last_4 : check 5 4 hides_driver_1 ≡ full (Pair 28 30)
  -- so is the empty set, which reads the soft level
  pub empty_or_0 : check_answer (wired_or 5 0) 4 (0 ∷ []) ≡ full (Pair 0 1)
  pub empty_or_1 : check_answer (wired_or 5 1) 4 (31 ∷ []) ≡ full (Pair 0 1)
  pub empty_and_0 : check_answer (wired_and 5 0) 4 (0 ∷ []) ≡ full (Pair 0 1)
  pub empty_and_1 : check_answer (wired_and 5 1) 4 (31 ∷ []) ≡ full (Pair 0 1)
  -- a pair that only sets of five drivers show, and one that only sets of six do
  pub eight_4 : check 8 4 strobe_of_eight ≡ full Pass
  pub eight_5 : check 8 5 strobe_of_eight ≡ full (Pair 15 143)
  pub seven_5 : check 7 5 strobe_of_seven ≡ full Pass
  pub seven_6 : check 7 6 strobe_of_seven ≡ full (Pair 31 95)
  -- the walking vectors alone pass below n: only all five drivers could read as the empty set does
  pub walking_or_0 : check_answer (wired_or 5 0) 4 walking_ones ≡ full Pass
  pub walking_or_1 : check_answer (wired_or 5 1) 4 walking_ones ≡ full Pass
  pub walking_and_0 : check_answer (wired_and 5 0) 4 walking_zeros ≡ full Pass
  pub walking_and_1 : check_answer (wired_and 5 1) 4 walking_zeros ≡ full Pass
  -- one of them less does not
  pub one_less : check 5 4 (1 ∷ 2 ∷ 4 ∷ 8 ∷ []) ≡ full (Pair 0 15)
  pub with_0 : check 5 4 (0 ∷ 1 ∷ 2 ∷ 4 ∷ 8 ∷ []) ≡ full (Pair 1 17)
  -- ---- class n keeps its rule, and its pair, where the search shows another
  pub class_n : check 5 5 (0 ∷ []) ≡ full (Pair 30 31)
  pub searched_n : our_plain_search (network_of 5) 5 (0 ∷ []) ≡ Pair 1 2
  -- the search goes up to the set of all drivers; here both show the same pair
  pub class_n_walking : check 5 5 walking_ones ≡ full (Pair 0 31)
  pub searched_n_walking : our_plain_search (network_of 5) 5 walking_ones ≡ Pair 0 31
  -- ---- *response from a state*: a reach of four drivers is of class 4 and not of 3, one of five is not of 4
  pub responds_or : respond_as (network_of 5) 4 walking_ones four_shorted ≡ full (15 ∷ 15 ∷ 15 ∷ 15 ∷ 16 ∷ [])
  pub responds_and : respond_as (wired_and 5 1) 4 walking_zeros four_shorted ≡ full (16 ∷ 16 ∷ 16 ∷ 16 ∷ 15 ∷ [])
  pub four_of_3 : respond_as (network_of 5) 3 walking_ones four_shorted ≡ refused 11
  pub five_of_4 : respond_as (network_of 5) 4 walking_ones five_shorted ≡ refused 11
  pub five_of_5 : respond_as (network_of 5) 5 walking_ones five_shorted ≡ full (31 ∷ 31 ∷ 31 ∷ 31 ∷ 31 ∷ [])
  -- ---- *diagnosis* reads the same state back
  pub reads_or_0 : diagnose_as (wired_or 5 0) 4 walking_ones (15 ∷ 15 ∷ 15 ∷ 15 ∷ 16 ∷ []) ≡ full four_shorted
  pub reads_or_1 : diagnose_as (wired_or 5 1) 4 walking_ones (15 ∷ 15 ∷ 15 ∷ 15 ∷ 16 ∷ []) ≡ full four_shorted
  pub reads_and_0 : diagnose_as (wired_and 5 0) 4 walking_zeros (16 ∷ 16 ∷ 16 ∷ 16 ∷ 15 ∷ []) ≡ full four_shorted
  pub reads_and_1 : diagnose_as (wired_and 5 1) 4 walking_zeros (16 ∷ 16 ∷ 16 ∷ 16 ∷ 15 ∷ []) ≡ full four_shorted
  -- of two receivers on net 4 the second floats
  pub reads_receivers : diagnosis_answer (network_of 5) (0 ∷ 1 ∷ 2 ∷ 3 ∷ 4 ∷ 4 ∷ []) 4 walking_ones
      (47 ∷ 47 ∷ 47 ∷ 47 ∷ 48 ∷ []) 6
      ≡ full (15 ∷ 15 ∷ 15 ∷ 15 ∷ 16 ∷ 0 ∷ [])
  -- what five drivers would read is no state of class 4, or that of floating receivers if they float to it
  pub no_state : diagnose_as (wired_or 5 0) 4 walking_ones (31 ∷ 31 ∷ 31 ∷ 31 ∷ 31 ∷ []) ≡ refused 14
  pub floating : diagnose_as (wired_or 5 1) 4 walking_ones (31 ∷ 31 ∷ 31 ∷ 31 ∷ 31 ∷ []) ≡ full all_floating
  -- reaches that meet and differ
  pub conflict : diagnose_as (network_of 5) 4 walking_ones (15 ∷ 15 ∷ 15 ∷ 7 ∷ 16 ∷ []) ≡ refused 14
  -- a set that does not pass for four drivers, and does for three
  pub not_passed : diagnosis_answer (network_of 5) (own (network_of 5)) 4 set_of_five
      (16 ∷ 1 ∷ 20 ∷ 5 ∷ 8 ∷ 2 ∷ 14 ∷ []) 5
      ≡ refused 13
  pub passed_for_3 : diagnosis_answer (network_of 5) (own (network_of 5)) 3 set_of_five
      (16 ∷ 1 ∷ 20 ∷ 5 ∷ 8 ∷ 2 ∷ 14 ∷ []) 5
      ≡ full (1 ∷ 2 ∷ 4 ∷ 8 ∷ 16 ∷ [])
  -- the room is that of any class
  pub no_room : diagnosis_answer (network_of 5) (own (network_of 5)) 4 walking_ones (15 ∷ 15 ∷ 15 ∷ 15 ∷ 16 ∷ []) 4
      ≡ refused 12

pub record ClassCases : Type 0 where
  pub row_6 : RowSix
  pub small_classes : SmallClasses
