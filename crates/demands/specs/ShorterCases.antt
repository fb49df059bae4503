-- Document 02's shorter sets: cases worked out from the paper. Wrong programs are in Refuted.antt.
use Rattle.std.specs.Prelude.{ℕ, ◌≡◌, List, [], ◌∷◌, length, replicate}
use Rattle.words.specs.Answers.{Answer, refused, full}
use Rattle.network.specs.declared.Network.{Network}
use Rattle.network.specs.Reading.{network_of, network_with, wired_or, wired_and}
use Rattle.shorter.specs.Shorter.{floor, InOrder}
use Rattle.shorter.specs.Shorten.{Shorter, shorten_answer}
use Rattle.packing.specs.Packed.{shorter_words}
use Rattle.demands.specs.Programs.{our_shorten}

-- *shorten* with room for the set given, and so many checks allowed
abbrev pub shorten_in : Network → ℕ → (vectors : List ℕ) → (allowed : ℕ) → Answer Shorter
shorten_in net k vectors allowed = shorten_answer net k vectors allowed (length vectors)

abbrev pub shorten : ℕ → ℕ → (vectors : List ℕ) → (allowed : ℕ) → Answer Shorter
shorten n k vectors allowed = shorten_in (network_of n) k vectors allowed

-- the full result
abbrev pub keeps : (kept : List ℕ) → (checks floor : ℕ) → Answer Shorter
keeps kept checks floor = full (record { kept = kept; checks = checks; floor = floor })

-- vector 0, the walking vectors of four nets, and two more
abbrev pub seven_vectors : List ℕ
seven_vectors = 0 ∷ 1 ∷ 2 ∷ 4 ∷ 8 ∷ 3 ∷ 5 ∷ []

-- the same with each bit turned, for a wired AND
abbrev pub seven_turned : List ℕ
seven_turned = 15 ∷ 14 ∷ 13 ∷ 11 ∷ 7 ∷ 12 ∷ 10 ∷ []

pub record ShorterCases : Type 0 where
  -- ---- the checks allowed: one a vector, fewer, none, more
  pub enough_checks : shorten 4 2 seven_vectors 7 ≡ keeps (1 ∷ 2 ∷ 4 ∷ 8 ∷ []) 7 4
  pub two_checks : shorten 4 2 seven_vectors 2 ≡ keeps (0 ∷ 1 ∷ 2 ∷ 4 ∷ 8 ∷ []) 2 4
  pub no_checks : shorten 4 2 seven_vectors 0 ≡ keeps seven_vectors 0 4
  pub one_check : shorten 4 2 seven_vectors 1 ≡ keeps (0 ∷ 1 ∷ 2 ∷ 4 ∷ 8 ∷ 3 ∷ []) 1 4
  pub six_checks : shorten 4 2 seven_vectors 6 ≡ keeps (0 ∷ 1 ∷ 2 ∷ 4 ∷ 8 ∷ []) 6 4
  pub eight_checks : shorten 4 2 seven_vectors 8 ≡ keeps (1 ∷ 2 ∷ 4 ∷ 8 ∷ []) 7 4
  pub past_32_bits : shorten 4 2 seven_vectors 4294967296 ≡ keeps (1 ∷ 2 ∷ 4 ∷ 8 ∷ []) 7 4
  pub most_checks : shorten 4 2 seven_vectors 18446744073709551615 ≡ keeps (1 ∷ 2 ∷ 4 ∷ 8 ∷ []) 7 4
  -- ---- the rule: from the last to the first, where the first to the last would keep 2 1
  pub last_goes : shorten 2 1 (1 ∷ 2 ∷ 1 ∷ []) 3 ≡ keeps (1 ∷ 2 ∷ []) 3 2
  -- from what is kept so far: each 2 alone can be removed from the whole set, and not both
  pub one_of_two : shorten 2 1 (1 ∷ 2 ∷ 2 ∷ []) 3 ≡ keeps (1 ∷ 2 ∷ []) 3 2
  -- with no checks left the rest is kept, also what could be dropped
  pub rest_kept : shorten 2 1 (1 ∷ 2 ∷ 2 ∷ 2 ∷ []) 1 ≡ keeps (1 ∷ 2 ∷ 2 ∷ []) 1 2
  -- where nothing can be dropped, every vector is tried
  pub all_needed : shorten 2 1 (1 ∷ 2 ∷ []) 2 ≡ keeps (1 ∷ 2 ∷ []) 2 2
  -- the order given is kept
  pub another_order : shorten 4 2 (8 ∷ 0 ∷ 4 ∷ 2 ∷ 1 ∷ []) 5 ≡ keeps (8 ∷ 4 ∷ 2 ∷ 1 ∷ []) 5 4
  -- one driver: three of the walking vectors are enough, and no two are
  pub down_to_floor : shorten 4 1 (1 ∷ 2 ∷ 4 ∷ 8 ∷ []) 4 ≡ keeps (1 ∷ 2 ∷ 4 ∷ []) 4 3
  -- two drivers: no walking vector can be left out, and the floor is one less
  pub above_floor : shorten 5 2 (1 ∷ 2 ∷ 4 ∷ 8 ∷ 16 ∷ 31 ∷ []) 6 ≡ keeps (1 ∷ 2 ∷ 4 ∷ 8 ∷ 16 ∷ []) 6 4
  -- ---- the other soft level, the other gate
  pub pulled_down : shorten_in (wired_or 4 0) 2 seven_vectors 7 ≡ keeps (1 ∷ 2 ∷ 4 ∷ 8 ∷ []) 7 4
  pub with_and_0 : shorten_in (wired_and 4 0) 2 seven_turned 7 ≡ keeps (14 ∷ 13 ∷ 11 ∷ 7 ∷ []) 7 4
  pub with_and_1 : shorten_in (wired_and 4 1) 2 seven_turned 7 ≡ keeps (14 ∷ 13 ∷ 11 ∷ 7 ∷ []) 7 4
  -- what a receiver that floats reads decides what can be spared
  pub kept_at_0 : shorten_in (wired_or 2 0) 1 (0 ∷ 3 ∷ 1 ∷ 2 ∷ []) 4 ≡ keeps (3 ∷ 1 ∷ []) 4 2
  pub kept_at_1 : shorten_in (wired_or 2 1) 1 (0 ∷ 3 ∷ 1 ∷ 2 ∷ []) 4 ≡ keeps (0 ∷ 1 ∷ []) 4 2
  -- the walking vectors of class n pass at level 0, and at level 1 only with vector 0
  pub walking_at_0 : shorten_in (wired_or 2 0) 2 (0 ∷ 1 ∷ 2 ∷ 3 ∷ []) 4 ≡ keeps (1 ∷ 2 ∷ []) 4 2
  pub walking_at_1 : shorten_in (wired_or 2 1) 2 (0 ∷ 1 ∷ 2 ∷ 3 ∷ []) 4 ≡ keeps (0 ∷ 1 ∷ 2 ∷ []) 4 2
  -- ---- the floor: 49, 1,177 and 18,473 sets
  pub floor_48_1 : floor (network_of 48) 1 ≡ 6
  pub floor_48_2 : floor (network_of 48) 2 ≡ 11
  pub floor_48_3 : floor (network_of 48) 3 ≡ 15
  -- 3 and 4 sets; 4 and 8; 5, 8 and 9: both sides of a power of two
  pub floor_2_1 : floor (network_of 2) 1 ≡ 2
  pub floor_2_2 : floor (network_of 2) 2 ≡ 2
  pub floor_3_1 : floor (network_of 3) 1 ≡ 2
  pub floor_3_3 : floor (network_of 3) 3 ≡ 3
  pub floor_4_1 : floor (network_of 4) 1 ≡ 3
  pub floor_7_1 : floor (network_of 7) 1 ≡ 3
  pub floor_8_1 : floor (network_of 8) 1 ≡ 4
  -- ---- the rows: 5, n
  pub nets_1 : shorten 1 1 (0 ∷ 1 ∷ []) 2 ≡ refused 5
  pub nets_48 : shorten 48 1 (0 ∷ []) 1 ≡ refused 13
  pub nets_49 : shorten 49 1 (0 ∷ []) 2 ≡ refused 5
  -- 6, k: 0, above n, and above 3 even where every other call has such a class
  pub class_0 : shorten 4 0 seven_vectors 7 ≡ refused 6
  pub class_above : shorten 2 3 (0 ∷ 1 ∷ 2 ∷ []) 3 ≡ refused 6
  pub class_4_of_4 : shorten 4 4 (0 ∷ 1 ∷ 2 ∷ 4 ∷ 8 ∷ []) 5 ≡ refused 6
  pub class_4_of_5 : shorten 5 4 (0 ∷ 1 ∷ 2 ∷ 4 ∷ 8 ∷ 16 ∷ []) 6 ≡ refused 6
  pub class_5_of_5 : shorten 5 5 (0 ∷ 1 ∷ 2 ∷ 4 ∷ 8 ∷ 16 ∷ []) 6 ≡ refused 6
  pub class_4_of_11 : shorten 11 4 (0 ∷ []) 1 ≡ refused 6
  -- class n of 2 and 3 nets is one of 1, 2 and 3
  pub class_2_of_2 : shorten 2 2 (0 ∷ 1 ∷ 2 ∷ []) 3 ≡ keeps (0 ∷ 1 ∷ 2 ∷ []) 3 2
  pub class_3_of_3 : shorten 3 3 (0 ∷ 1 ∷ 2 ∷ 4 ∷ 7 ∷ []) 5 ≡ keeps (0 ∷ 1 ∷ 2 ∷ 4 ∷ []) 5 3
  pub class_3_of_4 : shorten 4 3 (1 ∷ 2 ∷ 4 ∷ 8 ∷ []) 0 ≡ keeps (1 ∷ 2 ∷ 4 ∷ 8 ∷ []) 0 4
  -- 17 and 20, the level and the gate
  pub level_2 : shorten_in (network_with 4 2 0) 2 seven_vectors 7 ≡ refused 17
  pub gate_2 : shorten_in (network_with 4 1 2) 2 seven_vectors 7 ≡ refused 20
  -- 7, the vectors
  pub no_vectors : shorten 4 2 [] 7 ≡ refused 7
  pub vectors_64 : shorten 4 2 (replicate 64 0) 0 ≡ refused 13
  pub vectors_65 : shorten 4 2 (replicate 65 0) 7 ≡ refused 7
  -- 8, a bit at n
  pub word_at : shorten 4 2 (16 ∷ []) 1 ≡ refused 8
  -- 12, room for the whole set given, though four are kept
  pub room_6 : shorten_answer (network_of 4) 2 seven_vectors 7 6 ≡ refused 12
  pub room_8 : shorten_answer (network_of 4) 2 seven_vectors 7 8 ≡ keeps (1 ∷ 2 ∷ 4 ∷ 8 ∷ []) 7 4
  -- 13, a set that is not passed, whatever the checks; one vector never is
  pub not_passed : shorten 4 2 (0 ∷ 1 ∷ 2 ∷ 4 ∷ []) 4 ≡ refused 13
  pub not_passed_unchecked : shorten 4 2 (0 ∷ 1 ∷ 2 ∷ 4 ∷ []) 0 ≡ refused 13
  pub one_vector : shorten 2 1 (1 ∷ []) 1 ≡ refused 13
  pub only_at_level_0 : shorten_in (wired_or 2 1) 2 (1 ∷ 2 ∷ []) 2 ≡ refused 13
  -- of two rows that hold the first
  pub five_first : shorten 49 4 [] 0 ≡ refused 5
  pub six_first : shorten_in (network_with 4 2 2) 4 [] 0 ≡ refused 6
  pub seventeen_first : shorten_in (network_with 4 2 2) 2 [] 0 ≡ refused 17
  pub twenty_first : shorten_in (network_with 4 1 2) 2 [] 0 ≡ refused 20
  pub seven_first : shorten_answer (network_of 4) 2 (replicate 65 16) 0 0 ≡ refused 7
  pub eight_first : shorten_answer (network_of 4) 2 (16 ∷ []) 0 0 ≡ refused 8
  pub twelve_first : shorten_answer (network_of 4) 2 (0 ∷ 1 ∷ 2 ∷ 4 ∷ []) 4 3 ≡ refused 12
  -- ---- the order given: entries may be left out, and not exchanged, repeated or made up
  pub left_out : InOrder (1 ∷ 4 ∷ []) (1 ∷ 2 ∷ 4 ∷ [])
  pub not_exchanged : ¬ (InOrder (2 ∷ 1 ∷ []) (1 ∷ 2 ∷ []))
  pub not_repeated : ¬ (InOrder (1 ∷ 1 ∷ []) (1 ∷ 2 ∷ []))
  pub not_made_up : ¬ (InOrder (3 ∷ []) (1 ∷ 2 ∷ []))
  -- ---- the lent list: only the kept words are written, also where there was room for more
  pub rest_of_list : our_shorten (network_of 2) 1 (1 ∷ 2 ∷ 2 ∷ []) 3 (9 ∷ 9 ∷ 9 ∷ 9 ∷ [])
      ≡ record { returned = full (record { kept = 2; checks = 3; floor = 2 }); list = 1 ∷ 2 ∷ 9 ∷ 9 ∷ [] }
  pub list_refused : our_shorten (network_of 2) 1 (1 ∷ []) 3 (9 ∷ 9 ∷ [])
      ≡ record { returned = refused 13; list = 9 ∷ 9 ∷ [] }
  -- ---- through C: how many are kept, the checks made, the floor
  pub words_of_counts : shorter_words (record { kept = 1 ∷ 2 ∷ []; checks = 5; floor = 3 }) ≡ 2 ∷ 5 ∷ 3 ∷ []
