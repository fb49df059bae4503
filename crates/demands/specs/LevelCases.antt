-- Document 02's soft level: cases of level 0 worked out from the paper, at the gate OR, what the level changes and what
-- it does not, and both sides of each bound of row 17 in the calls that take a network. The reader's and the writer's
-- are in FileBounds.antt, those of *shorten* in ShorterCases.antt, and the gate's in GateCases.antt.
use Rattle.std.specs.Prelude.{ℕ, ◌-◌, ◌^◌, ◌≤◌, ◌≡◌, ◌≢◌, true, false, List, [], ◌∷◌, ◌++◌, replicate}
use Rattle.words.specs.Answers.{refused, full}
use Rattle.network.specs.declared.Network.{Network}
use Rattle.network.specs.Reading.{network_with, wired_or, network_of, extra_vectors, reads}
use Rattle.network.specs.Rows.{Row17}
use Rattle.network.specs.Respond.{response_answer}
use Rattle.checker.specs.declared.Verdict.TheVariants.{Pass, Pair}
use Rattle.checker.specs.Check.{check_answer}
use Rattle.diagnosis.specs.Diagnosis.{diagnosis_answer}
use Rattle.findings.specs.FindingsTable.{findings_answer}
use Rattle.session.specs.Record.{awaiting_first, awaiting_second, finished}
use Rattle.session.specs.Calls.{begin_answer, first_answer, second_answer}
use Rattle.session.specs.Drive.{to_drive}
use Rattle.packing.specs.Packed.{session_words, job_words}
use Rattle.demands.specs.SessionCalls.{Call, begin, first, second, record_after}
use Rattle.demands.specs.Programs.{our_sessions}
use Rattle.demands.specs.Starred.{own, junk, answers_to}

-- two nets and four nets that float to 0
abbrev pub two_at_0 : Network
two_at_0 = wired_or 2 0

abbrev pub four_at_0 : Network
four_at_0 = wired_or 4 0

-- walking ones with vector 0, and the state of document 01's cases
abbrev pub walking : List ℕ
walking = 0 ∷ 1 ∷ 2 ∷ 4 ∷ 8 ∷ []

abbrev pub broken : List ℕ
broken = 3 ∷ 3 ∷ 0 ∷ 8 ∷ []

-- a session at level 0 over that state, with refused calls before and between
abbrev pub calls_at_0 : List Call
calls_at_0 =
    begin (wired_or 49 2) (own (wired_or 49 2)) (9 ∷ 9 ∷ 9 ∷ 9 ∷ [])
    ∷ begin (wired_or 4 2) (own (wired_or 4 2)) (9 ∷ 9 ∷ 9 ∷ [])
    ∷ begin four_at_0 (own four_at_0) (9 ∷ 9 ∷ 9 ∷ [])
    ∷ begin four_at_0 (own four_at_0) (9 ∷ 9 ∷ 9 ∷ 9 ∷ [])
    ∷ first (11 ∷ 3 ∷ 3 ∷ 8 ∷ []) (9 ∷ 9 ∷ [])
    ∷ first (11 ∷ 3 ∷ 3 ∷ 8 ∷ []) (9 ∷ 9 ∷ 9 ∷ 9 ∷ [])
    ∷ second (0 ∷ 3 ∷ 3 ∷ 0 ∷ [])
    ∷ second (3 ∷ 3 ∷ 0 ∷ [])
    ∷ []

-- ---- what the level changes

pub record LevelCases : Type 0 where
  -- a floating receiver reads the level, whatever is driven and the gate; any other reads the same at each level
  pub floats_to_0 : (n gate vector : ℕ) → reads (network_with n 0 gate) 0 vector ≡ false
  pub floats_to_1 : (n gate vector : ℕ) → reads (network_with n 1 gate) 0 vector ≡ true
  pub driven_alike : (n level other gate reach vector : ℕ) → reach ≢ 0
      → reads (network_with n level gate) reach vector ≡ reads (network_with n other gate) reach vector
  -- the extra vector is vector 0, and level 0 has none
  pub extra_at_1 : (n : ℕ) → extra_vectors (wired_or n 1) ≡ 0 ∷ []
  pub extra_at_0 : (n : ℕ) → extra_vectors (wired_or n 0) ≡ []
  -- walking ones: vector 0 is not asked for, and does no harm; the vector of net 3 is
  pub walking_alone : check_answer four_at_0 4 (1 ∷ 2 ∷ 4 ∷ 8 ∷ []) ≡ full Pass
  pub walking_with_0 : check_answer four_at_0 4 walking ≡ full Pass
  pub no_vector_of_net_3 : check_answer four_at_0 4 (0 ∷ 1 ∷ 2 ∷ 4 ∷ []) ≡ full (Pair 7 15)
  -- counting with complement, for two drivers
  pub complement_at_0 : check_answer four_at_0 2 (3 ∷ 5 ∷ 12 ∷ 10 ∷ []) ≡ full (Pair 6 9)
  pub complement_at_1 : check_answer (network_of 4) 2 (3 ∷ 5 ∷ 12 ∷ 10 ∷ []) ≡ full (Pair 0 6)
  -- the state 3 3 0 8: its response, and back, with vector 0 and without
  pub response : response_answer four_at_0 (own four_at_0) 4 walking broken 5 ≡ full (0 ∷ 3 ∷ 3 ∷ 0 ∷ 8 ∷ [])
  pub and_back : diagnosis_answer four_at_0 (own four_at_0) 4 walking (0 ∷ 3 ∷ 3 ∷ 0 ∷ 8 ∷ []) 4 ≡ full broken
  pub back_without_0 : diagnosis_answer four_at_0 (own four_at_0) 4 (1 ∷ 2 ∷ 4 ∷ 8 ∷ []) (3 ∷ 3 ∷ 0 ∷ 8 ∷ []) 4 ≡ full broken
  -- nothing reads 1 on vector 0
  pub no_state : diagnosis_answer four_at_0 (own four_at_0) 4 walking (4 ∷ 3 ∷ 3 ∷ 0 ∷ 8 ∷ []) 4 ≡ refused 14
  -- its answers to a session's two steps
  pub first_answers : response_answer four_at_0 (own four_at_0) 4 (11 ∷ 5 ∷ 6 ∷ 8 ∷ []) broken 4 ≡ full (11 ∷ 3 ∷ 3 ∷ 8 ∷ [])
  pub second_answers : response_answer four_at_0 (own four_at_0) 4 (1 ∷ 2 ∷ 4 ∷ []) broken 3 ≡ full (3 ∷ 3 ∷ 0 ∷ [])
  -- the session: p = 4 and F = 3, so 7 are spent
  pub session_answers : answers_to junk calls_at_0
      ≡ refused 5
      ∷ refused 17
      ∷ refused 12
      ∷ full (11 ∷ 5 ∷ 6 ∷ 8 ∷ [])
      ∷ refused 12
      ∷ full (1 ∷ 2 ∷ 4 ∷ [])
      ∷ refused 9
      ∷ full []
      ∷ []
  pub session_record : record_after our_sessions junk calls_at_0 ≡ finished four_at_0 (own four_at_0) broken 7
  -- two nets: sound; both floating
  pub sound_pair : record_after our_sessions junk (begin two_at_0 (own two_at_0) (9 ∷ 9 ∷ []) ∷ first (1 ∷ 2 ∷ []) [] ∷ [])
      ≡ finished two_at_0 (own two_at_0) (1 ∷ 2 ∷ []) 2
  pub floating_pair : record_after our_sessions junk
      (begin two_at_0 (own two_at_0) (9 ∷ 9 ∷ []) ∷ first (0 ∷ 0 ∷ []) (9 ∷ 9 ∷ []) ∷ second (0 ∷ 0 ∷ []) ∷ [])
      ≡ finished two_at_0 (own two_at_0) (0 ∷ 0 ∷ []) 4
  -- the part to drive in step two
  pub driven_at_0 : to_drive (awaiting_second two_at_0 (own two_at_0) (0 ∷ 0 ∷ [])) (7 ∷ []) (1 ∷ 2 ∷ 9 ∷ []) ≡ 1 ∷ 2 ∷ []
  pub driven_at_1 : to_drive (awaiting_second (network_of 2) (own (network_of 2)) (3 ∷ 3 ∷ [])) (7 ∷ [])
      (0 ∷ 1 ∷ 2 ∷ 9 ∷ []) ≡ 0 ∷ 1 ∷ 2 ∷ []
  -- row 17: 0 and 1 alone are levels
  pub level_0 : (n gate : ℕ) → ¬ (Row17 (network_with n 0 gate))
  pub level_1 : (n gate : ℕ) → ¬ (Row17 (network_with n 1 gate))
  pub no_other_level : (n level gate : ℕ) → 2 ≤ level → Row17 (network_with n level gate)
  -- in the calls: level 2, and the greatest number
  pub check_2 : check_answer (wired_or 4 2) 4 walking ≡ refused 17
  pub check_greatest : check_answer (wired_or 4 (2 ^ 64 - 1)) 4 walking ≡ refused 17
  pub respond_2 : response_answer (wired_or 4 2) (own (wired_or 4 2)) 4 walking broken 5 ≡ refused 17
  pub diagnose_2 : diagnosis_answer (wired_or 4 2) (own (wired_or 4 2)) 4 walking (0 ∷ 3 ∷ 3 ∷ 0 ∷ 8 ∷ []) 4 ≡ refused 17
  pub find_0 : findings_answer two_at_0 (own two_at_0) (1 ∷ 0 ∷ []) 2
      ≡ full (record { kind = 0; reach = 1; partners = 0 } ∷ record { kind = 1; reach = 0; partners = 0 } ∷ [])
  pub find_1 : findings_answer (network_of 2) (own (network_of 2)) (1 ∷ 0 ∷ []) 2 ≡ findings_answer two_at_0 (own two_at_0) (1 ∷ 0 ∷ []) 2
  pub find_2 : findings_answer (wired_or 2 2) (own (wired_or 2 2)) (1 ∷ 0 ∷ []) 2 ≡ refused 17
  pub begin_0 : begin_answer two_at_0 (own two_at_0) 2 ≡ full (1 ∷ 2 ∷ [])
  pub begin_2 : begin_answer (wired_or 2 2) (own (wired_or 2 2)) 2 ≡ refused 17
  -- its place: after 5 and 6, before 7, 11 and 12
  pub five_first : check_answer (wired_or 49 2) 49 walking ≡ refused 5
  pub six_first : check_answer (wired_or 11 2) 4 walking ≡ refused 6
  pub before_7 : check_answer (wired_or 4 2) 4 [] ≡ refused 17
  pub find_five_first : findings_answer (wired_or 49 2) (own (wired_or 49 2)) [] 0 ≡ refused 5
  pub find_before_11 : findings_answer (wired_or 2 2) (own (wired_or 2 2)) (3 ∷ 1 ∷ []) 0 ≡ refused 17
  pub begin_five_first : begin_answer (wired_or 49 2) (own (wired_or 49 2)) 0 ≡ refused 5
  pub begin_before_12 : begin_answer (wired_or 2 2) (own (wired_or 2 2)) 0 ≡ refused 17
  -- row 4: no accepted calls leave a record of another level
  pub record_first_0 : first_answer (awaiting_first two_at_0 (own two_at_0)) (0 ∷ 0 ∷ []) 2 ≡ full (1 ∷ 2 ∷ [])
  pub record_first_2 : first_answer (awaiting_first (wired_or 2 2) (own (wired_or 2 2))) (0 ∷ 0 ∷ []) 2 ≡ refused 4
  pub record_second_0 : second_answer (awaiting_second two_at_0 (own two_at_0) (0 ∷ 0 ∷ [])) (0 ∷ 0 ∷ []) ≡ full []
  pub record_second_2 : second_answer (awaiting_second (wired_or 2 2) (own (wired_or 2 2)) (0 ∷ 0 ∷ [])) (0 ∷ 0 ∷ []) ≡ refused 4
  pub record_drive_2 : to_drive (awaiting_second (wired_or 2 2) (own (wired_or 2 2)) (0 ∷ 0 ∷ [])) (7 ∷ []) (1 ∷ 2 ∷ 9 ∷ []) ≡ []
  -- through C: a session's words begin with step, nets, level, gate and receivers, and a job's with nets, level, gate
  -- and class
  pub begun_words : session_words (awaiting_first (wired_or 48 0) (own (wired_or 48 0))) ≡ 1 ∷ 48 ∷ 0 ∷ 0 ∷ 48
      ∷ own (wired_or 48 0) ++ replicate 89 0
  pub waiting_words : session_words (awaiting_second two_at_0 (own two_at_0) (3 ∷ 2 ∷ []))
      ≡ 2 ∷ 2 ∷ 0 ∷ 0 ∷ 2 ∷ 0 ∷ 1 ∷ replicate 62 0 ++ 3 ∷ 2 ∷ replicate 71 0
  pub finished_words : session_words (finished four_at_0 (own four_at_0) broken 7)
      ≡ 3 ∷ 4 ∷ 0 ∷ 0 ∷ 4 ∷ 0 ∷ 1 ∷ 2 ∷ 3 ∷ replicate 60 0 ++ replicate 8 0 ++ broken ++ replicate 60 0 ++ 7 ∷ []
  pub words_of_a_job : job_words (record { network = four_at_0; class = 2; kind = 2; vectors = walking; responses = 0 ∷ 3 ∷ 3 ∷ [] })
      ≡ 4 ∷ 0 ∷ 0 ∷ 2 ∷ 2 ∷ 5 ∷ 3 ∷ []
