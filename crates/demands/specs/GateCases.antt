-- Document 02's gate: what receivers read at each gate, in the paper's words and as a law between the two; what clear
-- nets are held at; cases of AND at both soft levels worked out from the paper; and both sides of each bound of row 20
-- in the calls that take a network. The reader's and the writer's are in FileBounds.antt, those of *shorten* in
-- ShorterCases.antt.
use Rattle.std.specs.Prelude.{ℕ, ◌-◌, ◌^◌, ◌≤◌, ◌<◌, ◌≡◌, ◌≢◌, true, false, not, List, [], ◌∷◌, ◌++◌, eqb, length, replicate}
use Rattle.words.specs.Answers.{refused, full}
use Rattle.words.specs.Bits.{has, at}
use Rattle.words.specs.Turning.{tabulate}
use Rattle.network.specs.declared.Network.{Network}
use Rattle.network.specs.Reading.{network_with, wired_or, wired_and, walking_vector, extra_vectors, reads}
use Rattle.network.specs.Rows.{Row20}
use Rattle.network.specs.Respond.{response_answer}
use Rattle.checker.specs.declared.Verdict.TheVariants.{Pass, Pair}
use Rattle.checker.specs.Check.{check_answer}
use Rattle.diagnosis.specs.Diagnosis.{diagnosis_answer}
use Rattle.findings.specs.FindingsTable.{findings_answer}
use Rattle.steps.specs.SecondStep.{Clear, second_vectors}
use Rattle.session.specs.Record.{awaiting_first, awaiting_second, finished}
use Rattle.session.specs.Calls.{begin_answer, first_answer, second_answer}
use Rattle.session.specs.Drive.{to_drive}
use Rattle.packing.specs.Packed.{session_words, job_words}
use Rattle.demands.specs.SessionCalls.{Call, begin, first, second, record_after}
use Rattle.demands.specs.Programs.{our_sessions}
use Rattle.demands.specs.Starred.{own, junk, answers_to}
use Rattle.demands.specs.LevelCases.{broken}

-- four nets of an older shelf, at each soft level
abbrev pub shelf_at_0 : Network
shelf_at_0 = wired_and 4 0

abbrev pub shelf_at_1 : Network
shelf_at_1 = wired_and 4 1

-- all ones and the vectors with a single 0
abbrev pub walking_zeros : List ℕ
walking_zeros = 15 ∷ 14 ∷ 13 ∷ 11 ∷ 7 ∷ []

-- source document 004, table II
abbrev pub table_2 : List ℕ
table_2 = 34 ∷ 9 ∷ 49 ∷ 6 ∷ 76 ∷ 86 ∷ 96 ∷ []

-- a session over the state of document 01's cases, with refused calls before and between: at soft level 0 the second
-- list needs room for 4 vectors, at soft level 1 for 3
abbrev pub and_calls_0 : List Call
and_calls_0 =
    begin (network_with 49 2 2) (own (network_with 49 2 2)) (9 ∷ 9 ∷ 9 ∷ 9 ∷ [])
    ∷ begin (network_with 4 2 2) (own (network_with 4 2 2)) (9 ∷ 9 ∷ 9 ∷ [])
    ∷ begin (network_with 4 0 2) (own (network_with 4 0 2)) (9 ∷ 9 ∷ 9 ∷ [])
    ∷ begin shelf_at_0 (own shelf_at_0) (9 ∷ 9 ∷ 9 ∷ [])
    ∷ begin shelf_at_0 (own shelf_at_0) (9 ∷ 9 ∷ 9 ∷ 9 ∷ [])
    ∷ first (11 ∷ 0 ∷ 0 ∷ 8 ∷ []) (9 ∷ 9 ∷ 9 ∷ [])
    ∷ first (11 ∷ 0 ∷ 0 ∷ 8 ∷ []) (9 ∷ 9 ∷ 9 ∷ 9 ∷ [])
    ∷ second (11 ∷ 8 ∷ 8 ∷ [])
    ∷ second (11 ∷ 8 ∷ 8 ∷ 11 ∷ [])
    ∷ []

abbrev pub and_calls_1 : List Call
and_calls_1 =
    begin shelf_at_1 (own shelf_at_1) (9 ∷ 9 ∷ 9 ∷ 9 ∷ [])
    ∷ first (15 ∷ 4 ∷ 4 ∷ 12 ∷ []) (9 ∷ 9 ∷ [])
    ∷ first (15 ∷ 4 ∷ 4 ∷ 12 ∷ []) (9 ∷ 9 ∷ 9 ∷ 9 ∷ [])
    ∷ second (12 ∷ 12 ∷ 15 ∷ 0 ∷ [])
    ∷ second (12 ∷ 12 ∷ 15 ∷ [])
    ∷ []

pub record GateCases : Type 0 where
  -- ---- reading, in the paper's words; LevelCases has what a floating receiver reads
  -- OR: 1 if a driver in the reach drives 1, otherwise 0
  pub or_one : (n level reach vector j : ℕ) → j < n → has reach j ≡ true → has vector j ≡ true
      → reads (wired_or n level) reach vector ≡ true
  pub or_otherwise : (n level reach vector : ℕ) → reach ≢ 0 → ((j : ℕ) → j < n → has reach j ≡ true → has vector j ≡ false)
      → reads (wired_or n level) reach vector ≡ false
  -- AND: 0 if a driver in the reach drives 0, else 1
  pub and_one : (n level reach vector j : ℕ) → j < n → has reach j ≡ true → has vector j ≡ false
      → reads (wired_and n level) reach vector ≡ false
  pub and_else : (n level reach vector : ℕ) → reach ≢ 0 → ((j : ℕ) → j < n → has reach j ≡ true → has vector j ≡ true)
      → reads (wired_and n level) reach vector ≡ true
  -- AND is OR with 0 and 1 exchanged: in what is driven, in the level and in what is read
  pub exchanged : (n level other reach vector opposite : ℕ) → eqb other 1 ≡ not (eqb level 1)
      → ((j : ℕ) → j < n → has opposite j ≡ not (has vector j))
      → reads (wired_and n level) reach vector ≡ not (reads (wired_or n other) reach opposite)
  -- ---- vectors
  -- the walking vectors have the single 0 within n bits, at each level
  pub zeros_of_4 : (level : ℕ) → tabulate 4 (walking_vector (wired_and 4 level)) ≡ 14 ∷ 13 ∷ 11 ∷ 7 ∷ []
  pub zero_of_48 : (level : ℕ) → walking_vector (wired_and 48 level) 47 ≡ 2 ^ 47 - 1
  -- the extra vector is all n ones at soft level 0, and soft level 1 has none
  pub extra_at_0 : (n : ℕ) → extra_vectors (wired_and n 0) ≡ (2 ^ n - 1) ∷ []
  pub extra_of_4 : extra_vectors shelf_at_0 ≡ 15 ∷ []
  pub extra_at_1 : (n : ℕ) → extra_vectors (wired_and n 1) ≡ []
  -- ---- the checker
  -- k = n at soft level 0: pass; all ones missing; the vector of net 2 missing; OR's vectors
  pub zeros_pass_0 : check_answer shelf_at_0 4 walking_zeros ≡ full Pass
  pub no_ones_0 : check_answer shelf_at_0 4 (14 ∷ 13 ∷ 11 ∷ 7 ∷ []) ≡ full (Pair 0 15)
  pub no_zero_of_net_2 : check_answer shelf_at_0 4 (15 ∷ 14 ∷ 13 ∷ 7 ∷ []) ≡ full (Pair 11 15)
  pub ones_walking_0 : check_answer shelf_at_0 4 (0 ∷ 1 ∷ 2 ∷ 4 ∷ 8 ∷ []) ≡ full (Pair 0 15)
  -- at soft level 1: pass, also with all ones; the vector of net 3 missing; OR's vectors
  pub zeros_pass_1 : check_answer shelf_at_1 4 (14 ∷ 13 ∷ 11 ∷ 7 ∷ []) ≡ full Pass
  pub ones_do_no_harm : check_answer shelf_at_1 4 walking_zeros ≡ full Pass
  pub no_zero_of_net_3 : check_answer shelf_at_1 4 (14 ∷ 13 ∷ 11 ∷ []) ≡ full (Pair 7 15)
  pub ones_walking_1 : check_answer shelf_at_1 4 (0 ∷ 1 ∷ 2 ∷ 4 ∷ 8 ∷ []) ≡ full (Pair 14 15)
  -- OR does not pass with AND's vectors
  pub zeros_for_or : check_answer (wired_or 4 1) 4 walking_zeros ≡ full (Pair 0 15)
  -- the published set, for one driver, two and three
  pub published_1_0 : check_answer (wired_and 7 0) 1 table_2 ≡ full Pass
  pub published_2_0 : check_answer (wired_and 7 0) 2 table_2 ≡ full (Pair 0 3)
  pub published_3_0 : check_answer (wired_and 7 0) 3 table_2 ≡ full (Pair 0 3)
  pub published_1_1 : check_answer (wired_and 7 1) 1 table_2 ≡ full Pass
  pub published_2_1 : check_answer (wired_and 7 1) 2 table_2 ≡ full (Pair 3 5)
  pub published_3_1 : check_answer (wired_and 7 1) 3 table_2 ≡ full (Pair 3 5)
  -- ---- responses and reading back
  -- the state 3 3 0 8, there and back
  pub response_0 : response_answer shelf_at_0 (own shelf_at_0) 4 walking_zeros broken 5 ≡ full (11 ∷ 8 ∷ 8 ∷ 11 ∷ 3 ∷ [])
  pub back_0 : diagnosis_answer shelf_at_0 (own shelf_at_0) 4 walking_zeros (11 ∷ 8 ∷ 8 ∷ 11 ∷ 3 ∷ []) 4 ≡ full broken
  pub response_1 : response_answer shelf_at_1 (own shelf_at_1) 4 (14 ∷ 13 ∷ 11 ∷ 7 ∷ []) broken 4 ≡ full (12 ∷ 12 ∷ 15 ∷ 7 ∷ [])
  pub back_1 : diagnosis_answer shelf_at_1 (own shelf_at_1) 4 (14 ∷ 13 ∷ 11 ∷ 7 ∷ []) (12 ∷ 12 ∷ 15 ∷ 7 ∷ []) 4 ≡ full broken
  -- a receiver that reads 0 where all drive 1 floats, and reads 0 on; two reaches that meet and differ
  pub no_state_0 : diagnosis_answer shelf_at_0 (own shelf_at_0) 4 walking_zeros (11 ∷ 8 ∷ 8 ∷ 15 ∷ 3 ∷ []) 4 ≡ refused 14
  pub no_state_1 : diagnosis_answer (wired_and 2 1) (own (wired_and 2 1)) 2 (2 ∷ 1 ∷ []) (0 ∷ 2 ∷ []) 2 ≡ refused 14
  -- ---- sessions
  -- what the state 3 3 0 8 answers in both steps
  pub first_answers_0 : response_answer shelf_at_0 (own shelf_at_0) 4 (11 ∷ 5 ∷ 6 ∷ 8 ∷ []) broken 4 ≡ full (11 ∷ 0 ∷ 0 ∷ 8 ∷ [])
  pub second_answers_0 : response_answer shelf_at_0 (own shelf_at_0) 4 (15 ∷ 14 ∷ 13 ∷ 11 ∷ []) broken 4 ≡ full (11 ∷ 8 ∷ 8 ∷ 11 ∷ [])
  pub first_answers_1 : response_answer shelf_at_1 (own shelf_at_1) 4 (11 ∷ 5 ∷ 6 ∷ 8 ∷ []) broken 4 ≡ full (15 ∷ 4 ∷ 4 ∷ 12 ∷ [])
  pub second_answers_1 : response_answer shelf_at_1 (own shelf_at_1) 4 (14 ∷ 13 ∷ 11 ∷ []) broken 3 ≡ full (12 ∷ 12 ∷ 15 ∷ [])
  -- p = 4 and F = 3, and net 3, which is clear, is held at 1: 8 are spent at soft level 0, 7 at soft level 1
  pub session_answers_0 : answers_to junk and_calls_0
      ≡ refused 5
      ∷ refused 17
      ∷ refused 20
      ∷ refused 12
      ∷ full (11 ∷ 5 ∷ 6 ∷ 8 ∷ [])
      ∷ refused 12
      ∷ full (15 ∷ 14 ∷ 13 ∷ 11 ∷ [])
      ∷ refused 9
      ∷ full []
      ∷ []
  pub session_record_0 : record_after our_sessions junk and_calls_0 ≡ finished shelf_at_0 (own shelf_at_0) broken 8
  pub session_answers_1 : answers_to junk and_calls_1
      ≡ full (11 ∷ 5 ∷ 6 ∷ 8 ∷ [])
      ∷ refused 12
      ∷ full (14 ∷ 13 ∷ 11 ∷ [])
      ∷ refused 9
      ∷ full []
      ∷ []
  pub session_record_1 : record_after our_sessions junk and_calls_1 ≡ finished shelf_at_1 (own shelf_at_1) broken 7
  -- whatever the first answers are, step two holds clear nets at 1, and with OR at 0
  pub clear_held : (n level : ℕ) (owners answers : List ℕ) (i t : ℕ) → i < n → Clear (wired_and n level) owners answers i
      → t < length (second_vectors (wired_and n level) owners answers)
      → has (at (second_vectors (wired_and n level) owners answers) t) i ≡ true
  pub clear_held_or : (n level : ℕ) (owners answers : List ℕ) (i t : ℕ) → i < n → Clear (wired_or n level) owners answers i
      → t < length (second_vectors (wired_or n level) owners answers)
      → has (at (second_vectors (wired_or n level) owners answers) t) i ≡ false
  -- two nets: sound; both floating, at each level
  pub sound_pair : record_after our_sessions junk (begin (wired_and 2 0) (own (wired_and 2 0)) (9 ∷ 9 ∷ []) ∷ first (1 ∷ 2 ∷ []) [] ∷ [])
      ≡ finished (wired_and 2 0) (own (wired_and 2 0)) (1 ∷ 2 ∷ []) 2
  pub floating_pair_0 : record_after our_sessions junk
      (begin (wired_and 2 0) (own (wired_and 2 0)) (9 ∷ 9 ∷ []) ∷ first (0 ∷ 0 ∷ []) (9 ∷ 9 ∷ 9 ∷ []) ∷ second (0 ∷ 0 ∷ 0 ∷ []) ∷ [])
      ≡ finished (wired_and 2 0) (own (wired_and 2 0)) (0 ∷ 0 ∷ []) 5
  pub floating_pair_1 : record_after our_sessions junk
      (begin (wired_and 2 1) (own (wired_and 2 1)) (9 ∷ 9 ∷ []) ∷ first (3 ∷ 3 ∷ []) (9 ∷ 9 ∷ []) ∷ second (3 ∷ 3 ∷ []) ∷ [])
      ≡ finished (wired_and 2 1) (own (wired_and 2 1)) (0 ∷ 0 ∷ []) 4
  -- the same first answers: the record's gate decides which vectors follow, and which part is driven
  pub by_the_gate_or : first_answer (awaiting_first (wired_or 2 1) (own (wired_or 2 1))) (3 ∷ 3 ∷ []) 3 ≡ full (0 ∷ 1 ∷ 2 ∷ [])
  pub by_the_gate_and : first_answer (awaiting_first (wired_and 2 1) (own (wired_and 2 1))) (3 ∷ 3 ∷ []) 3 ≡ full (2 ∷ 1 ∷ [])
  pub driven_or : to_drive (awaiting_second (wired_or 2 1) (own (wired_or 2 1)) (3 ∷ 3 ∷ [])) (7 ∷ []) (5 ∷ 6 ∷ 7 ∷ 8 ∷ []) ≡ 5 ∷ 6 ∷ 7 ∷ []
  pub driven_and : to_drive (awaiting_second (wired_and 2 1) (own (wired_and 2 1)) (3 ∷ 3 ∷ [])) (7 ∷ []) (5 ∷ 6 ∷ 7 ∷ 8 ∷ []) ≡ 5 ∷ 6 ∷ []
  -- ---- row 20: 0 and 1 alone are gates
  pub gate_0 : (n level : ℕ) → ¬ (Row20 (wired_or n level))
  pub gate_1 : (n level : ℕ) → ¬ (Row20 (wired_and n level))
  pub no_other_gate : (n level gate : ℕ) → 2 ≤ gate → Row20 (network_with n level gate)
  -- in the calls: gate 2, and the greatest number
  pub check_2 : check_answer (network_with 4 1 2) 4 walking_zeros ≡ refused 20
  pub check_greatest : check_answer (network_with 4 0 (2 ^ 64 - 1)) 4 walking_zeros ≡ refused 20
  pub respond_2 : response_answer (network_with 4 0 2) (own (network_with 4 0 2)) 4 walking_zeros broken 5 ≡ refused 20
  pub diagnose_2 : diagnosis_answer (network_with 4 0 2) (own (network_with 4 0 2)) 4 walking_zeros
      (11 ∷ 8 ∷ 8 ∷ 11 ∷ 3 ∷ []) 4 ≡ refused 20
  pub find_1 : findings_answer (wired_and 2 1) (own (wired_and 2 1)) (1 ∷ 0 ∷ []) 2
      ≡ full (record { kind = 0; reach = 1; partners = 0 } ∷ record { kind = 1; reach = 0; partners = 0 } ∷ [])
  pub find_2 : findings_answer (network_with 2 1 2) (own (network_with 2 1 2)) (1 ∷ 0 ∷ []) 2 ≡ refused 20
  pub begin_1 : begin_answer (wired_and 2 0) (own (wired_and 2 0)) 2 ≡ full (1 ∷ 2 ∷ [])
  pub begin_2 : begin_answer (network_with 2 0 2) (own (network_with 2 0 2)) 2 ≡ refused 20
  -- its place: after 5, 6 and 17, before 7, 11 and 12
  pub five_first : check_answer (network_with 49 1 2) 49 walking_zeros ≡ refused 5
  pub six_first : check_answer (network_with 11 1 2) 4 walking_zeros ≡ refused 6
  pub level_first : check_answer (network_with 4 2 2) 4 walking_zeros ≡ refused 17
  pub before_7 : check_answer (network_with 4 1 2) 4 [] ≡ refused 20
  pub find_level_first : findings_answer (network_with 2 2 2) (own (network_with 2 2 2)) (1 ∷ 0 ∷ []) 2 ≡ refused 17
  pub find_before_11 : findings_answer (network_with 2 1 2) (own (network_with 2 1 2)) (3 ∷ 1 ∷ []) 0 ≡ refused 20
  pub begin_level_first : begin_answer (network_with 2 2 2) (own (network_with 2 2 2)) 2 ≡ refused 17
  pub begin_before_12 : begin_answer (network_with 2 1 2) (own (network_with 2 1 2)) 0 ≡ refused 20
  -- row 4: no accepted calls leave a record of another gate
  pub record_first_1 : first_answer (awaiting_first (wired_and 2 0) (own (wired_and 2 0))) (0 ∷ 0 ∷ []) 3 ≡ full (3 ∷ 2 ∷ 1 ∷ [])
  pub record_first_2 : first_answer (awaiting_first (network_with 2 0 2) (own (network_with 2 0 2))) (0 ∷ 0 ∷ []) 3 ≡ refused 4
  pub record_second_1 : second_answer (awaiting_second (wired_and 2 0) (own (wired_and 2 0)) (0 ∷ 0 ∷ [])) (0 ∷ 0 ∷ 0 ∷ []) ≡ full []
  pub record_second_2 : second_answer (awaiting_second (network_with 2 0 2) (own (network_with 2 0 2)) (0 ∷ 0 ∷ []))
      (0 ∷ 0 ∷ 0 ∷ []) ≡ refused 4
  pub record_drive_2 : to_drive (awaiting_second (network_with 2 0 2) (own (network_with 2 0 2)) (0 ∷ 0 ∷ []))
      (7 ∷ []) (3 ∷ 2 ∷ 1 ∷ 9 ∷ []) ≡ []
  -- ---- through C: the gate stands after the level
  pub begun_words : session_words (awaiting_first (wired_and 48 0) (own (wired_and 48 0)))
      ≡ 1 ∷ 48 ∷ 0 ∷ 1 ∷ 48 ∷ own (wired_and 48 0) ++ replicate 89 0
  pub finished_words : session_words (finished shelf_at_0 (own shelf_at_0) broken 8)
      ≡ 3 ∷ 4 ∷ 0 ∷ 1 ∷ 4 ∷ 0 ∷ 1 ∷ 2 ∷ 3 ∷ replicate 60 0 ++ replicate 8 0 ++ broken ++ replicate 60 0 ++ 8 ∷ []
  pub words_of_a_job : job_words (record { network = shelf_at_0; class = 2; kind = 2; vectors = walking_zeros; responses = 11 ∷ 8 ∷ [] })
      ≡ 4 ∷ 0 ∷ 1 ∷ 2 ∷ 2 ∷ 5 ∷ 2 ∷ []
