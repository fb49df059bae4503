-- Inputs on both sides of each bound of rows 4 to 14, for the calls other than *shorten*, the reader and the writer.
-- Those of *shorten* are in ShorterCases.antt, those of the other two in FileBounds.antt, those of row 17 in
-- LevelCases.antt, those of row 20 in GateCases.antt, those of row 21 in ReceiverCases.antt, and more of row 6 in
-- ClassCases.antt.
use Rattle.std.specs.Prelude.{ℕ, ◌-◌, ◌^◌, ◌≡◌, List, [], ◌∷◌, replicate}
use Rattle.words.specs.Answers.{Answer, refused, full, count_of}
use Rattle.network.specs.Reading.{network_of}
use Rattle.network.specs.Respond.{response_answer}
use Rattle.checker.specs.declared.Verdict.TheVariants.{Pass, Pair}
use Rattle.diagnosis.specs.Diagnosis.{diagnosis_answer}
use Rattle.findings.specs.declared.Finding.{Finding}
use Rattle.findings.specs.FindingsTable.{findings_answer}
use Rattle.session.specs.declared.Session.{Session}
use Rattle.session.specs.Record.{awaiting_first, awaiting_second}
use Rattle.session.specs.Calls.{begin_answer, first_answer, second_answer}
use Rattle.demands.specs.Starred.{own, check, respond, diagnose, two}

-- *response from a state* with this much room
abbrev pub respond_into : ℕ → Answer (List ℕ)
respond_into room = response_answer (network_of 4) (own (network_of 4)) 4 (0 ∷ 1 ∷ 2 ∷ 4 ∷ 8 ∷ []) (3 ∷ 3 ∷ 0 ∷ 8 ∷ []) room

-- *diagnosis* over walking ones with this much room
abbrev pub diagnose_into : List ℕ → ℕ → Answer (List ℕ)
diagnose_into responses room = diagnosis_answer (network_of 4) (own (network_of 4)) 4 (0 ∷ 1 ∷ 2 ∷ 4 ∷ 8 ∷ []) responses room

-- *findings* of n nets with this much room
abbrev pub find_into : ℕ → (state : List ℕ) → ℕ → Answer (List Finding)
find_into n state room = findings_answer (network_of n) (own (network_of n)) state room

-- a record of two nets with a receiver each
abbrev pub two_record : (step : ℕ) (first reaches : List ℕ) (spent : ℕ) → Session
two_record step first reaches spent =
    record {
      step = step;
      network = two;
      receivers = 2;
      owners = 0 ∷ 1 ∷ replicate 62 0;
      first = first;
      reaches = reaches;
      spent = spent;
    }

pub record Boundary : Type 0 where
  -- row 5: n
  pub nets_1 : check 1 1 (0 ∷ []) ≡ refused 5
  pub nets_2 : check 2 2 (0 ∷ 1 ∷ 2 ∷ []) ≡ full Pass
  pub nets_48 : check 48 48 (0 ∷ []) ≡ full (Pair (2 ^ 48 - 2) (2 ^ 48 - 1))
  pub nets_49 : check 49 49 (0 ∷ []) ≡ refused 5
  -- row 6: k at n = 5
  pub class_0 : check 5 0 (0 ∷ 1 ∷ 2 ∷ 4 ∷ 8 ∷ 16 ∷ []) ≡ refused 6
  pub class_1 : check 5 1 (0 ∷ 1 ∷ 2 ∷ 4 ∷ 8 ∷ 16 ∷ []) ≡ full Pass
  pub class_3 : check 5 3 (0 ∷ 1 ∷ 2 ∷ 4 ∷ 8 ∷ 16 ∷ []) ≡ full Pass
  pub class_4 : check 5 4 (0 ∷ 1 ∷ 2 ∷ 4 ∷ 8 ∷ 16 ∷ []) ≡ full Pass
  pub class_5 : check 5 5 (0 ∷ 1 ∷ 2 ∷ 4 ∷ 8 ∷ 16 ∷ []) ≡ full Pass
  pub class_6 : check 5 6 (0 ∷ 1 ∷ 2 ∷ 4 ∷ 8 ∷ 16 ∷ []) ≡ refused 6
  -- and at n = 11, document 01's case
  pub class_4_of_11 : check 11 4 (0 ∷ 1 ∷ 2 ∷ 4 ∷ 8 ∷ 16 ∷ []) ≡ refused 6
  -- and above n, though it is 3
  pub class_above : check 2 3 (0 ∷ 1 ∷ 2 ∷ []) ≡ refused 6
  -- row 7: vectors
  pub vectors_0 : check 4 4 [] ≡ refused 7
  pub vectors_1 : check 4 4 (0 ∷ []) ≡ full (Pair 14 15)
  pub vectors_64 : check 4 4 (replicate 64 0) ≡ full (Pair 14 15)
  pub vectors_65 : check 4 4 (replicate 65 0) ≡ refused 7
  -- row 8: a bit at n
  pub word_below : check 4 4 (15 ∷ []) ≡ full (Pair 0 15)
  pub word_at : check 4 4 (16 ∷ []) ≡ refused 8
  -- row 11: the state
  pub meeting_reaches : respond 2 (0 ∷ []) (3 ∷ 1 ∷ []) ≡ refused 11
  pub equal_reaches : respond 2 (0 ∷ []) (3 ∷ 3 ∷ []) ≡ full (0 ∷ [])
  -- row 12: the room
  pub one_short : respond_into 4 ≡ refused 12
  pub just_enough : respond_into 5 ≡ full (4 ∷ 7 ∷ 7 ∷ 4 ∷ 12 ∷ [])
  -- *diagnosis*: row 9, as many responses as vectors; row 10, a bit at n; row 12, the room; row 13, the set
  pub one_response_short : diagnose_into (4 ∷ 7 ∷ 7 ∷ 4 ∷ []) 4 ≡ refused 9
  pub one_response_more : diagnose_into (4 ∷ 7 ∷ 7 ∷ 4 ∷ 12 ∷ 0 ∷ []) 4 ≡ refused 9
  pub response_below : diagnose_into (4 ∷ 7 ∷ 7 ∷ 4 ∷ 15 ∷ []) 4 ≡ refused 14
  pub response_at : diagnose_into (4 ∷ 7 ∷ 7 ∷ 4 ∷ 16 ∷ []) 4 ≡ refused 10
  pub room_3 : diagnose_into (4 ∷ 7 ∷ 7 ∷ 4 ∷ 12 ∷ []) 3 ≡ refused 12
  pub room_4 : diagnose_into (4 ∷ 7 ∷ 7 ∷ 4 ∷ 12 ∷ []) 4 ≡ full (3 ∷ 3 ∷ 0 ∷ 8 ∷ [])
  pub set_not_passed : diagnose 4 (1 ∷ 2 ∷ 4 ∷ 8 ∷ []) (7 ∷ 7 ∷ 4 ∷ 12 ∷ []) ≡ refused 13
  -- *findings*: row 5, n; row 11, the state; row 12, the room
  pub find_1 : find_into 1 (1 ∷ []) 1 ≡ refused 5
  pub find_2 : find_into 2 (2 ∷ 2 ∷ []) 2
      ≡ full (record { kind = 3; reach = 2; partners = 2 } ∷ record { kind = 2; reach = 2; partners = 1 } ∷ [])
  pub find_48 : count_of (find_into 48 (replicate 48 0) 48) ≡ full 48
  pub find_49 : find_into 49 (replicate 49 0) 49 ≡ refused 5
  pub find_meeting : find_into 2 (3 ∷ 1 ∷ []) 2 ≡ refused 11
  pub find_state_short : find_into 2 (1 ∷ []) 2 ≡ refused 11
  pub find_state_long : find_into 2 (1 ∷ 2 ∷ 0 ∷ []) 3 ≡ refused 11
  pub find_room_1 : find_into 2 (2 ∷ 2 ∷ []) 1 ≡ refused 12
  -- *begin*: row 5, n; row 12, the room
  pub begin_1 : begin_answer (network_of 1) (own (network_of 1)) 8 ≡ refused 5
  pub begin_2 : begin_answer two (own two) 2 ≡ full (1 ∷ 2 ∷ [])
  pub begin_2_short : begin_answer two (own two) 1 ≡ refused 12
  pub begin_48 : count_of (begin_answer (network_of 48) (own (network_of 48)) 8) ≡ full 8
  pub begin_48_short : begin_answer (network_of 48) (own (network_of 48)) 7 ≡ refused 12
  pub begin_49 : begin_answer (network_of 49) (own (network_of 49)) 8 ≡ refused 5
  -- *first answers*: row 9, as many as vectors; row 10, a bit at n; row 12, the room, which only unclear nets need
  pub one_answer_short : first_answer (awaiting_first two (own two)) (3 ∷ []) 3 ≡ refused 9
  pub one_answer_more : first_answer (awaiting_first two (own two)) (3 ∷ 3 ∷ 3 ∷ []) 3 ≡ refused 9
  pub answer_at : first_answer (awaiting_first two (own two)) (3 ∷ 4 ∷ []) 3 ≡ refused 10
  pub second_room_2 : first_answer (awaiting_first two (own two)) (3 ∷ 3 ∷ []) 2 ≡ refused 12
  pub second_room_3 : first_answer (awaiting_first two (own two)) (3 ∷ 3 ∷ []) 3 ≡ full (0 ∷ 1 ∷ 2 ∷ [])
  pub all_clear : first_answer (awaiting_first two (own two)) (1 ∷ 2 ∷ []) 0 ≡ full []
  -- *second answers*: row 9; row 10; row 14, also where no state explains the first answers
  pub second_answer_short : second_answer (awaiting_second two (own two) (3 ∷ 3 ∷ [])) (3 ∷ 3 ∷ []) ≡ refused 9
  pub second_answer_at : second_answer (awaiting_second two (own two) (3 ∷ 3 ∷ [])) (3 ∷ 3 ∷ 4 ∷ []) ≡ refused 10
  pub unlike_reaches : second_answer (awaiting_second two (own two) (3 ∷ 3 ∷ [])) (0 ∷ 3 ∷ 1 ∷ []) ≡ refused 14
  pub unexplained : first_answer (awaiting_first two (own two)) (0 ∷ 0 ∷ []) 3 ≡ full (0 ∷ 1 ∷ 2 ∷ [])
  pub unexplained_after : second_answer (awaiting_second two (own two) (0 ∷ 0 ∷ [])) (0 ∷ 1 ∷ 2 ∷ []) ≡ refused 14
  -- row 4: junk in an unused entry of the record
  pub junk_spent : first_answer
      (two_record 1 (replicate 8 0) (replicate 64 0) 1)
      (1 ∷ 2 ∷ []) 3 ≡ refused 4
  pub junk_first : first_answer
      (two_record 1 (1 ∷ replicate 7 0) (replicate 64 0) 0)
      (1 ∷ 2 ∷ []) 3 ≡ refused 4
  pub junk_reach : second_answer
      (two_record 2 (3 ∷ 3 ∷ replicate 6 0) (1 ∷ replicate 63 0) 0)
      (3 ∷ 3 ∷ 3 ∷ []) ≡ refused 4
  pub junk_none : second_answer
      (two_record 2 (3 ∷ 3 ∷ replicate 6 0) (replicate 64 0) 0)
      (3 ∷ 3 ∷ 3 ∷ []) ≡ full []
  -- a record that holds answers which leave no net unclear is left by no calls
  pub nothing_unclear : second_answer
      (two_record 2 (1 ∷ 2 ∷ replicate 6 0) (replicate 64 0) 0) []
      ≡ refused 4
