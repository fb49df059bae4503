-- Document 01's starred cases, as one table of facts about the definitions that the contracts cite. They are of the
-- gate OR and soft level 1, with one receiver a net; LevelCases.antt has cases of level 0, GateCases.antt of AND, and
-- ReceiverCases.antt of several receivers a net.
use Rattle.std.specs.Prelude.{ℕ, ◌≡◌, List, [], ◌∷◌, ◌++◌, length, replicate}
use Rattle.words.specs.Answers.{Answer, refused, full}
use Rattle.network.specs.declared.Network.{Network}
use Rattle.network.specs.Reading.{network_of}
use Rattle.network.specs.OwnReceivers.{own_receivers}
use Rattle.network.specs.Respond.{response_answer}
use Rattle.checker.specs.declared.Verdict.{Verdict}
use Rattle.checker.specs.declared.Verdict.TheVariants.{Pass, Pair}
use Rattle.checker.specs.Check.{check_answer}
use Rattle.diagnosis.specs.Diagnosis.{diagnosis_answer}
use Rattle.steps.specs.SecondStep.{unclear}
use Rattle.session.specs.declared.Session.{Session}
use Rattle.session.specs.Record.{finished}
use Rattle.demands.specs.SessionCalls.{Call, begin, first, second, finished_second, record_after, history, OnlyFit}
use Rattle.demands.specs.Programs.{our_answer, our_sessions}

-- the receivers of document 01's networks: each net has one, of its own number
abbrev pub own : Network → List ℕ
own net = own_receivers net.nets

-- *check*: the answer for n, k and the vectors
abbrev pub check : ℕ → ℕ → List ℕ → Answer Verdict
check n k vectors = check_answer (network_of n) k vectors

-- *response from a state* of class n, with room for 5 words: the answer for the vectors and the state
abbrev pub respond : ℕ → (vectors state : List ℕ) → Answer (List ℕ)
respond n vectors state = response_answer (network_of n) (own (network_of n)) n vectors state 5

-- *diagnosis* for class n, with room for n words: the answer for the vectors and the responses
abbrev pub diagnose : ℕ → (vectors responses : List ℕ) → Answer (List ℕ)
diagnose n vectors responses = diagnosis_answer (network_of n) (own (network_of n)) n vectors responses n

-- source document 004, table II: the set for two shorts
abbrev pub table_II : List ℕ
table_II = 34 ∷ 9 ∷ 49 ∷ 6 ∷ 76 ∷ 86 ∷ 96 ∷ []

-- ---- sessions

abbrev pub two : Network
two = network_of 2

abbrev pub four : Network
four = network_of 4

-- a record that no accepted calls leave, with something in every field
abbrev pub junk : Session
junk =
    record {
      step = 7;
      network = network_of 9;
      receivers = 9;
      owners = replicate 64 6;
      first = replicate 8 5;
      reaches = replicate 64 3;
      spent = 4;
    }

-- the answers to a list of calls, in order
abbrev pub answers_to : Session → List Call → List (Answer (List ℕ))
answers_to session [] = []
answers_to session (call ∷ calls) = our_answer session call ∷ answers_to (our_sessions session call).session calls

-- four nets and the state 3 3 0 8, with refused calls before and between
abbrev pub four_calls : List Call
four_calls =
    second (4 ∷ 7 ∷ 7 ∷ 4 ∷ [])
    ∷ begin (network_of 49) (own (network_of 49)) (9 ∷ 9 ∷ 9 ∷ 9 ∷ [])
    ∷ begin four (own four) (9 ∷ 9 ∷ 9 ∷ [])
    ∷ begin four (own four) (9 ∷ 9 ∷ 9 ∷ 9 ∷ 9 ∷ [])
    ∷ second (4 ∷ 7 ∷ 7 ∷ 4 ∷ [])
    ∷ first (15 ∷ 7 ∷ 7 ∷ []) (9 ∷ 9 ∷ 9 ∷ 9 ∷ [])
    ∷ first (15 ∷ 7 ∷ 7 ∷ 16 ∷ []) (9 ∷ 9 ∷ 9 ∷ 9 ∷ [])
    ∷ first (15 ∷ 7 ∷ 7 ∷ 12 ∷ []) (9 ∷ 9 ∷ 9 ∷ [])
    ∷ first (15 ∷ 7 ∷ 7 ∷ 12 ∷ []) (9 ∷ 9 ∷ 9 ∷ 9 ∷ [])
    ∷ first (15 ∷ 7 ∷ 7 ∷ 12 ∷ []) (9 ∷ 9 ∷ 9 ∷ 9 ∷ [])
    ∷ second (4 ∷ 7 ∷ 7 ∷ [])
    ∷ second (4 ∷ 7 ∷ 7 ∷ 16 ∷ [])
    ∷ second (4 ∷ 7 ∷ 7 ∷ 12 ∷ [])
    ∷ second (4 ∷ 7 ∷ 7 ∷ 4 ∷ [])
    ∷ second (4 ∷ 7 ∷ 7 ∷ 4 ∷ [])
    ∷ []

-- two nets and these first answers
abbrev pub two_calls : List ℕ → List Call
two_calls answers = begin two (own two) (9 ∷ 9 ∷ []) ∷ first answers (9 ∷ 9 ∷ 9 ∷ []) ∷ []

pub record Starred : Type 0 where
  -- walking ones with vector 0, without it, and without one of them
  pub walking : check 4 4 (0 ∷ 1 ∷ 2 ∷ 4 ∷ 8 ∷ []) ≡ full Pass
  pub no_extra_vector : check 4 4 (1 ∷ 2 ∷ 4 ∷ 8 ∷ []) ≡ full (Pair 0 15)
  pub no_vector_of_net_3 : check 4 4 (0 ∷ 1 ∷ 2 ∷ 4 ∷ []) ≡ full (Pair 7 15)
  -- counting sequence
  pub counting_1 : check 4 1 (8 ∷ 6 ∷ 5 ∷ []) ≡ full Pass
  pub counting_2 : check 4 2 (8 ∷ 6 ∷ 5 ∷ []) ≡ full (Pair 3 4)
  -- with complement
  pub complement_1 : check 4 1 (3 ∷ 5 ∷ 12 ∷ 10 ∷ []) ≡ full Pass
  pub complement_2 : check 4 2 (3 ∷ 5 ∷ 12 ∷ 10 ∷ []) ≡ full (Pair 0 6)
  -- that set, for class 2 and for class 3
  pub published_2 : check 7 2 table_II ≡ full Pass
  pub published_3 : check 7 3 table_II ≡ full (Pair 7 11)
  -- the state 3 3 0 8: its response, and its answers to a session's two steps
  pub response : respond 4 (0 ∷ 1 ∷ 2 ∷ 4 ∷ 8 ∷ []) (3 ∷ 3 ∷ 0 ∷ 8 ∷ []) ≡ full (4 ∷ 7 ∷ 7 ∷ 4 ∷ 12 ∷ [])
  pub first_answers : respond 4 (11 ∷ 5 ∷ 6 ∷ 8 ∷ []) (3 ∷ 3 ∷ 0 ∷ 8 ∷ []) ≡ full (15 ∷ 7 ∷ 7 ∷ 12 ∷ [])
  pub second_answers : respond 4 (0 ∷ 1 ∷ 2 ∷ 4 ∷ []) (3 ∷ 3 ∷ 0 ∷ 8 ∷ []) ≡ full (4 ∷ 7 ∷ 7 ∷ 4 ∷ [])
  -- and back; and a response that no state gives
  pub and_back : diagnose 4 (0 ∷ 1 ∷ 2 ∷ 4 ∷ 8 ∷ []) (4 ∷ 7 ∷ 7 ∷ 4 ∷ 12 ∷ []) ≡ full (3 ∷ 3 ∷ 0 ∷ 8 ∷ [])
  pub no_state : diagnose 4 (0 ∷ 1 ∷ 2 ∷ 4 ∷ 8 ∷ []) (4 ∷ 7 ∷ 7 ∷ 4 ∷ 4 ∷ []) ≡ refused 14
  -- a session of four nets: what the calls answer, the record they leave, and the session as the calls tell it
  pub session_answers : answers_to junk four_calls
      ≡ refused 4
      ∷ refused 5
      ∷ refused 12
      ∷ full (11 ∷ 5 ∷ 6 ∷ 8 ∷ [])
      ∷ refused 4
      ∷ refused 9
      ∷ refused 10
      ∷ refused 12
      ∷ full (0 ∷ 1 ∷ 2 ∷ 4 ∷ [])
      ∷ refused 4
      ∷ refused 9
      ∷ refused 10
      ∷ refused 14
      ∷ full []
      ∷ refused 4
      ∷ []
  pub session_record : record_after our_sessions junk four_calls ≡ finished four (own four) (3 ∷ 3 ∷ 0 ∷ 8 ∷ []) 8
  pub session_history : history our_sessions junk four_calls
      ≡ finished_second four (own four) (11 ∷ 5 ∷ 6 ∷ 8 ∷ []) (15 ∷ 7 ∷ 7 ∷ 12 ∷ []) (0 ∷ 1 ∷ 2 ∷ 4 ∷ []) (4 ∷ 7 ∷ 7 ∷ 4 ∷ [])
  -- after its first answers net 3 is clear, and document 01's F, the count of the others, is 3
  pub net_3_clear : unclear four (own four) (15 ∷ 7 ∷ 7 ∷ 12 ∷ []) ≡ 0 ∷ 1 ∷ 2 ∷ []
  pub three_unclear : length (unclear four (own four) (15 ∷ 7 ∷ 7 ∷ 12 ∷ [])) ≡ 3
  -- demand 3 applied to it
  pub session_state : OnlyFit
      (finished_second four (own four) (11 ∷ 5 ∷ 6 ∷ 8 ∷ []) (15 ∷ 7 ∷ 7 ∷ 12 ∷ []) (0 ∷ 1 ∷ 2 ∷ 4 ∷ []) (4 ∷ 7 ∷ 7 ∷ 4 ∷ []))
      (3 ∷ 3 ∷ 0 ∷ 8 ∷ [])
  -- two nets: sound; both floating
  pub sound_pair : record_after our_sessions junk (two_calls (1 ∷ 2 ∷ [])) ≡ finished two (own two) (1 ∷ 2 ∷ []) 2
  pub floating_pair : record_after our_sessions junk (two_calls (3 ∷ 3 ∷ []) ++ second (3 ∷ 3 ∷ 3 ∷ []) ∷ [])
      ≡ finished two (own two) (0 ∷ 0 ∷ []) 5
