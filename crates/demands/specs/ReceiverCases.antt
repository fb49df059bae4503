-- Document 02's receivers: cases of several receivers on a net worked out from the paper, both sides of each bound of
-- row 21 in the calls that take receivers, and what wrong programs answer otherwise. Where nothing else is said the
-- gate is OR and the soft level 1. A list of receivers has the net of each, and m is its length.
use Rattle.std.specs.Prelude.{ℕ, ◌+◌, ◌-◌, ◌^◌, ◌<◌, ◌≡◌, List, [], ◌∷◌, ◌++◌, length, replicate}
use Rattle.words.specs.Answers.{Answer, refused, full, count_of}
use Rattle.words.specs.Bits.{at}
use Rattle.words.specs.Turning.{tabulate}
use Rattle.network.specs.declared.Network.{Network}
use Rattle.network.specs.Reading.{network_with, wired_or, wired_and, network_of, walking_vector}
use Rattle.network.specs.Rows.{HighBit}
use Rattle.network.specs.Respond.{response_answer}
use Rattle.network.specs.OwnReceivers.{own_receivers_answer}
use Rattle.diagnosis.specs.Diagnosis.{diagnosis_answer}
use Rattle.findings.specs.declared.Finding.{Finding}
use Rattle.findings.specs.FindingsTable.{findings, findings_answer}
use Rattle.steps.specs.SecondStep.{Clear, unclear, fault_free_state}
use Rattle.session.specs.declared.Session.{Session}
use Rattle.session.specs.Record.{awaiting_first, awaiting_second, finished, held_owners}
use Rattle.session.specs.Calls.{begin_answer, begun, first_answer, first_answered, second_answer, second_answered}
use Rattle.session.specs.Drive.{to_drive}
use Rattle.packing.specs.Packed.{session_words}
use Rattle.demands.specs.Starred.{two, junk}
use Rattle.demands.specs.PartnerCases.{found}

-- ---- by name

-- two nets and three receivers, the first and the last on net 0
abbrev pub on_0_1_0 : List ℕ
on_0_1_0 = 0 ∷ 1 ∷ 0 ∷ []

-- two nets and four receivers: net 0 is a clock net with three
abbrev pub clock : List ℕ
clock = 0 ∷ 0 ∷ 0 ∷ 1 ∷ []

-- its second receiver floats, and nothing else is wrong
abbrev pub one_open : List ℕ
one_open = 1 ∷ 0 ∷ 1 ∷ 2 ∷ []

-- two nets and two receivers, each on the net of the other's number
abbrev pub swapped : List ℕ
swapped = 1 ∷ 0 ∷ []

-- two nets and 64 receivers, or 63: the first on net 0, all others on net 1
abbrev pub receivers_64 : List ℕ
receivers_64 = 0 ∷ replicate 63 1

abbrev pub receivers_63 : List ℕ
receivers_63 = 0 ∷ replicate 62 1

-- *findings* of n nets with these receivers, with room for a record each
abbrev pub find : ℕ → (owners state : List ℕ) → Answer (List Finding)
find n owners state = findings_answer (network_of n) owners state (length owners)

-- *response from a state* and *diagnosis* of two nets, for class 2 and with the room they need
abbrev pub respond : Network → (owners vectors state : List ℕ) → Answer (List ℕ)
respond net owners vectors state = response_answer net owners 2 vectors state (length vectors)

abbrev pub diagnose : (owners responses : List ℕ) → Answer (List ℕ)
diagnose owners responses = diagnosis_answer two owners 2 (0 ∷ 1 ∷ 2 ∷ []) responses (length owners)

-- ---- sessions by their calls

-- the record after *begin*, after *first answers* too, and after *second answers* too, with room for 5 words
abbrev pub after_begin : Network → (owners : List ℕ) → Session
after_begin net owners = (begun junk net owners 5).session

abbrev pub after_first : Network → (owners answers : List ℕ) → Session
after_first net owners answers = (first_answered (after_begin net owners) answers 5).session

abbrev pub after_second : Network → (owners answers more : List ℕ) → Session
after_second net owners answers more = (second_answered (after_first net owners answers) more).session

-- ---- findings

-- A record for each receiver: open by the driver of its own net, and partners as nets.
pub record FoundAtReceivers : Type 0 where
  -- a short, and receiver 2, on net 0, floats: it is joined to net 1, since both drivers reach receiver 0
  pub shorted_and_floating : find 2 on_0_1_0 (3 ∷ 3 ∷ 0 ∷ []) ≡ full (found 2 3 2 ∷ found 2 3 1 ∷ found 3 0 2 ∷ [])
  pub at_each_level_and_gate : (level gate : ℕ)
      → findings (network_with 2 level gate) on_0_1_0 (3 ∷ 3 ∷ 0 ∷ []) ≡ found 2 3 2 ∷ found 2 3 1 ∷ found 3 0 2 ∷ []
  -- no net is its own receiver's partner; floating receivers are not joined by that
  pub sound : find 2 on_0_1_0 (1 ∷ 2 ∷ 1 ∷ []) ≡ full (found 0 1 0 ∷ found 0 2 0 ∷ found 0 1 0 ∷ [])
  pub floating : find 2 on_0_1_0 (0 ∷ 0 ∷ 0 ∷ []) ≡ full (found 1 0 0 ∷ found 1 0 0 ∷ found 1 0 0 ∷ [])
  pub both_shorted : find 2 on_0_1_0 (3 ∷ 0 ∷ 3 ∷ []) ≡ full (found 2 3 2 ∷ found 3 0 1 ∷ found 2 3 2 ∷ [])
  -- one clause alone joins receiver 0 and net 1: receiver 3, on net 1, has the same reach. Receiver 1, on net 1 too, is
  -- sound
  pub by_the_same_reach : find 3 (0 ∷ 1 ∷ 2 ∷ 1 ∷ []) (4 ∷ 2 ∷ 0 ∷ 4 ∷ [])
      ≡ full (found 3 4 6 ∷ found 0 2 0 ∷ found 3 0 3 ∷ found 3 4 5 ∷ [])
  -- receiver 2 and net 1: both drivers reach receiver 0
  pub by_one_receiver : find 2 on_0_1_0 (3 ∷ 0 ∷ 0 ∷ []) ≡ full (found 2 3 2 ∷ found 3 0 1 ∷ found 3 0 2 ∷ [])
  -- receiver 2 and net 1: driver 1 reaches it; receiver 1 and net 0: driver 1 reaches receiver 2; receiver 0 is sound
  pub by_either_driver : find 2 on_0_1_0 (1 ∷ 0 ∷ 2 ∷ []) ≡ full (found 0 1 0 ∷ found 3 0 1 ∷ found 3 2 2 ∷ [])

-- ---- a clock net

-- A clock net with three receivers, of which one floats: its findings and its session.
pub record ClockNet : Type 0 where
  -- the record of the open receiver alone is of kind 1
  pub records : find 2 clock one_open ≡ full (found 0 1 0 ∷ found 1 0 0 ∷ found 0 1 0 ∷ found 0 2 0 ∷ [])
  -- the session: what begin writes and the state answers; net 0 is unclear and net 1 clear; what first answers write
  -- and the state answers; what second answers leave. p = 2 and F = 1, so 4 are spent
  pub begins : begin_answer two clock 2 ≡ full (1 ∷ 2 ∷ [])
  pub first_answers : respond two clock (1 ∷ 2 ∷ []) one_open ≡ full (7 ∷ 10 ∷ [])
  pub clock_unclear : unclear two clock (7 ∷ 10 ∷ []) ≡ 0 ∷ []
  pub other_clear : Clear two clock (7 ∷ 10 ∷ []) 1
  pub settles : first_answer (after_begin two clock) (7 ∷ 10 ∷ []) 2 ≡ full (0 ∷ 1 ∷ [])
  pub second_answers : respond two clock (0 ∷ 1 ∷ []) one_open ≡ full (2 ∷ 7 ∷ [])
  pub ends : second_answer (after_first two clock (7 ∷ 10 ∷ [])) (2 ∷ 7 ∷ []) ≡ full []
  pub left : after_second two clock (7 ∷ 10 ∷ []) (2 ∷ 7 ∷ []) ≡ finished two clock one_open 4
  -- calls refused between: first answers by rows 9, 10 and 12, second answers by 9, 10 and 14, and each by 4 where the
  -- record does not wait for it
  pub first_short : first_answer (after_begin two clock) (7 ∷ []) 2 ≡ refused 9
  pub first_high : first_answer (after_begin two clock) (7 ∷ 16 ∷ []) 2 ≡ refused 10
  pub first_no_room : first_answer (after_begin two clock) (7 ∷ 10 ∷ []) 1 ≡ refused 12
  pub second_early : second_answer (after_begin two clock) (2 ∷ 7 ∷ []) ≡ refused 4
  pub second_short : second_answer (after_first two clock (7 ∷ 10 ∷ [])) (2 ∷ []) ≡ refused 9
  pub second_high : second_answer (after_first two clock (7 ∷ 10 ∷ [])) (2 ∷ 16 ∷ []) ≡ refused 10
  pub second_unexplained : second_answer (after_first two clock (7 ∷ 10 ∷ [])) (2 ∷ 6 ∷ []) ≡ refused 14
  pub first_late : first_answer (after_first two clock (7 ∷ 10 ∷ [])) (7 ∷ 10 ∷ []) 2 ≡ refused 4
  pub second_late : second_answer (after_second two clock (7 ∷ 10 ∷ []) (2 ∷ 7 ∷ [])) (2 ∷ 7 ∷ []) ≡ refused 4
  -- nothing wrong: step one ends it
  pub fault_free : fault_free_state clock ≡ 1 ∷ 1 ∷ 1 ∷ 2 ∷ []
  pub fault_free_answers : respond two clock (1 ∷ 2 ∷ []) (1 ∷ 1 ∷ 1 ∷ 2 ∷ []) ≡ full (7 ∷ 8 ∷ [])
  pub fault_free_left : after_first two clock (7 ∷ 8 ∷ []) ≡ finished two clock (1 ∷ 1 ∷ 1 ∷ 2 ∷ []) 2
  -- the same at OR and soft level 0: 3 are spent
  pub first_answers_or_0 : respond (wired_or 2 0) clock (1 ∷ 2 ∷ []) one_open ≡ full (5 ∷ 8 ∷ [])
  pub settles_or_0 : first_answer (after_begin (wired_or 2 0) clock) (5 ∷ 8 ∷ []) 1 ≡ full (1 ∷ [])
  pub second_answers_or_0 : respond (wired_or 2 0) clock (1 ∷ []) one_open ≡ full (5 ∷ [])
  pub left_or_0 : after_second (wired_or 2 0) clock (5 ∷ 8 ∷ []) (5 ∷ []) ≡ finished (wired_or 2 0) clock one_open 3
  -- at AND and soft level 0: 4
  pub first_answers_and_0 : respond (wired_and 2 0) clock (1 ∷ 2 ∷ []) one_open ≡ full (5 ∷ 8 ∷ [])
  pub settles_and_0 : first_answer (after_begin (wired_and 2 0) clock) (5 ∷ 8 ∷ []) 2 ≡ full (3 ∷ 2 ∷ [])
  pub second_answers_and_0 : respond (wired_and 2 0) clock (3 ∷ 2 ∷ []) one_open ≡ full (13 ∷ 8 ∷ [])
  pub left_and_0 : after_second (wired_and 2 0) clock (5 ∷ 8 ∷ []) (13 ∷ 8 ∷ []) ≡ finished (wired_and 2 0) clock one_open 4
  -- at AND and soft level 1: 3
  pub first_answers_and_1 : respond (wired_and 2 1) clock (1 ∷ 2 ∷ []) one_open ≡ full (7 ∷ 10 ∷ [])
  pub settles_and_1 : first_answer (after_begin (wired_and 2 1) clock) (7 ∷ 10 ∷ []) 1 ≡ full (2 ∷ [])
  pub second_answers_and_1 : respond (wired_and 2 1) clock (2 ∷ []) one_open ≡ full (10 ∷ [])
  pub left_and_1 : after_second (wired_and 2 1) clock (7 ∷ 10 ∷ []) (10 ∷ []) ≡ finished (wired_and 2 1) clock one_open 3

-- ---- m = n, and no receiver on the net of its number

-- Receiver 0 is on net 1, and receiver 1 on net 0.
pub record Swapped : Type 0 where
  -- nothing wrong: each receiver has its own net's driver, and step one ends the session
  pub fault_free : fault_free_state swapped ≡ 2 ∷ 1 ∷ []
  pub sound : find 2 swapped (2 ∷ 1 ∷ []) ≡ full (found 0 2 0 ∷ found 0 1 0 ∷ [])
  pub first_answers : respond two swapped (1 ∷ 2 ∷ []) (2 ∷ 1 ∷ []) ≡ full (2 ∷ 1 ∷ [])
  pub all_clear : unclear two swapped (2 ∷ 1 ∷ []) ≡ []
  pub no_vectors : first_answer (after_begin two swapped) (2 ∷ 1 ∷ []) 0 ≡ full []
  pub left : after_first two swapped (2 ∷ 1 ∷ []) ≡ finished two swapped (2 ∷ 1 ∷ []) 2
  pub back : diagnose swapped (0 ∷ 2 ∷ 1 ∷ []) ≡ full (2 ∷ 1 ∷ [])
  -- the state 1 2 is a crossed pair: p = 2 and F = 2, so 5 are spent
  pub crossed : find 2 swapped (1 ∷ 2 ∷ []) ≡ full (found 3 1 1 ∷ found 3 2 2 ∷ [])
  pub crossed_answers : respond two swapped (1 ∷ 2 ∷ []) (1 ∷ 2 ∷ []) ≡ full (1 ∷ 2 ∷ [])
  pub crossed_unclear : unclear two swapped (1 ∷ 2 ∷ []) ≡ 0 ∷ 1 ∷ []
  pub crossed_settles : first_answer (after_begin two swapped) (1 ∷ 2 ∷ []) 3 ≡ full (0 ∷ 1 ∷ 2 ∷ [])
  pub crossed_left : after_second two swapped (1 ∷ 2 ∷ []) (0 ∷ 1 ∷ 2 ∷ []) ≡ finished two swapped (1 ∷ 2 ∷ []) 5

-- ---- row 21

-- What response, diagnosis, findings and begin return for n nets and these receivers. All receivers float, and no other
-- row holds: the class is n, the vectors are 0 and the walking ones, and each call has the room it needs.
abbrev pub four_calls : ℕ → (owners : List ℕ) → List (Answer ℕ)
four_calls n owners =
    let floating : List ℕ = replicate (length owners) 0 in
    let vectors : List ℕ = 0 ∷ tabulate n (walking_vector (network_of n)) in
    count_of (response_answer (network_of n) owners n vectors floating (n + 1))
    ∷ count_of (diagnosis_answer (network_of n) owners n vectors (replicate (n + 1) (2 ^ length owners - 1)) (length owners))
    ∷ count_of (findings_answer (network_of n) owners floating (length owners))
    ∷ count_of (begin_answer (network_of n) owners n)
    ∷ []

abbrev pub all_21 : List (Answer ℕ)
all_21 = replicate 4 (refused 21)

-- two nets: as many response words as vectors, m reaches and m records, and p vectors
abbrev pub all_taken : ℕ → List (Answer ℕ)
all_taken m = full 3 ∷ full m ∷ full m ∷ full 2 ∷ []

-- a record of two nets with this number of receivers and this array of their nets, in this step
abbrev pub holding_at : (step : ℕ) → (first : List ℕ) → (receivers : ℕ) → (owners : List ℕ) → Session
holding_at step first receivers owners =
    record {
      step = step;
      network = two;
      receivers = receivers;
      owners = owners;
      first = first;
      reaches = replicate 64 0;
      spent = 0;
    }

-- it waits for first answers; or for second ones, and all receivers answered 1 so far
abbrev pub holding : (receivers : ℕ) → (owners : List ℕ) → Session
holding = holding_at 1 (replicate 8 0)

abbrev pub floating_since : (receivers : ℕ) → (owners : List ℕ) → Session
floating_since receivers = holding_at 2 (replicate 2 (2 ^ receivers - 1) ++ replicate 6 0) receivers

-- 65 vectors, each with bits at or above any n
abbrev pub high_vectors : List ℕ
high_vectors = replicate 65 (2 ^ 64 - 1)

-- The bounds of row 21 in the four calls, its place among the rows, and the record that keeps to it.
pub record RowTwentyOne : Type 0 where
  -- m: n - 1 and n, 64 and 65; and no receivers at all, which does not mean m = n
  pub one_receiver : four_calls 2 (0 ∷ []) ≡ all_21
  pub two_receivers : four_calls 2 (0 ∷ 1 ∷ []) ≡ all_taken 2
  pub sixty_four : four_calls 2 receivers_64 ≡ all_taken 64
  pub sixty_five : four_calls 2 (0 ∷ replicate 64 1) ≡ all_21
  pub no_receivers : four_calls 2 [] ≡ all_21
  -- a receiver on net n - 1, on net n in each place, and on the greatest number
  pub on_the_last_net : four_calls 2 (0 ∷ 1 ∷ 1 ∷ []) ≡ all_taken 3
  pub on_net_n : four_calls 2 (0 ∷ 1 ∷ 2 ∷ []) ≡ all_21
  pub first_on_net_n : four_calls 2 (2 ∷ 1 ∷ 0 ∷ []) ≡ all_21
  pub on_the_greatest : four_calls 2 (0 ∷ 1 ∷ (2 ^ 64 - 1) ∷ []) ≡ all_21
  -- a net that has none: the last, the first, the one between
  pub none_on_net_1 : four_calls 2 (0 ∷ 0 ∷ []) ≡ all_21
  pub none_on_net_0 : four_calls 2 (1 ∷ 1 ∷ 1 ∷ []) ≡ all_21
  pub none_between : four_calls 3 (0 ∷ 2 ∷ 0 ∷ []) ≡ all_21
  pub all_three : four_calls 3 (2 ∷ 0 ∷ 1 ∷ []) ≡ full 4 ∷ full 3 ∷ full 3 ∷ full 3 ∷ []
  -- its place: all of the call's rows to 12 hold; then all but the first; then all but the first two, and so on
  pub respond_5 : response_answer (network_with 49 2 2) (0 ∷ 0 ∷ 0 ∷ []) 4 high_vectors (4 ∷ []) 0 ≡ refused 5
  pub respond_21 : response_answer (network_with 2 2 2) (0 ∷ 0 ∷ 0 ∷ []) 4 high_vectors (4 ∷ []) 0 ≡ refused 21
  pub respond_6 : response_answer (network_with 2 2 2) on_0_1_0 4 high_vectors (4 ∷ []) 0 ≡ refused 6
  pub respond_17 : response_answer (network_with 2 2 2) on_0_1_0 2 high_vectors (4 ∷ []) 0 ≡ refused 17
  pub respond_20 : response_answer (network_with 2 1 2) on_0_1_0 2 high_vectors (4 ∷ []) 0 ≡ refused 20
  pub diagnose_5 : diagnosis_answer (network_with 49 2 2) (0 ∷ 0 ∷ 0 ∷ []) 4 high_vectors (8 ∷ []) 0 ≡ refused 5
  pub diagnose_21 : diagnosis_answer (network_with 2 2 2) (0 ∷ 0 ∷ 0 ∷ []) 4 high_vectors (8 ∷ []) 0 ≡ refused 21
  pub diagnose_6 : diagnosis_answer (network_with 2 2 2) on_0_1_0 4 high_vectors (8 ∷ []) 0 ≡ refused 6
  pub diagnose_17 : diagnosis_answer (network_with 2 2 2) on_0_1_0 2 high_vectors (8 ∷ []) 0 ≡ refused 17
  pub diagnose_20 : diagnosis_answer (network_with 2 1 2) on_0_1_0 2 high_vectors (8 ∷ []) 0 ≡ refused 20
  pub find_5 : findings_answer (network_with 49 2 2) (0 ∷ 0 ∷ 0 ∷ []) (4 ∷ []) 0 ≡ refused 5
  pub find_21 : findings_answer (network_with 2 2 2) (0 ∷ 0 ∷ 0 ∷ []) (4 ∷ []) 0 ≡ refused 21
  pub find_17 : findings_answer (network_with 2 2 2) on_0_1_0 (4 ∷ []) 0 ≡ refused 17
  pub find_20 : findings_answer (network_with 2 1 2) on_0_1_0 (4 ∷ []) 0 ≡ refused 20
  pub begin_5 : begin_answer (network_with 49 2 2) (0 ∷ 0 ∷ 0 ∷ []) 0 ≡ refused 5
  pub begin_21 : begin_answer (network_with 2 2 2) (0 ∷ 0 ∷ 0 ∷ []) 0 ≡ refused 21
  pub begin_17 : begin_answer (network_with 2 2 2) on_0_1_0 0 ≡ refused 17
  pub begin_20 : begin_answer (network_with 2 1 2) on_0_1_0 0 ≡ refused 20
  -- in a session's record: row 4 if its receivers are refused, are above 64, or are not followed by zeros, and if the
  -- first answers that it holds have a bit at or above m, or leave no net unclear
  pub record_taken : first_answer (awaiting_first two on_0_1_0) (5 ∷ 2 ∷ []) 0 ≡ full []
  pub record_one_receiver : first_answer (awaiting_first two (0 ∷ [])) (1 ∷ 0 ∷ []) 3 ≡ refused 4
  pub record_on_net_n : first_answer (awaiting_first two (0 ∷ 1 ∷ 2 ∷ [])) (5 ∷ 2 ∷ []) 3 ≡ refused 4
  pub record_none_on_net_1 : first_answer (awaiting_first two (0 ∷ 0 ∷ [])) (3 ∷ 0 ∷ []) 3 ≡ refused 4
  pub record_64 : first_answer (holding 64 receivers_64) (1 ∷ (2 ^ 64 - 2) ∷ []) 0 ≡ full []
  pub record_65 : first_answer (holding 65 receivers_64) (1 ∷ (2 ^ 64 - 2) ∷ []) 3 ≡ refused 4
  pub record_no_tail : first_answer (holding 2 (0 ∷ 1 ∷ replicate 62 0)) (1 ∷ 2 ∷ []) 0 ≡ full []
  pub record_tail : first_answer (holding 2 (0 ∷ 1 ∷ replicate 61 0 ++ 1 ∷ [])) (1 ∷ 2 ∷ []) 3 ≡ refused 4
  pub second_record_taken : second_answer (awaiting_second two on_0_1_0 (5 ∷ 6 ∷ [])) (4 ∷ 5 ∷ []) ≡ full []
  pub second_record_on_net_n : second_answer (awaiting_second two (0 ∷ 1 ∷ 2 ∷ []) (4 ∷ 6 ∷ [])) (4 ∷ 5 ∷ []) ≡ refused 4
  pub second_record_none_on_net_1 : second_answer (awaiting_second two (0 ∷ 0 ∷ 0 ∷ []) (5 ∷ 6 ∷ [])) (4 ∷ 5 ∷ 6 ∷ [])
      ≡ refused 4
  pub second_record_64 : second_answer (floating_since 64 receivers_64) (replicate 3 (2 ^ 64 - 1)) ≡ full []
  pub second_record_65 : second_answer (floating_since 65 receivers_64) (replicate 3 (2 ^ 64 - 1)) ≡ refused 4
  pub second_record_no_tail : second_answer (floating_since 2 (0 ∷ 1 ∷ replicate 62 0)) (3 ∷ 3 ∷ 3 ∷ []) ≡ full []
  pub second_record_tail : second_answer (floating_since 2 (0 ∷ 1 ∷ replicate 61 0 ++ 1 ∷ [])) (3 ∷ 3 ∷ 3 ∷ []) ≡ refused 4
  pub second_record_high : second_answer (awaiting_second two on_0_1_0 (13 ∷ 6 ∷ [])) (4 ∷ 5 ∷ []) ≡ refused 4
  pub second_record_clear : second_answer (awaiting_second two on_0_1_0 (5 ∷ 2 ∷ [])) [] ≡ refused 4
  -- the call that fills the list of own receivers: rows 5 and 12
  pub own_1 : own_receivers_answer 1 0 ≡ refused 5
  pub own_2 : own_receivers_answer 2 2 ≡ full (0 ∷ 1 ∷ [])
  pub own_2_short : own_receivers_answer 2 1 ≡ refused 12
  pub own_48 : count_of (own_receivers_answer 48 48) ≡ full 48
  pub own_49 : own_receivers_answer 49 48 ≡ refused 5

-- ---- 64 receivers

-- m = 64: words have 64 bits, and none is too high; at m = 63 bit 63 is.
pub record SixtyFour : Type 0 where
  pub none_too_high : (words : List ℕ) → ((t : ℕ) → t < length words → at words t < 2 ^ 64) → ¬ (HighBit 64 words)
  -- row 10 in the three calls that have it by m: every word of 64 bits; bit 63 at m = 63; and all bits below it
  pub diagnose_64 : diagnose receivers_64 (replicate 3 (2 ^ 64 - 1)) ≡ full (replicate 64 0)
  pub diagnose_63 : diagnose receivers_63 (0 ∷ 0 ∷ 2 ^ 63 ∷ []) ≡ refused 10
  pub diagnose_below : diagnose receivers_63 (replicate 3 (2 ^ 63 - 1)) ≡ full (replicate 63 0)
  pub first_64 : first_answer (awaiting_first two receivers_64) (replicate 2 (2 ^ 64 - 1)) 3 ≡ full (0 ∷ 1 ∷ 2 ∷ [])
  pub first_63 : first_answer (awaiting_first two receivers_63) (0 ∷ 2 ^ 63 ∷ []) 3 ≡ refused 10
  pub first_below : first_answer (awaiting_first two receivers_63) (replicate 2 (2 ^ 63 - 1)) 3 ≡ full (0 ∷ 1 ∷ 2 ∷ [])
  pub second_64 : second_answer (awaiting_second two receivers_64 (replicate 2 (2 ^ 64 - 1))) (replicate 3 (2 ^ 64 - 1)) ≡ full []
  pub second_63 : second_answer (awaiting_second two receivers_63 (replicate 2 (2 ^ 63 - 1))) (0 ∷ 0 ∷ 2 ^ 63 ∷ []) ≡ refused 10
  pub second_below : second_answer (awaiting_second two receivers_63 (replicate 2 (2 ^ 63 - 1))) (replicate 3 (2 ^ 63 - 1)) ≡ full []
  -- nothing wrong: the response, and back; the findings; the session, which step one ends
  pub response : respond two receivers_64 (0 ∷ 1 ∷ 2 ∷ []) (1 ∷ replicate 63 2) ≡ full (0 ∷ 1 ∷ (2 ^ 64 - 2) ∷ [])
  pub back : diagnose receivers_64 (0 ∷ 1 ∷ (2 ^ 64 - 2) ∷ []) ≡ full (1 ∷ replicate 63 2)
  pub records : find 2 receivers_64 (1 ∷ replicate 63 2) ≡ full (found 0 1 0 ∷ replicate 63 (found 0 2 0))
  pub left : after_first two receivers_64 (1 ∷ (2 ^ 64 - 2) ∷ []) ≡ finished two receivers_64 (1 ∷ replicate 63 2) 2
  -- the last receiver floats
  pub last_floats : respond two receivers_64 (0 ∷ 1 ∷ 2 ∷ []) (1 ∷ replicate 62 2 ++ 0 ∷ [])
      ≡ full (2 ^ 63 ∷ (2 ^ 63 + 1) ∷ (2 ^ 64 - 2) ∷ [])
  pub last_record : find 2 receivers_64 (1 ∷ replicate 62 2 ++ 0 ∷ []) ≡ full (found 0 1 0 ∷ replicate 62 (found 0 2 0) ++ found 1 0 0 ∷ [])
  -- row 12: room for 63
  pub diagnose_room_63 : diagnosis_answer two receivers_64 2 (0 ∷ 1 ∷ 2 ∷ []) (0 ∷ 1 ∷ (2 ^ 64 - 2) ∷ []) 63 ≡ refused 12
  pub find_room_63 : findings_answer two receivers_64 (1 ∷ replicate 63 2) 63 ≡ refused 12

-- ---- wrong programs

-- What a program answers otherwise that is wrong in one point; the point stands before each group.
pub record WrongPrograms : Type 0 where
  -- clear by one of the net's receivers: the last of net 0's did not return its word, or the first did not; clear only
  -- if no second receiver returned it: both did; clear whatever other nets' receivers returned: net 1's did too
  pub last_did_not : ¬ (Clear two on_0_1_0 (5 ∷ 6 ∷ []) 0)
  pub last_unclear : unclear two on_0_1_0 (5 ∷ 6 ∷ []) ≡ 0 ∷ []
  pub first_did_not : ¬ (Clear two on_0_1_0 (5 ∷ 3 ∷ []) 0)
  pub first_unclear : unclear two on_0_1_0 (5 ∷ 3 ∷ []) ≡ 0 ∷ []
  pub both_did : unclear two on_0_1_0 (5 ∷ 2 ∷ []) ≡ []
  pub another_did : unclear two on_0_1_0 (7 ∷ 0 ∷ []) ≡ 0 ∷ 1 ∷ []
  -- F by receivers: neither of net 0's receivers returned its word, and net 0 counts once
  pub counts_nets : first_answer (awaiting_first two on_0_1_0) (5 ∷ 7 ∷ []) 2 ≡ full (0 ∷ 1 ∷ [])
  -- a net without a receiver let through: no other row holds
  pub no_receiver : four_calls 2 (0 ∷ 0 ∷ 0 ∷ []) ≡ all_21
  -- partners by receiver number: receivers 1 and 2 have the same reach, and are on nets 0 and 1, or on nets 1 and 0
  pub partners_as_nets : find 3 (2 ∷ 0 ∷ 1 ∷ 0 ∷ []) (4 ∷ 2 ∷ 2 ∷ 1 ∷ [])
      ≡ full (found 0 4 0 ∷ found 3 2 2 ∷ found 2 2 1 ∷ found 0 1 0 ∷ [])
  pub partner_above : find 2 on_0_1_0 (1 ∷ 2 ∷ 2 ∷ []) ≡ full (found 0 1 0 ∷ found 2 2 1 ∷ found 3 2 2 ∷ [])
  -- a second receiver of the same net among the partners
  pub same_net : find 2 (0 ∷ 1 ∷ 1 ∷ []) (1 ∷ 2 ∷ 2 ∷ []) ≡ full (found 0 1 0 ∷ found 0 2 0 ∷ found 0 2 0 ∷ [])
  -- row 10 by n: at n = 2 and m = 3 bit 2 is not too high, and bit 3 is
  pub response_bit_2 : respond two on_0_1_0 (0 ∷ 1 ∷ 2 ∷ []) (1 ∷ 2 ∷ 0 ∷ []) ≡ full (4 ∷ 5 ∷ 6 ∷ [])
  pub diagnose_bit_2 : diagnose on_0_1_0 (4 ∷ 5 ∷ 6 ∷ []) ≡ full (1 ∷ 2 ∷ 0 ∷ [])
  pub diagnose_bit_3 : diagnose on_0_1_0 (4 ∷ 5 ∷ 8 ∷ []) ≡ refused 10
  pub first_bit_2 : first_answer (awaiting_first two on_0_1_0) (5 ∷ 4 ∷ []) 3 ≡ full (0 ∷ 1 ∷ 2 ∷ [])
  pub first_bit_3 : first_answer (awaiting_first two on_0_1_0) (5 ∷ 8 ∷ []) 3 ≡ refused 10
  pub second_bit_2 : second_answer (awaiting_second two on_0_1_0 (5 ∷ 6 ∷ [])) (4 ∷ 5 ∷ []) ≡ full []
  pub second_bit_3 : second_answer (awaiting_second two on_0_1_0 (5 ∷ 6 ∷ [])) (8 ∷ 5 ∷ []) ≡ refused 10
  -- rows 8 and 11 by m: a vector and a reach have a bit for each driver; and row 11 asks for m words
  pub vector_by_n : respond two on_0_1_0 (4 ∷ []) (1 ∷ 2 ∷ 1 ∷ []) ≡ refused 8
  pub reach_by_n : respond two on_0_1_0 (0 ∷ []) (1 ∷ 2 ∷ 4 ∷ []) ≡ refused 11
  pub two_words : respond two on_0_1_0 (0 ∷ []) (1 ∷ 2 ∷ []) ≡ refused 11
  pub four_words : respond two on_0_1_0 (0 ∷ []) (1 ∷ 2 ∷ 1 ∷ 0 ∷ []) ≡ refused 11
  -- reaches that may meet and differ if they are of one net's receivers: rows 11 and 14
  pub one_net_differs : respond two on_0_1_0 (0 ∷ []) (1 ∷ 0 ∷ 3 ∷ []) ≡ refused 11
  pub no_state : diagnose on_0_1_0 (2 ∷ 7 ∷ 6 ∷ []) ≡ refused 14
  -- row 12 by n: room for two words and two records
  pub diagnose_room_2 : diagnosis_answer two on_0_1_0 2 (0 ∷ 1 ∷ 2 ∷ []) (4 ∷ 5 ∷ 6 ∷ []) 2 ≡ refused 12
  pub find_room_2 : findings_answer two on_0_1_0 (1 ∷ 2 ∷ 1 ∷ []) 2 ≡ refused 12
  -- owners not kept by the record: it holds them after each step, and they decide what follows the same first answers
  pub kept_by_begin : held_owners (after_begin two swapped) ≡ swapped
  pub kept_by_first : held_owners (after_first two swapped (1 ∷ 2 ∷ [])) ≡ swapped
  pub kept_by_second : held_owners (after_second two swapped (1 ∷ 2 ∷ []) (0 ∷ 1 ∷ 2 ∷ [])) ≡ swapped
  pub by_owners_1_0 : first_answer (after_begin two swapped) (1 ∷ 2 ∷ []) 3 ≡ full (0 ∷ 1 ∷ 2 ∷ [])
  pub by_owners_0_1 : first_answer (after_begin two (0 ∷ 1 ∷ [])) (1 ∷ 2 ∷ []) 3 ≡ full []
  pub by_owners_0_1_0 : first_answer (after_begin two on_0_1_0) (5 ∷ 6 ∷ []) 3 ≡ full (0 ∷ 1 ∷ [])
  pub by_owners_0_1_1 : first_answer (after_begin two (0 ∷ 1 ∷ 1 ∷ [])) (5 ∷ 6 ∷ []) 3 ≡ full (0 ∷ 2 ∷ [])
  -- and which part is driven next
  pub driven_1_0 : to_drive (after_first two swapped (1 ∷ 2 ∷ [])) (7 ∷ []) (5 ∷ 6 ∷ 7 ∷ 8 ∷ []) ≡ 5 ∷ 6 ∷ 7 ∷ []
  pub driven_0_1_0 : to_drive (after_first two on_0_1_0 (5 ∷ 6 ∷ [])) (7 ∷ []) (5 ∷ 6 ∷ 7 ∷ 8 ∷ []) ≡ 5 ∷ 6 ∷ []

-- ---- through C

-- The number of receivers stands after the gate, then their nets with zeros to 64.
pub record ReceiversInWords : Type 0 where
  pub begun_words : session_words (after_begin two swapped) ≡ 1 ∷ 2 ∷ 1 ∷ 0 ∷ 2 ∷ 1 ∷ 0 ∷ replicate 135 0
  pub waiting_words : session_words (after_first two swapped (1 ∷ 2 ∷ []))
      ≡ 2 ∷ 2 ∷ 1 ∷ 0 ∷ 2 ∷ 1 ∷ replicate 63 0 ++ 1 ∷ 2 ∷ replicate 71 0
  pub finished_words : session_words (after_second (wired_and 2 0) clock (5 ∷ 8 ∷ []) (13 ∷ 8 ∷ []))
      ≡ 3 ∷ 2 ∷ 0 ∷ 1 ∷ 4 ∷ clock ++ replicate 68 0 ++ one_open ++ replicate 60 0 ++ 4 ∷ []

-- ---- all of them

pub record ReceiverCases : Type 0 where
  pub at_receivers : FoundAtReceivers
  pub clock_net : ClockNet
  pub swapped_owners : Swapped
  pub row_21 : RowTwentyOne
  pub sixty_four : SixtyFour
  pub wrong_programs : WrongPrograms
  pub in_words : ReceiversInWords
