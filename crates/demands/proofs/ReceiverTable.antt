-- The cases of several receivers on a net: that none of 64 bits is too high by a law, the rest by computation.
use Rattle.std.proofs.Common.{refl, [], ◌∷◌, arith}
use Rattle.findings.specs.Open.{open_findings}
use Rattle.steps.proofs.BothSteps.{decides_clear}
use Rattle.session.specs.Open.{open_session}
use Rattle.packing.specs.Packed.{session_words}
use Rattle.demands.specs.Starred.{two}
use Rattle.demands.specs.ReceiverCases.{on_0_1_0, clock, FoundAtReceivers, ClockNet, Swapped, RowTwentyOne}
use Rattle.demands.specs.ReceiverCases.{SixtyFour, WrongPrograms, ReceiversInWords, ReceiverCases}

found_at_receivers : FoundAtReceivers
unfolding open_findings
found_at_receivers = record {
  shorted_and_floating = refl;
  at_each_level_and_gate = λ level gate. refl;
  sound = refl;
  floating = refl;
  both_shorted = refl;
  by_the_same_reach = refl;
  by_one_receiver = refl;
  by_either_driver = refl;
}

clock_net : ClockNet
unfolding open_session open_findings
clock_net = record {
  records = refl;
  begins = refl;
  first_answers = refl;
  clock_unclear = refl;
  other_clear = (decides_clear two clock (7 ∷ 10 ∷ []) 1).0 refl;
  settles = refl;
  second_answers = refl;
  ends = refl;
  left = refl;
  first_short = refl;
  first_high = refl;
  first_no_room = refl;
  second_early = refl;
  second_short = refl;
  second_high = refl;
  second_unexplained = refl;
  first_late = refl;
  second_late = refl;
  fault_free = refl;
  fault_free_answers = refl;
  fault_free_left = refl;
  first_answers_or_0 = refl;
  settles_or_0 = refl;
  second_answers_or_0 = refl;
  left_or_0 = refl;
  first_answers_and_0 = refl;
  settles_and_0 = refl;
  second_answers_and_0 = refl;
  left_and_0 = refl;
  first_answers_and_1 = refl;
  settles_and_1 = refl;
  second_answers_and_1 = refl;
  left_and_1 = refl;
}

swapped_owners : Swapped
unfolding open_session open_findings
swapped_owners = record {
  fault_free = refl;
  sound = refl;
  first_answers = refl;
  all_clear = refl;
  no_vectors = refl;
  left = refl;
  back = refl;
  crossed = refl;
  crossed_answers = refl;
  crossed_unclear = refl;
  crossed_settles = refl;
  crossed_left = refl;
}

row_21 : RowTwentyOne
unfolding open_session open_findings
row_21 = record {
  one_receiver = refl;
  two_receivers = refl;
  sixty_four = refl;
  sixty_five = refl;
  no_receivers = refl;
  on_the_last_net = refl;
  on_net_n = refl;
  first_on_net_n = refl;
  on_the_greatest = refl;
  none_on_net_1 = refl;
  none_on_net_0 = refl;
  none_between = refl;
  all_three = refl;
  respond_5 = refl;
  respond_21 = refl;
  respond_6 = refl;
  respond_17 = refl;
  respond_20 = refl;
  diagnose_5 = refl;
  diagnose_21 = refl;
  diagnose_6 = refl;
  diagnose_17 = refl;
  diagnose_20 = refl;
  find_5 = refl;
  find_21 = refl;
  find_17 = refl;
  find_20 = refl;
  begin_5 = refl;
  begin_21 = refl;
  begin_17 = refl;
  begin_20 = refl;
  record_taken = refl;
  record_one_receiver = refl;
  record_on_net_n = refl;
  record_none_on_net_1 = refl;
  record_64 = refl;
  record_65 = refl;
  record_no_tail = refl;
  record_tail = refl;
  second_record_taken = refl;
  second_record_on_net_n = refl;
  second_record_none_on_net_1 = refl;
  second_record_64 = refl;
  second_record_65 = refl;
  second_record_no_tail = refl;
  second_record_tail = refl;
  second_record_high = refl;
  second_record_clear = refl;
  own_1 = refl;
  own_2 = refl;
  own_2_short = refl;
  own_48 = refl;
  own_49 = refl;
}

sixty_four : SixtyFour
unfolding open_session open_findings
sixty_four = record {
  none_too_high = λ words below high. omega (arith, below high.0 high.1, high.2);
  diagnose_64 = refl;
  diagnose_63 = refl;
  diagnose_below = refl;
  first_64 = refl;
  first_63 = refl;
  first_below = refl;
  second_64 = refl;
  second_63 = refl;
  second_below = refl;
  response = refl;
  back = refl;
  records = refl;
  left = refl;
  last_floats = refl;
  last_record = refl;
  diagnose_room_63 = refl;
  find_room_63 = refl;
}

wrong_programs : WrongPrograms
unfolding open_session open_findings
wrong_programs = record {
  last_did_not = (decides_clear two on_0_1_0 (5 ∷ 6 ∷ []) 0).1 refl;
  last_unclear = refl;
  first_did_not = (decides_clear two on_0_1_0 (5 ∷ 3 ∷ []) 0).1 refl;
  first_unclear = refl;
  both_did = refl;
  another_did = refl;
  counts_nets = refl;
  no_receiver = refl;
  partners_as_nets = refl;
  partner_above = refl;
  same_net = refl;
  response_bit_2 = refl;
  diagnose_bit_2 = refl;
  diagnose_bit_3 = refl;
  first_bit_2 = refl;
  first_bit_3 = refl;
  second_bit_2 = refl;
  second_bit_3 = refl;
  vector_by_n = refl;
  reach_by_n = refl;
  two_words = refl;
  four_words = refl;
  one_net_differs = refl;
  no_state = refl;
  diagnose_room_2 = refl;
  find_room_2 = refl;
  kept_by_begin = refl;
  kept_by_first = refl;
  kept_by_second = refl;
  by_owners_1_0 = refl;
  by_owners_0_1 = refl;
  by_owners_0_1_0 = refl;
  by_owners_0_1_1 = refl;
  driven_1_0 = refl;
  driven_0_1_0 = refl;
}

receivers_in_words : ReceiversInWords
unfolding open_session session_words
receivers_in_words = record {
  begun_words = refl;
  waiting_words = refl;
  finished_words = refl;
}

pub receiver_cases : ReceiverCases
receiver_cases = record {
  at_receivers = found_at_receivers;
  clock_net = clock_net;
  swapped_owners = swapped_owners;
  row_21 = row_21;
  sixty_four = sixty_four;
  wrong_programs = wrong_programs;
  in_words = receivers_in_words;
}
