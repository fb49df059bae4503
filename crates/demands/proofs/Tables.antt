-- The starred cases, the bounds and the cases of partners, by computation; and that nothing is left open.
use Rattle.std.proofs.Common.{◌≡◌, refl, subst₂, [], ◌∷◌}
use Rattle.words.specs.Turning.{tabulate}
use Rattle.network.specs.OwnReceivers.{own_receivers}
use Rattle.findings.specs.Open.{open_findings}
use Rattle.session.specs.declared.Session.{Session}
use Rattle.session.specs.Record.{finished}
use Rattle.session.specs.Open.{open_session}
use Rattle.demands.specs.SessionCalls.{History, finished_second, history, record_after, OnlyFit}
use Rattle.demands.specs.Demand3.{Ended}
use Rattle.demands.specs.Programs.{our_sessions}
use Rattle.demands.specs.Determined.{Determined}
use Rattle.demands.specs.Starred.{own, four, junk, four_calls, Starred}
use Rattle.demands.specs.Boundary.{Boundary}
use Rattle.demands.specs.PartnerCases.{PartnerCases}
use Rattle.demands.proofs.Sessions.{sessions}
use Rattle.demands.proofs.Responding.{response_determined}
use Rattle.demands.proofs.Diagnosing.{diagnosis_determined_program}
use Rattle.demands.proofs.TurnCalls.{turn_determined_program, turn_back_determined_program}
use Rattle.demands.proofs.OwnReceivers.{own_determined_program}
use Rattle.demands.proofs.Findings.{findings_determined_program}
use Rattle.demands.proofs.Shortening.{shorten_determined_program}
use Rattle.demands.proofs.Checking.{check_determined_program}
use Rattle.demands.proofs.SessionsAlike.{sessions_determined}
use Rattle.demands.proofs.JobFiles.{writer_determined, reader_determined}
use Rattle.demands.proofs.DrivesAlike.{drive_determined}
use Rattle.demands.proofs.Reporting.{report_determined}

-- demand 3's theorem at the end of the starred session
abbrev ended_history : History
ended_history = finished_second four (own four) (11 ∷ 5 ∷ 6 ∷ 8 ∷ []) (15 ∷ 7 ∷ 7 ∷ 12 ∷ []) (0 ∷ 1 ∷ 2 ∷ 4 ∷ []) (4 ∷ 7 ∷ 7 ∷ 4 ∷ [])

four_ended : history our_sessions junk four_calls ≡ ended_history
    → record_after our_sessions junk four_calls ≡ finished four (own four) (3 ∷ 3 ∷ 0 ∷ 8 ∷ []) 8
    → OnlyFit ended_history (3 ∷ 3 ∷ 0 ∷ 8 ∷ [])
unfolding own_receivers tabulate
four_ended h r =
    (subst₂ (λ (x : History) (s : Session). Ended x s) h r (sessions junk four_calls).ended).state

pub starred : Starred
unfolding open_session
starred = record {
  walking = refl;
  no_extra_vector = refl;
  no_vector_of_net_3 = refl;
  counting_1 = refl;
  counting_2 = refl;
  complement_1 = refl;
  complement_2 = refl;
  published_2 = refl;
  published_3 = refl;
  response = refl;
  first_answers = refl;
  second_answers = refl;
  and_back = refl;
  no_state = refl;
  session_answers = refl;
  session_record = refl;
  session_history = refl;
  net_3_clear = refl;
  three_unclear = refl;
  session_state = four_ended refl refl;
  sound_pair = refl;
  floating_pair = refl;
}

pub boundary : Boundary
unfolding open_session open_findings
boundary = record {
  nets_1 = refl;
  nets_2 = refl;
  nets_48 = refl;
  nets_49 = refl;
  class_0 = refl;
  class_1 = refl;
  class_3 = refl;
  class_4 = refl;
  class_5 = refl;
  class_6 = refl;
  class_4_of_11 = refl;
  class_above = refl;
  vectors_0 = refl;
  vectors_1 = refl;
  vectors_64 = refl;
  vectors_65 = refl;
  word_below = refl;
  word_at = refl;
  meeting_reaches = refl;
  equal_reaches = refl;
  one_short = refl;
  just_enough = refl;
  one_response_short = refl;
  one_response_more = refl;
  response_below = refl;
  response_at = refl;
  room_3 = refl;
  room_4 = refl;
  set_not_passed = refl;
  find_1 = refl;
  find_2 = refl;
  find_48 = refl;
  find_49 = refl;
  find_meeting = refl;
  find_state_short = refl;
  find_state_long = refl;
  find_room_1 = refl;
  begin_1 = refl;
  begin_2 = refl;
  begin_2_short = refl;
  begin_48 = refl;
  begin_48_short = refl;
  begin_49 = refl;
  one_answer_short = refl;
  one_answer_more = refl;
  answer_at = refl;
  second_room_2 = refl;
  second_room_3 = refl;
  all_clear = refl;
  second_answer_short = refl;
  second_answer_at = refl;
  unlike_reaches = refl;
  unexplained = refl;
  unexplained_after = refl;
  junk_spent = refl;
  junk_first = refl;
  junk_reach = refl;
  junk_none = refl;
  nothing_unclear = refl;
}

pub partner_cases : PartnerCases
unfolding open_findings
partner_cases = record {
  crossed = refl;
  crossed_among_sound = refl;
  crossed_twice = refl;
  cycle = refl;
  two_crossings = refl;
  chain = refl;
  with_a_floating_net = refl;
  crossed_one_way = refl;
  at_the_last_receiver = refl;
  at_the_first_receiver = refl;
  at_the_one_between = refl;
  beside_a_net_alone = refl;
  at_one_that_is_not_open = refl;
  with_a_third_driver = refl;
  one_of_them_reached = refl;
  both_of_them_reached = refl;
  by_the_last_driver = refl;
  by_the_first_driver = refl;
  by_the_one_between = refl;
  by_one_that_reaches_its_own = refl;
  by_two_drivers = refl;
  two_shorts = refl;
  sound = refl;
  floating = refl;
  listing = refl;
}

pub determined : Determined
determined = record {
  turn = turn_determined_program;
  turn_back = turn_back_determined_program;
  own_receivers = own_determined_program;
  response = response_determined;
  check = check_determined_program;
  shorten = shorten_determined_program;
  diagnosis = diagnosis_determined_program;
  findings = findings_determined_program;
  session = sessions_determined;
  writer = writer_determined;
  reader = reader_determined;
  drive = drive_determined;
  report = report_determined;
}
