-- The cases of the soft level, by computation.
use Rattle.std.proofs.Common.{refl, sym, ◌∙◌, arith}
use Rattle.network.specs.Reading.{network_with}
use Rattle.network.proofs.Reading.{reads_driven}
use Rattle.network.proofs.Rows.{is_bit, above_bits}
use Rattle.findings.specs.Open.{open_findings}
use Rattle.session.specs.Open.{open_session}
use Rattle.packing.specs.Packed.{session_words, job_words}
use Rattle.demands.specs.LevelCases.{LevelCases}

pub level_cases : LevelCases
unfolding open_session open_findings session_words job_words
level_cases = record {
  floats_to_0 = λ n gate vector. refl;
  floats_to_1 = λ n gate vector. refl;
  driven_alike = λ n level other gate reach vector some.
      reads_driven (network_with n level gate) reach vector some ∙ sym (reads_driven (network_with n other gate) reach vector some);
  extra_at_1 = λ n. refl;
  extra_at_0 = λ n. refl;
  walking_alone = refl;
  walking_with_0 = refl;
  no_vector_of_net_3 = refl;
  complement_at_0 = refl;
  complement_at_1 = refl;
  response = refl;
  and_back = refl;
  back_without_0 = refl;
  no_state = refl;
  first_answers = refl;
  second_answers = refl;
  session_answers = refl;
  session_record = refl;
  sound_pair = refl;
  floating_pair = refl;
  driven_at_0 = refl;
  driven_at_1 = refl;
  level_0 = λ n gate. is_bit 0 (omega arith);
  level_1 = λ n gate. is_bit 1 (omega arith);
  no_other_level = λ n level gate high. above_bits level high;
  check_2 = refl;
  check_greatest = refl;
  respond_2 = refl;
  diagnose_2 = refl;
  find_0 = refl;
  find_1 = refl;
  find_2 = refl;
  begin_0 = refl;
  begin_2 = refl;
  five_first = refl;
  six_first = refl;
  before_7 = refl;
  find_five_first = refl;
  find_before_11 = refl;
  begin_five_first = refl;
  begin_before_12 = refl;
  record_first_0 = refl;
  record_first_2 = refl;
  record_second_0 = refl;
  record_second_2 = refl;
  record_drive_2 = refl;
  begun_words = refl;
  waiting_words = refl;
  finished_words = refl;
  words_of_a_job = refl;
}
