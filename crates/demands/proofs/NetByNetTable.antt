-- The cases of turning and of sets stored net by net, by computation.
use Rattle.std.proofs.Common.{◌≡◌, refl, ◌≢◌, ⊎_elim, List, ℕ}
use Rattle.words.specs.Answers.{refused, by_tests}
use Rattle.words.proofs.Tests.{decides_not, test_passes}
use Rattle.network.specs.declared.Network.{Network}
use Rattle.turning.specs.Open.{open_turning}
use Rattle.jobfile.proofs.StoredVectors.{decides_vectors_kind}
use Rattle.writer.specs.Writer.{write_answer}
use Rattle.writer.specs.Open.{open_writer}
use Rattle.listing.specs.Open.{open_listing}
use Rattle.packing.specs.Packed.{job_words}
use Rattle.demands.specs.NetByNetCases.{TurningCases, NetByNetCases}

other_kind : (kind : ℕ) → kind ≢ 2 → kind ≢ 4 → (net : Network) (k : ℕ) (vectors responses : List ℕ) (room : ℕ)
    → write_answer kind net k vectors responses room ≡ refused 2
unfolding write_answer by_tests
other_kind kind not_2 not_4 net k vectors responses room =
    rw (test_passes (decides_not (decides_vectors_kind kind)) (⊎_elim not_2 not_4))

pub turning_cases : TurningCases
unfolding open_turning
turning_cases = record {
  turned = refl;
  turned_back = refl;
  two_vectors = refl;
  two_vectors_back = refl;
  least = refl;
  least_back = refl;
  most = refl;
  most_back = refl;
  all_ones = refl;
  all_ones_back = refl;
  nets_1 = refl;
  nets_49 = refl;
  back_nets_1 = refl;
  back_nets_49 = refl;
  vectors_0 = refl;
  vectors_65 = refl;
  back_count_0 = refl;
  back_count_65 = refl;
  back_words_3 = refl;
  back_words_5 = refl;
  vector_below = refl;
  vector_at = refl;
  wide_at = refl;
  back_bit_below = refl;
  back_bit_at = refl;
  back_bit_62 = refl;
  back_bit_63 = refl;
  room_3 = refl;
  room_4 = refl;
  back_room_4 = refl;
  back_room_5 = refl;
  rows_5_7 = refl;
  rows_7_8 = refl;
  rows_8_12 = refl;
  back_rows_5_7 = refl;
  back_rows_7_8 = refl;
  back_rows_7_8_count = refl;
  back_rows_8_12 = refl;
  list = refl;
  list_refused = refl;
  back_list = refl;
  back_list_refused = refl;
}

pub net_by_net_cases : NetByNetCases
unfolding open_writer open_listing job_words
net_by_net_cases = record {
  archive_bytes = refl;
  archive_content = refl;
  archive_report = refl;
  words_of_a_job = refl;
  no_other_kind = other_kind;
  kind_3_written = refl;
  kind_258_written = refl;
  kind_bit_63_written = refl;
  kind_4_read = refl;
  kind_0_read = refl;
  kind_1_read = refl;
  kind_3_read = refl;
  kind_5_read = refl;
  kind_6_read = refl;
  kind_255_read = refl;
  kind_4_first = refl;
  kind_4_third = refl;
  kind_4_twice = refl;
  size_0 = refl;
  size_1 = refl;
  size_2 = refl;
  size_8 = refl;
  size_9 = refl;
  size_32 = refl;
  size_34 = refl;
  as_kind_2 = refl;
  count_0 = refl;
  count_1 = refl;
  count_63 = refl;
  count_64 = refl;
  count_65 = refl;
  count_255 = refl;
  words_0 = refl;
  words_3 = refl;
  words_5 = refl;
  bit_below = refl;
  bit_at = refl;
  bit_above_n = refl;
  bit_63_of_63 = refl;
  bit_63_of_64 = refl;
  as_many = refl;
  as_many_as_words = refl;
  none_of_one = refl;
  response_below = refl;
  response_at = refl;
  room_1 = refl;
  room_2 = refl;
  longest_size = refl;
  longest_read = refl;
  longest_written = refl;
  longest_short = refl;
  rows_2_5 = refl;
  rows_2_3 = refl;
  rows_3_5 = refl;
  rows_5_7 = refl;
  rows_7_8 = refl;
  rows_7_8_words = refl;
  rows_7_9 = refl;
  rows_8_9 = refl;
  rows_9_10 = refl;
  rows_10_12 = refl;
}
