-- Names every definition here and below that computes.
use Rattle.std.specs.Prelude.{ℕ}
use Rattle.words.specs.Open.{open_words}
use Rattle.network.specs.Reading.{active, all_drivers, all_but, walking_vector, extra_vector, needs_extra, extra_vectors}
use Rattle.network.specs.Reading.{meets, some_at_0, driven, reads, sequential_response, response_word, response}
use Rattle.network.specs.Joint.{joint_word, no_drivers, with_driver}
use Rattle.network.specs.States.{few_drivers, meet_and_differ, has_wrong_reach, conflicts, has_conflict, not_a_state}
use Rattle.network.specs.Rows.{bad_receivers, has_high_bit}
use Rattle.network.specs.Respond.{response_answer}
use Rattle.network.specs.OwnReceivers.{own_receivers, own_receivers_answer}

unfoldable pub open_network : ℕ
unfolding open_words active all_drivers all_but walking_vector extra_vector needs_extra extra_vectors meets some_at_0 driven reads
    sequential_response response_word response joint_word no_drivers with_driver few_drivers meet_and_differ has_wrong_reach conflicts has_conflict
    not_a_state bad_receivers has_high_bit response_answer own_receivers own_receivers_answer
open_network = 0
