-- Demand 3, whole, of our checker and our session calls.
use Rattle.network.proofs.Rows.{nets_admitted}
use Rattle.steps.proofs.StepOneWords.{word_length_is, words_are_smallest, vectors_of_words}
use Rattle.steps.proofs.BothSteps.{unclear_nets}
use Rattle.demands.specs.Demand3.{Demand3}
use Rattle.demands.specs.Programs.{our_check, our_sessions}
use Rattle.demands.proofs.Checking.{checks}
use Rattle.demands.proofs.Sessions.{sessions}

pub demand_3 : Demand3 our_check our_sessions
demand_3 = record {
  checker = checks;
  session = sessions;
  length_of_words = λ net nets. let b = nets_admitted net nets in word_length_is net b.0 b.1;
  words_of_step_one = λ net nets. let b = nets_admitted net nets in words_are_smallest net b.0 b.1;
  vectors_of_step_one = λ net nets. let b = nets_admitted net nets in vectors_of_words net b.0 b.1;
  unclear_nets = λ net answers. unclear_nets net answers;
}
