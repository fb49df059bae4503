-- Document 02's request, whole.
use Rattle.fewest.specs.Fewest.{NoneShorter}
use Rattle.fewest.proofs.FirstSteps.{shortest_words, first_step, two_nets}
use Rattle.fewest.proofs.WalkingSets.{separating, two_states, passed}

pub none_shorter : NoneShorter
none_shorter = record {
  words = shortest_words;
  first_step = first_step;
  two_nets = two_nets;
  separating = separating;
  two_states = two_states;
  passed = passed;
}
