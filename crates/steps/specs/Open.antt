-- Names every definition here and below that computes.
use Rattle.std.specs.Prelude.{ℕ}
use Rattle.diagnosis.specs.Open.{open_diagnosis}
use Rattle.steps.specs.FirstStep.{binomial, word_length, balanced_words, sequential_words, first_vectors}
use Rattle.steps.specs.SecondStep.{only_from, is_clear, unclear, second_vectors, fault_free_state}

unfoldable pub open_steps : ℕ
unfolding open_diagnosis binomial word_length balanced_words sequential_words first_vectors only_from is_clear unclear
    second_vectors fault_free_state
open_steps = 0
