-- Names every definition here and below that computes.
use Rattle.std.specs.Prelude.{ℕ}
use Rattle.checker.specs.Open.{open_checker}
use Rattle.diagnosis.specs.ReadBack.{reach_read, read_back, no_state_fits}
use Rattle.diagnosis.specs.Diagnosis.{fit_answer, diagnosis_answer}

unfoldable pub open_diagnosis : ℕ
unfolding open_checker reach_read read_back no_state_fits fit_answer diagnosis_answer
open_diagnosis = 0
