-- The call *diagnosis* answers as its rows and its result say, and nothing is left open.
use Rattle.std.proofs.Common.{◌≡◌, refl, List, ◌++◌, ℕ, length}
use Rattle.words.specs.Answers.{Answer, ByTable, NoneHolds, Decided}
use Rattle.words.proofs.Tests.{test_fails, equal_if_not_unequal}
use Rattle.words.proofs.Answers.{none_front, none_rest, decided_append, tests_by_table, table_determined}
use Rattle.network.specs.declared.Network.{Network}
use Rattle.network.specs.States.{Fits}
use Rattle.network.specs.Rows.{BoardSetRows, Row9, board_set_tests}
use Rattle.network.proofs.Rows.{decides_board_set, set_of_board_set, decides_row_9, decides_high_bit, decides_row_12}
use Rattle.network.proofs.Rows.{no_high_bit, AdmittedSet, admitted_set}
use Rattle.checker.proofs.PassedSets.{decides_row_13, passed_apart}
use Rattle.checker.proofs.Separation.{apart_one_fits}
use Rattle.diagnosis.specs.ReadBack.{read_back}
use Rattle.diagnosis.specs.Diagnosis.{OwnRows, DiagnosisRows, own_tests, diagnosis_answer}
use Rattle.diagnosis.proofs.ReadingBack.{read_back_fits, decides_no_state_fits}

-- as many responses as vectors
pub same_count : (vectors responses : List ℕ) → ¬ (Row9 (length vectors) (length responses)) → length responses ≡ length vectors
same_count vectors responses h = equal_if_not_unequal (length responses) (length vectors) h

module _ (net : Network) (owners : List ℕ) (k : ℕ) (vectors responses : List ℕ) (room : ℕ) where
  decides_own : NoneHolds (BoardSetRows net owners k vectors)
      → Decided (OwnRows net (length owners) k vectors responses room)
      (own_tests net (length owners) k vectors responses room)
  decides_own none = (
    refl,
    decides_row_9 (length vectors) (length responses),
    λ nine. (
      refl,
      decides_high_bit (length owners) responses,
      λ ten. (
        refl,
        decides_row_12 (length owners) room,
        λ _. (
          refl,
          decides_row_13 net k vectors,
          λ thirteen. (
            refl,
            decides_no_state_fits net (length owners) k vectors responses (same_count vectors responses nine)
                (no_high_bit (length owners) responses ten)
                (passed_apart net k vectors
                (admitted_set net k vectors (set_of_board_set net owners k vectors none)) thirteen),
            λ _. tt,
          ),
        ),
      ),
    ),
  )

  decides_rows : Decided (DiagnosisRows net owners k vectors responses room)
      (board_set_tests net owners k vectors ++ own_tests net (length owners) k vectors responses room)
  decides_rows =
      decided_append (BoardSetRows net owners k vectors) (OwnRows net (length owners) k vectors responses room)
      (board_set_tests net owners k vectors)
      (own_tests net (length owners) k vectors responses room)
      (decides_board_set net owners k vectors) decides_own

  -- where no row holds, the test set is one that is admitted
  set_of : NoneHolds (DiagnosisRows net owners k vectors responses room) → AdmittedSet net k vectors
  set_of none = admitted_set net k vectors (set_of_board_set net owners k vectors
      (none_front (BoardSetRows net owners k vectors) (OwnRows net (length owners) k vectors responses room) none))

  pub diagnosis_by_table : ByTable (DiagnosisRows net owners k vectors responses room)
      (Fits net (length owners) k vectors responses)
      (diagnosis_answer net owners k vectors responses room)
  unfolding diagnosis_answer
  diagnosis_by_table =
      tests_by_table (Fits net (length owners) k vectors responses) (DiagnosisRows net owners k vectors responses room)
      (board_set_tests net owners k vectors ++ own_tests net (length owners) k vectors responses room)
      (read_back net (length owners) k vectors responses) decides_rows result
    where
      result : NoneHolds (DiagnosisRows net owners k vectors responses room)
          → Fits net (length owners) k vectors responses (read_back net (length owners) k vectors responses)
      result none =
          let own = none_rest (BoardSetRows net owners k vectors)
          (OwnRows net (length owners) k vectors responses room) none in
          let size = same_count vectors responses own.0 in
          let narrow = no_high_bit (length owners) responses own.1.0 in
          let apart = passed_apart net k vectors (set_of none) own.1.1.1.0 in
          read_back_fits net (length owners) k vectors responses size narrow
          (test_fails (decides_no_state_fits net (length owners) k vectors responses size narrow apart)
          own.1.1.1.1.0)

  pub diagnosis_determined : (a b : Answer (List ℕ))
      → ByTable (DiagnosisRows net owners k vectors responses room) (Fits net (length owners) k vectors responses) a
      → ByTable (DiagnosisRows net owners k vectors responses room) (Fits net (length owners) k vectors responses) b
      → a ≡ b
  diagnosis_determined a b =
      table_determined (Fits net (length owners) k vectors responses)
      (DiagnosisRows net owners k vectors responses room) a b
      (λ none s u p q. one none s u p q)
    where
      one : NoneHolds (DiagnosisRows net owners k vectors responses room) → (s u : List ℕ)
          → Fits net (length owners) k vectors responses s
          → Fits net (length owners) k vectors responses u → s ≡ u
      one none s u p q =
          let own = none_rest (BoardSetRows net owners k vectors)
          (OwnRows net (length owners) k vectors responses room) none in
          apart_one_fits net (length owners) k vectors (passed_apart net k vectors (set_of none) own.1.1.1.0)
          responses s u p q
