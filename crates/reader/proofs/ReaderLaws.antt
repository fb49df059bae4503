-- The call *read a job file* answers as its rows and the file's content say, and nothing is left open.
use Rattle.std.proofs.Common.{◌≡◌, refl, sym, ◌∙◌, ◌⊎◌, Bool, true, ◌&&◌, ◌||◌, List, ◌++◌, ℕ, length}
use Rattle.words.specs.Answers.{Answer, ByTable, Decides, Decided}
use Rattle.words.proofs.Tests.{decides_itself, decides_or, decides_and}
use Rattle.words.specs.Answers.{NoneHolds}
use Rattle.words.proofs.Answers.{decided_append, tests_by_table, table_determined}
use Rattle.reader.proofs.Bodies.{count_of_words}
use Rattle.network.specs.Rows.{SetRows, Row12, no_room}
use Rattle.network.proofs.Rows.{decides_row_9, decides_high_bit, decides_row_12}
use Rattle.jobfile.specs.Layout.{file_network, file_class, file_kind, file_count, file_vectors, body_words, has_responses}
use Rattle.jobfile.proofs.StoredVectors.{decides_body, set_of_body}
use Rattle.jobfile.proofs.FileRows.{decides_row_1, decides_row_2, decides_row_3}
use Rattle.reader.specs.Reader.{JobContent, content, FileRows, FileBodyRows, ListRows, ReaderRows, file_tests}
use Rattle.reader.specs.Reader.{file_body_tests, list_tests}
use Rattle.reader.specs.Reader.{reader_tests, read_answer}

decides_given_row : (file : List ℕ) {b : Bool} {B : Type 0} → Decides b B
    → Decides (has_responses file && b) ((has_responses file ≡ true) × B)
decides_given_row file d = decides_and (decides_itself (has_responses file)) d

decides_either_room : (vectors_size vectors_room responses_size responses_room : ℕ)
    → Decides (no_room vectors_size vectors_room || no_room responses_size responses_room)
    (Row12 vectors_size vectors_room ⊎ Row12 responses_size responses_room)
decides_either_room vectors_size vectors_room responses_size responses_room =
    decides_or (decides_row_12 vectors_size vectors_room) (decides_row_12 responses_size responses_room)

module _ (file : List ℕ) (vectors_room responses_room : ℕ) where
  decides_file : Decided (FileRows file) (file_tests file)
  decides_file = (refl, decides_row_1 file, λ _. (refl, decides_row_2 file, λ _. (refl, decides_row_3 file, λ _. tt)))

  decides_lists : (job : JobContent)
      → Decided (ListRows file job vectors_room responses_room) (list_tests file job vectors_room responses_room)
  decides_lists job = (
    refl,
    decides_given_row file (decides_row_9 (length job.vectors) (length job.responses)),
    λ _. (
      refl,
      decides_given_row file (decides_high_bit job.network.nets job.responses),
      λ _. (refl, decides_either_room (length job.vectors) vectors_room (length job.responses) responses_room, λ _. tt),
    ),
  )

  decides_rows : Decided (ReaderRows file vectors_room responses_room)
      (reader_tests file (content file) vectors_room responses_room)
  decides_rows =
      let lists = ListRows file (content file) vectors_room responses_room in
      let list_ones = list_tests file (content file) vectors_room responses_room in
      decided_append (FileRows file) (FileBodyRows file ++ lists) (file_tests file) (file_body_tests file ++ list_ones) decides_file
      (λ _. decided_append (FileBodyRows file) lists (file_body_tests file) list_ones
      (decides_body (file_network file) (file_class file) (file_kind file) (file_count file) (body_words file 1))
      (λ _. decides_lists (content file)))

  pub read_by_table : ByTable (ReaderRows file vectors_room responses_room) (λ job. job ≡ content file)
      (read_answer file vectors_room responses_room)
  unfolding read_answer
  read_by_table =
      tests_by_table (λ job. job ≡ content file) (ReaderRows file vectors_room responses_room)
      (reader_tests file (content file) vectors_room responses_room)
      (content file) decides_rows (λ _. refl)

  pub read_determined : (a b : Answer JobContent) → ByTable (ReaderRows file vectors_room responses_room) (λ job. job ≡ content file) a
      → ByTable (ReaderRows file vectors_room responses_room) (λ job. job ≡ content file) b → a ≡ b
  read_determined a b = table_determined (λ job. job ≡ content file) (ReaderRows file vectors_room responses_room) a b
      (λ _ x y p q. p ∙ sym q)

-- where no row of the vectors' body holds, none of a test set's holds of the vectors
pub set_of_file : (file : List ℕ) → NoneHolds (FileBodyRows file)
    → NoneHolds (SetRows (content file).network (content file).class (content file).vectors)
unfolding content file_vectors
set_of_file file none =
    set_of_body (file_network file) (file_class file) (file_kind file) (file_count file) (body_words file 1) (count_of_words file) none
