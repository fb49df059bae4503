-- The call *read a job file*: rows 1, 2, 3, 5, 6, 17, 20, 7, 8, 9, 10, 12.
use Rattle.std.specs.Prelude.{ℕ, ◌≡◌, ◌⊎◌, Bool, true, ◌&&◌, ◌||◌, List, [], ◌∷◌, ◌++◌, length}
use Rattle.words.specs.Answers.{Answer, refused, full, by_tests}
use Rattle.network.specs.declared.Network.{Network}
use Rattle.network.specs.Rows.{Row9, HighBit, Row12, bad_response_count, has_high_bit, no_room}
use Rattle.jobfile.specs.VectorsBody.{BodyRows, body_tests}
use Rattle.jobfile.specs.Layout.{Row1, Row2, Row3, bad_mark, bad_layout, bad_bodies, file_network, file_class}
use Rattle.jobfile.specs.Layout.{body_words, file_kind, file_count, file_vectors, has_responses, file_responses}
use Rattle.reader.specs.declared.Job.{Job}

-- what a job file holds, and the kind of its vectors' body
pub record JobContent : Type 0 where
  pub network : Network
  pub class : ℕ
  pub kind : ℕ
  pub vectors : List ℕ
  pub responses : List ℕ

unfoldable pub content : List ℕ → JobContent
content file = record {
  network = file_network file;
  class = file_class file;
  kind = file_kind file;
  vectors = file_vectors file;
  responses = file_responses file;
}

abbrev pub FileRows : List ℕ → List (ℕ × Type 0)
FileRows file = (1, Row1 file) ∷ (2, Row2 file) ∷ (3, Row3 file) ∷ []

-- rows 5, 6, 17, 20, 7 and 8, these two by the kind of the vectors' body
abbrev pub FileBodyRows : List ℕ → List (ℕ × Type 0)
FileBodyRows file = BodyRows (file_network file) (file_class file) (file_kind file) (file_count file) (body_words file 1)

-- with no third entry, rows 9 and 10 are not tested; either list may be too short
abbrev pub ListRows : List ℕ → JobContent → (vectors_room responses_room : ℕ) → List (ℕ × Type 0)
ListRows file job vectors_room responses_room =
    (9, (has_responses file ≡ true) × Row9 (length job.vectors) (length job.responses))
    ∷ (10, (has_responses file ≡ true) × HighBit job.network.nets job.responses)
    ∷ (12, Row12 (length job.vectors) vectors_room ⊎ Row12 (length job.responses) responses_room)
    ∷ []

abbrev pub ReaderRows : List ℕ → (vectors_room responses_room : ℕ) → List (ℕ × Type 0)
ReaderRows file vectors_room responses_room =
    FileRows file ++ FileBodyRows file ++ ListRows file (content file) vectors_room responses_room

abbrev pub file_tests : List ℕ → List (ℕ × Bool)
file_tests file = (1, bad_mark file) ∷ (2, bad_layout file) ∷ (3, bad_bodies file) ∷ []

abbrev pub file_body_tests : List ℕ → List (ℕ × Bool)
file_body_tests file = body_tests (file_network file) (file_class file) (file_kind file) (file_count file) (body_words file 1)

abbrev pub list_tests : List ℕ → JobContent → (vectors_room responses_room : ℕ) → List (ℕ × Bool)
list_tests file job vectors_room responses_room =
    (9, has_responses file && bad_response_count (length job.vectors) (length job.responses))
    ∷ (10, has_responses file && has_high_bit job.network.nets job.responses)
    ∷ (12, no_room (length job.vectors) vectors_room || no_room (length job.responses) responses_room)
    ∷ []

-- all tests of a file with this content
abbrev pub reader_tests : List ℕ → JobContent → (vectors_room responses_room : ℕ) → List (ℕ × Bool)
reader_tests file job vectors_room responses_room =
    file_tests file ++ file_body_tests file ++ list_tests file job vectors_room responses_room

-- the call's answer, computed
unfoldable pub read_answer : List ℕ → (vectors_room responses_room : ℕ) → Answer JobContent
read_answer file vectors_room responses_room =
    by_tests (reader_tests file (content file) vectors_room responses_room) (content file)

-- what is written to the two lists
abbrev pub vectors_read : Answer JobContent → Answer (List ℕ)
vectors_read (refused number) = refused number
vectors_read (full job) = full job.vectors

abbrev pub responses_read : Answer JobContent → Answer (List ℕ)
responses_read (refused number) = refused number
responses_read (full job) = full job.responses

-- what the call returns: the network, the class, the kind and how many words each list was given
abbrev pub counted : Answer JobContent → Answer Job
counted (refused number) = refused number
counted (full job) = full
    (record {
      network = job.network;
      class = job.class;
      kind = job.kind;
      vectors = length job.vectors;
      responses = length job.responses;
    })
