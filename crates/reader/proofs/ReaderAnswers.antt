-- The reader's answer, row by row, and what it leaves in the two lists.
use Rattle.std.proofs.Common.{◌≡◌, refl, ap, ◌∙◌, Bool, true, false, ◌&&◌, ◌||◌, List, [], ◌∷◌, ◌++◌, ℕ, ◌≤◌}
use Rattle.std.proofs.Common.{ltb-false, length}
use Rattle.words.proofs.Tests.{neither}
use Rattle.words.specs.Answers.{Answer, refused, full, NoneHolds, by_tests, lent_after}
use Rattle.words.proofs.Answers.{shared_refuse, shared_pass, refused_not_full, AllFail, none_passed, full_answer}
use Rattle.network.specs.Rows.{bad_response_count, has_high_bit, no_room}
use Rattle.jobfile.specs.Layout.{file_network, file_class, body_words, has_responses, file_responses}
use Rattle.jobfile.specs.Layout.{file_kind, file_count, file_vectors}
use Rattle.jobfile.proofs.StoredVectors.{vectors_count, body_none_holds}
use Rattle.reader.proofs.Bodies.{count_of_words}
use Rattle.reader.specs.declared.Job.{Job}
use Rattle.reader.specs.Reader.{JobContent, content, read_answer, vectors_read, responses_read, counted}
use Rattle.reader.specs.Reader.{FileBodyRows, file_tests, file_body_tests, list_tests}

-- rows 9 and 10, only where there is a third entry
abbrev pub nine : List ℕ → Bool
nine file = has_responses file && bad_response_count (file_count file) (length (file_responses file))

abbrev pub ten : List ℕ → Bool
ten file = has_responses file && has_high_bit (file_network file).nets (file_responses file)

-- the rows of the test set and these
abbrev file_content_tests : List ℕ → List (ℕ × Bool)
file_content_tests file = file_body_tests file ++ (9, nine file) ∷ (10, ten file) ∷ []

abbrev pub file_admission : List ℕ → Answer (Unit {0})
file_admission file = by_tests (file_content_tests file) tt

-- row 12: either list
abbrev pub file_no_room : List ℕ → (vectors_room responses_room : ℕ) → Bool
file_no_room file vectors_room responses_room =
    no_room (file_count file) vectors_room || no_room (length (file_responses file)) responses_room

-- where they admit it, no row holds of the vectors' body
pub body_admitted : (file : List ℕ) → file_admission file ≡ full tt → NoneHolds (FileBodyRows file)
body_admitted file e =
    body_none_holds (file_network file) (file_class file) (file_kind file) (file_count file) (body_words file 1)
    (full_answer (file_body_tests file) tt (front (none_passed (file_content_tests file) tt tt e).0))
  where
    front : AllFail (file_content_tests file) → AllFail (file_body_tests file)
    front (a, (b, (c, (d, (e, (f, rest)))))) = (a, (b, (c, (d, (e, (f, tt))))))

-- as many vectors as the file says
pub vectors_said : (file : List ℕ) → length (file_vectors file) ≡ file_count file
unfolding file_vectors
vectors_said file = vectors_count (file_kind file) (file_count file) (body_words file 1) (count_of_words file)

-- where row 12 does not hold, both lists have room
pub rooms : (file : List ℕ) (vectors_room responses_room : ℕ) → file_no_room file vectors_room responses_room ≡ false
    → (file_count file ≤ vectors_room) × (length (file_responses file) ≤ responses_room)
rooms file vectors_room responses_room e = let r = neither _ _ e in (ltb-false _ _ r.0, ltb-false _ _ r.1)

module _ (file : List ℕ) (vectors_room responses_room : ℕ) where
  -- by rows 1, 2 and 3
  pub by_file_row : (number : ℕ) → by_tests (file_tests file) (tt {0}) ≡ refused number
      → read_answer file vectors_room responses_room ≡ refused number
  unfolding read_answer
  by_file_row number e =
      shared_refuse tt (content file) (file_tests file) (file_body_tests file ++ list_tests file (content file) vectors_room responses_room)
      number e

  module _ (passed : by_tests (file_tests file) (tt {0}) ≡ full tt) where
    by_content : read_answer file vectors_room responses_room
        ≡ by_tests (file_content_tests file ++ (12, file_no_room file vectors_room responses_room) ∷ []) (content file)
    unfolding read_answer content
    by_content =
        shared_pass tt (content file) (file_tests file)
        (file_body_tests file ++ list_tests file (content file) vectors_room responses_room) tt passed
        ∙ rw (vectors_said file)

    pub by_content_row : (number : ℕ) → file_admission file ≡ refused number
        → read_answer file vectors_room responses_room ≡ refused number
    by_content_row number e = by_content
        ∙ shared_refuse tt (content file) (file_content_tests file)
        ((12, file_no_room file vectors_room responses_room) ∷ []) number e

    module _ (admitted : file_admission file ≡ full tt) where
      by_own : read_answer file vectors_room responses_room
          ≡ by_tests ((12, file_no_room file vectors_room responses_room) ∷ []) (content file)
      by_own = by_content ∙ shared_pass tt (content file) (file_content_tests file)
          ((12, file_no_room file vectors_room responses_room) ∷ []) tt admitted

      pub by_row_12 : file_no_room file vectors_room responses_room ≡ true → read_answer file vectors_room responses_room ≡ refused 12
      unfolding by_tests
      by_row_12 e = by_own ∙ rw e

      pub by_none : file_no_room file vectors_room responses_room ≡ false
          → read_answer file vectors_room responses_room ≡ full (content file)
      unfolding by_tests
      by_none e = by_own ∙ rw e

-- what the call's answer tells of the content: its refusal, and the counts of its lists
pub read_counted_refused : (a : Answer JobContent) (number : ℕ) → counted a ≡ refused number → a ≡ refused number
read_counted_refused (refused other) number e = let same : other ≡ number = cc in ap refused same
read_counted_refused (full job) number e = refused_not_full e refl

pub read_counted_full : (a : Answer JobContent) (job : Job) → counted a ≡ full job
    → (c : JobContent) × (a ≡ full c)
    × (record {
      network = c.network;
      class = c.class;
      kind = c.kind;
      vectors = length c.vectors;
      responses = length c.responses;
    } ≡ job)
read_counted_full (refused number) job e = refused_not_full refl e
read_counted_full (full c) job e = (c, refl, cc)

-- what the call owes: its answer, and both lists
pub owed_refused_both : (a : Answer JobContent) (number : ℕ) (vectors responses : List ℕ) → a ≡ refused number
    → (refused number ≡ counted a)
    × ((vectors ≡ lent_after (vectors_read a) vectors) × (responses ≡ lent_after (responses_read a) responses))
unfolding lent_after
owed_refused_both a number vectors responses e = rw e (refl, (refl, refl))

module _ (file : List ℕ) where
  pub owed_content : (a : Answer JobContent) (job : Job) (vectors responses vectors_after responses_after : List ℕ)
      → a ≡ full (content file)
      → job ≡ record {
        network = file_network file;
        class = file_class file;
        kind = file_kind file;
        vectors = length (file_vectors file);
        responses = length (file_responses file);
      }
      → vectors_after ≡ lent_after (full (file_vectors file)) vectors → responses_after ≡ lent_after (full (file_responses file)) responses
      → (full job ≡ counted a) ×
      ((vectors_after ≡ lent_after (vectors_read a) vectors)
      × (responses_after ≡ lent_after (responses_read a) responses))
  unfolding content
  owed_content a job vectors responses vectors_after responses_after e j p q = rw e (ap full j, (p, q))
