-- Job files as they were before kind 4, and that those of kind 2 are read and written as before. What kind 4 changed
-- is restated as it was. `head_of` is given the kind and the size that it had; a job, which named no kind, names 2.
use Rattle.std.specs.Prelude.{ℕ, suc, ◌+◌, ◌-◌, ◌*◌, ◌/◌, ◌%◌, ◌≡◌, Bool, not, cond, ◌&&◌, ◌||◌, ◌≢◌, List, [], ◌∷◌, ◌++◌, eqb, ltb, length}
use Rattle.words.specs.Answers.{Answer, by_tests, lent_after, count_of, Filled}
use Rattle.words.specs.Searching.{any}
use Rattle.network.specs.declared.Network.{Network}
use Rattle.network.specs.Rows.{set_tests, bad_response_count, has_high_bit, no_room}
use Rattle.jobfile.specs.Bytes.{word_bytes, words_at}
use Rattle.jobfile.specs.Layout.{most_bytes, entry_count, bodies_at, entry_kind, body_offset, body_length, nets_bytes}
use Rattle.jobfile.specs.Layout.{nets_size, bad_mark, file_network, file_class, has_responses}
use Rattle.reader.specs.Reader.{JobContent, list_tests, vectors_read, responses_read, counted}
use Rattle.writer.specs.Writer.{head_of, given}
use Rattle.demands.specs.JobFiles.{ReaderProgram, WriterProgram}

-- ---- the writer

-- the head with an entry of kind 2, 8 bytes for each vector; then the bodies
abbrev pub file_before : Network → ℕ → (vectors responses : List ℕ) → List ℕ
file_before net k vectors responses =
    head_of 2 (8 * length vectors) responses ++ (nets_bytes net k ++ word_bytes vectors ++ word_bytes responses)

-- no kind, and so no row 2
abbrev pub write_before : Network → ℕ → (vectors responses : List ℕ) → ℕ → Answer (List ℕ)
write_before net k vectors responses room =
    by_tests (set_tests net k vectors
    ++ (9, given responses && bad_response_count (length vectors) (length responses))
    ∷ (10, given responses && has_high_bit net.nets responses)
    ∷ (12, no_room (length (file_before net k vectors responses)) room)
    ∷ []) (file_before net k vectors responses)

-- ---- the reader

-- the kinds are 1, 2, 3 in order
abbrev pub entry_breaks : List ℕ → ℕ → Bool
entry_breaks file i =
    let before = cond (eqb i 0) (bodies_at (entry_count file)) (body_offset file (i - 1) + body_length file (i - 1)) in
    let last = eqb (suc i) (entry_count file) && not (eqb (body_offset file i + body_length file i) (length file)) in
    not (eqb (entry_kind file i) (suc i)) || (not (eqb (body_offset file i) before) || last)

abbrev pub layout_breaks : List ℕ → Bool
layout_breaks file =
    let entry = any (entry_count file) (entry_breaks file) in
    let table = ltb (length file) (bodies_at (entry_count file)) in
    let count = not (eqb (entry_count file) 2 || eqb (entry_count file) 3) in
    ltb most_bytes (length file) || (count || (table || entry))

-- each body but the first is a multiple of 8
abbrev pub bodies_break : List ℕ → Bool
bodies_break file =
    let words = any (entry_count file) (λ i. ltb 0 i && not (eqb (body_length file i % 8) 0)) in
    not (eqb (body_length file 0) nets_size) || words

-- and has its words from its beginning on
abbrev pub words_before : List ℕ → ℕ → List ℕ
words_before file i = words_at file (body_offset file i) (body_length file i / 8)

abbrev pub content_before : List ℕ → JobContent
content_before file = record {
  network = file_network file;
  class = file_class file;
  kind = 2;
  vectors = words_before file 1;
  responses = cond (has_responses file) (words_before file 2) [];
}

abbrev pub read_before : List ℕ → (vectors_room responses_room : ℕ) → Answer JobContent
read_before file vectors_room responses_room =
    let job = content_before file in
    by_tests ((1, bad_mark file) ∷ (2, layout_breaks file) ∷ (3, bodies_break file) ∷ []
    ++ set_tests job.network job.class job.vectors ++ list_tests file job vectors_room responses_room) job

-- ---- as before

-- what the earlier calls returned, and the lent lists after them
abbrev pub writer_before : Network → ℕ → (vectors responses lent : List ℕ) → Filled ℕ
writer_before net k vectors responses lent =
    let answer = write_before net k vectors responses (length lent) in
    record { returned = count_of answer; list = lent_after answer lent }

abbrev pub reader_before : ReaderProgram
reader_before file vectors responses =
    let answer = read_before file (length vectors) (length responses) in
    record {
      returned = counted answer;
      vectors = lent_after (vectors_read answer) vectors;
      responses = lent_after (responses_read answer) responses;
    }

pub record KindTwoAsBefore (reader : ReaderProgram) (writer : WriterProgram) : Type 0 where
  pub written : (net : Network) (k : ℕ) (vectors responses lent : List ℕ)
      → writer 2 net k vectors responses lent ≡ writer_before net k vectors responses lent
  -- every file, whatever its bytes, whose second entry is not of kind 4
  pub read : (file vectors responses : List ℕ) → entry_kind file 1 ≢ 4
      → reader file vectors responses ≡ reader_before file vectors responses
