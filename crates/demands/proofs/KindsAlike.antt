-- The two kinds of job files: one content is read alike and reported alike, how long a file can be, and that the words
-- of kind 4 are turned.
use Rattle.std.proofs.Common.{◌≡◌, refl, sym, ap, ◌∙◌, subst, subst₂, Bool, true, false, List, [], ◌∷◌, ℕ, arith}
use Rattle.std.proofs.Common.{length, eq-eqb}
use Rattle.words.specs.Answers.{Answer, full, lent_after, by_tests}
use Rattle.words.proofs.Answers.{none_passed}
use Rattle.words.proofs.Columns.{transpose_size}
use Rattle.network.specs.declared.Network.{Network}
use Rattle.turning.specs.Turn.{Exchanged}
use Rattle.turning.proofs.TurnLaws.{exchanged}
use Rattle.jobfile.specs.Layout.{body_words, file_kind, file_count, file_vectors}
use Rattle.jobfile.proofs.StoredVectors.{vectors_turned}
use Rattle.reader.specs.declared.Job.{Job}
use Rattle.reader.specs.Reader.{JobContent, content, reader_tests, read_answer, vectors_read, responses_read, counted}
use Rattle.reader.proofs.ReaderAnswers.{read_counted_full}
use Rattle.writer.specs.Writer.{write_answer}
use Rattle.listing.specs.Report.{report}
use Rattle.demands.specs.JobFiles.{file_written, ReadsExchanged, of_kind, KindsReadAlike, SizeLimits}
use Rattle.demands.specs.Reports.{KindsReportAlike}
use Rattle.demands.specs.Programs.{our_reader, our_report, our_writer}
use Rattle.demands.proofs.Fronts.{front}
use Rattle.demands.proofs.JobFiles.{vectors_front}
use Rattle.demands.proofs.Exactness.{content_of, read_into, written_into, reports_alike, written, written_most}
use Rattle.demands.proofs.Exactness.{turned_most, read_is_written}

-- what two answers give to the caller is the same but for the kind
abbrev Alike : (kind : ℕ) → (vectors responses : List ℕ) → (one other : Answer JobContent) → Type 0
Alike kind vectors responses one other =
    (counted other ≡ of_kind kind (counted one))
    × (lent_after (vectors_read other) vectors ≡ lent_after (vectors_read one) vectors)
    × (lent_after (responses_read other) responses ≡ lent_after (responses_read one) responses)

module _ (net : Network) (k : ℕ) (vectors responses : List ℕ) where
  -- whether row 12 holds or not
  content_alike : (kind other : ℕ) (no_room : Bool) (vectors_lent responses_lent : List ℕ)
      → Alike other vectors_lent responses_lent (by_tests ((12, no_room) ∷ []) (content_of kind net k vectors responses))
      (by_tests ((12, no_room) ∷ []) (content_of other net k vectors responses))
  unfolding by_tests
  content_alike kind other true vectors_lent responses_lent = (refl, refl, refl)
  content_alike kind other false vectors_lent responses_lent = (refl, refl, refl)

  -- the file that a call of the writer wrote, and what is read of it
  module _ (kind : ℕ) (lent : List ℕ) (count : ℕ) (e : (our_writer kind net k vectors responses lent).returned ≡ full count) where
    wrote_file : (file : List ℕ) × (write_answer kind net k vectors responses (length lent) ≡ full file)
        × (file_written (our_writer kind net k vectors responses lent) count ≡ file)
    wrote_file = front (write_answer kind net k vectors responses (length lent)) count lent e

    file_read : (vectors_room responses_room : ℕ)
        → read_answer (file_written (our_writer kind net k vectors responses lent) count) vectors_room responses_room
        ≡ read_into kind net k vectors responses vectors_room responses_room
    file_read vectors_room responses_room =
        ap (λ (f : List ℕ). read_answer f vectors_room responses_room) wrote_file.2
        ∙ written_into kind net k vectors responses (length lent) vectors_room responses_room wrote_file.0 wrote_file.1

pub kinds_read_alike : KindsReadAlike our_reader our_writer
kinds_read_alike net k vectors responses lent other_lent vectors_lent responses_lent count other_count e f =
    subst₂ (Alike 4 vectors_lent responses_lent)
    (sym (file_read net k vectors responses 2 lent count e (length vectors_lent) (length responses_lent)))
    (sym (file_read net k vectors responses 4 other_lent other_count f (length vectors_lent) (length responses_lent)))
    (content_alike net k vectors responses 2 4 _ vectors_lent responses_lent)

pub kinds_report_alike : KindsReportAlike our_report our_writer
kinds_report_alike net k vectors responses lent other_lent count other_count e f =
    let a = wrote_file net k vectors responses 2 lent count e in
    let b = wrote_file net k vectors responses 4 other_lent other_count f in
    ap report a.2
    ∙ reports_alike 2 4 net k vectors responses (length lent) (length other_lent) a.0 b.0 a.1 b.1
    ∙ sym (ap report b.2)

pub size_limits : SizeLimits our_reader
size_limits file vectors_lent responses_lent job bytes e =
    let r = read_counted_full (read_answer file (length vectors_lent) (length responses_lent)) job e in
    let c : JobContent = r.0 in
    let w = written c.kind c.network c.class c.vectors c.responses (length file) file
    (read_is_written file (length vectors_lent) (length responses_lent) (length file) c bytes r.1 (omega arith)) in (
      written_most c.kind c.network c.class c.vectors c.responses file w,
      λ q. turned_most c.kind c.network c.class c.vectors c.responses file w (ap (λ (j : Job). j.kind) r.2 ∙ q),
    )

-- ---- the words of a body of kind 4 and the vectors

content_read : (file : List ℕ) (vectors_room responses_room : ℕ) (c : JobContent)
    → read_answer file vectors_room responses_room ≡ full c → content file ≡ c
unfolding read_answer
content_read file vectors_room responses_room c e =
    (none_passed (reader_tests file (content file) vectors_room responses_room) (content file) c e).1

content_exchanged : (file : List ℕ) → (content file).kind ≡ 4
    → Exchanged (length (content file).vectors) (body_words file 1) (content file).vectors
unfolding content file_vectors
content_exchanged file four =
    let is = vectors_turned (file_kind file) (eq-eqb (file_kind file) 4 four) (file_count file) (body_words file 1) in
    let size : length (file_vectors file) ≡ file_count file =
    ap length is ∙ transpose_size (file_count file) (body_words file 1) in
    subst₂ (λ (n : ℕ) (vectors : List ℕ). Exchanged n (body_words file 1) vectors) (sym size) (sym is)
    (exchanged (file_count file) (body_words file 1))

pub reads_exchanged : ReadsExchanged our_reader
reads_exchanged file vectors_lent responses_lent job e four =
    let r = read_counted_full (read_answer file (length vectors_lent) (length responses_lent)) job e in
    let c : JobContent = r.0 in
    let same = content_read file (length vectors_lent) (length responses_lent) c r.1 in
    let kind : (content file).kind ≡ 4 = ap (λ (x : JobContent). x.kind) same ∙ ap (λ (j : Job). j.kind) r.2 ∙ four in
    let held : Exchanged (length c.vectors) (body_words file 1) c.vectors =
    subst (λ (x : JobContent). Exchanged (length x.vectors) (body_words file 1) x.vectors) same (content_exchanged file kind) in
    subst₂ (λ (n : ℕ) (vectors : List ℕ). Exchanged n (body_words file 1) vectors) (ap (λ (j : Job). j.vectors) r.2)
    (sym (vectors_front file vectors_lent responses_lent job c r.1 r.2)) held
