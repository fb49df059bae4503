-- Our reader and our writer keep the promises on job files, and no other programs do.
use Rattle.std.proofs.Common.{ℕ, ◌≤◌, ◌≡◌, refl, sym, ap, ap₂, ◌∙◌, List, length, take}
use Rattle.words.specs.Answers.{Answer, full, lent_after}
use Rattle.words.proofs.Answers.{front_written, fills_determined}
use Rattle.network.specs.declared.Network.{Network}
use Rattle.jobfile.specs.Bytes.{AllBytes}
use Rattle.reader.specs.declared.Job.{Job}
use Rattle.reader.specs.Reader.{JobContent, read_answer, vectors_read, responses_read, counted}
use Rattle.reader.proofs.ReaderLaws.{read_by_table, read_determined}
use Rattle.reader.proofs.ReaderAnswers.{read_counted_full}
use Rattle.writer.specs.Writer.{WriterRows, file_of, write_answer}
use Rattle.writer.proofs.WriterLaws.{write_by_table, write_determined}
use Rattle.demands.specs.JobFiles.{WriterProgram, Writes, ReaderProgram, Reads, file_written, Exact}
use Rattle.demands.specs.Programs.{our_reader, our_writer}
use Rattle.demands.proofs.Fronts.{front, wrote}
use Rattle.demands.proofs.Exactness.{content_of}
use Rattle.demands.proofs.Exactness as law

pub writes : Writes our_writer
writes kind net k vectors responses lent = record {
  answer = write_answer kind net k vectors responses (length lent);
  allowed = write_by_table kind net k vectors responses (length lent);
  returned = refl;
  list = refl;
}

pub reads_files : Reads our_reader
reads_files file vectors responses = record {
  answer = read_answer file (length vectors) (length responses);
  allowed = read_by_table file (length vectors) (length responses);
  returned = refl;
  vectors_after = refl;
  responses_after = refl;
}

written_is_read : (kind : ℕ) (net : Network) (k : ℕ) (vectors responses lent vectors_lent responses_lent : List ℕ) (count : ℕ)
    → (our_writer kind net k vectors responses lent).returned ≡ full count
    → length vectors ≤ length vectors_lent → length responses ≤ length responses_lent
    → let did = our_reader (file_written (our_writer kind net k vectors responses lent) count) vectors_lent responses_lent in
    (did.returned ≡ full (record { network = net; class = k; kind = kind; vectors = length vectors; responses = length responses }))
    × (take (length vectors) did.vectors ≡ vectors)
    × (take (length responses) did.responses ≡ responses)
written_is_read kind net k vectors responses lent vectors_lent responses_lent count e l m =
    let w = front (write_answer kind net k vectors responses (length lent)) count lent e in
    let read : read_answer (file_written (our_writer kind net k vectors responses lent) count) (length vectors_lent)
    (length responses_lent) ≡ full (content_of kind net k vectors responses) =
    ap (λ (f : List ℕ). read_answer f (length vectors_lent) (length responses_lent)) w.2
    ∙ law.written_is_read kind net k vectors responses (length lent) (length vectors_lent) (length responses_lent) w.0 w.1 l m in (
      ap counted read,
      ap (λ (a : Answer JobContent). take (length vectors) (lent_after (vectors_read a) vectors_lent)) read
          ∙ front_written vectors vectors_lent,
      ap (λ (a : Answer JobContent). take (length responses) (lent_after (responses_read a) responses_lent)) read
          ∙ front_written responses responses_lent,
    )

-- the vectors of what was read are at the front of their list
pub vectors_front : (file vectors_lent responses_lent : List ℕ) (job : Job) (c : JobContent)
    → read_answer file (length vectors_lent) (length responses_lent) ≡ full c
    → record {
      network = c.network;
      class = c.class;
      kind = c.kind;
      vectors = length c.vectors;
      responses = length c.responses;
    } ≡ job
    → take job.vectors (our_reader file vectors_lent responses_lent).vectors ≡ c.vectors
vectors_front file vectors_lent responses_lent job c e same =
    ap (λ (a : Answer JobContent). take job.vectors (lent_after (vectors_read a) vectors_lent)) e
    ∙ ap (λ (j : Job). take j.vectors (lent_after (full c.vectors) vectors_lent)) (sym same)
    ∙ front_written c.vectors vectors_lent

read_is_written : (file vectors_lent responses_lent lent : List ℕ) (job : Job) → AllBytes file
    → (our_reader file vectors_lent responses_lent).returned ≡ full job → length file ≤ length lent
    → let did = our_reader file vectors_lent responses_lent in
    let wrote = our_writer job.kind job.network job.class (take job.vectors did.vectors) (take job.responses did.responses) lent in
    (wrote.returned ≡ full (length file)) × (file_written wrote (length file) ≡ file)
read_is_written file vectors_lent responses_lent lent job bytes e l =
    let r = read_counted_full (read_answer file (length vectors_lent) (length responses_lent)) job e in
    let c : JobContent = r.0 in
    let vectors_same = vectors_front file vectors_lent responses_lent job c r.1 r.2 in
    let responses_same : take job.responses (our_reader file vectors_lent responses_lent).responses ≡ c.responses =
    ap (λ (a : Answer JobContent). take job.responses (lent_after (responses_read a) responses_lent)) r.1
    ∙ ap (λ (j : Job). take j.responses (lent_after (full c.responses) responses_lent)) (sym r.2)
    ∙ front_written c.responses responses_lent in
    let law_says : write_answer c.kind c.network c.class c.vectors c.responses (length lent) ≡ full file =
    law.read_is_written file (length vectors_lent) (length responses_lent) (length lent) c bytes r.1 l in
    let answer : write_answer job.kind job.network job.class
    (take job.vectors (our_reader file vectors_lent responses_lent).vectors)
    (take job.responses (our_reader file vectors_lent responses_lent).responses) (length lent) ≡ full file =
    ap₂ (λ (v w : List ℕ). write_answer job.kind job.network job.class v w (length lent)) vectors_same responses_same
    ∙ ap (λ (j : Job). write_answer j.kind j.network j.class c.vectors c.responses (length lent)) (sym r.2) ∙ law_says in
    wrote _ file lent answer

pub exact : Exact our_reader our_writer
exact = record { written_is_read = written_is_read; read_is_written = read_is_written }

-- ---- nothing is left open

pub writer_determined : (p q : WriterProgram) → Writes p → Writes q → (kind : ℕ) (net : Network) (k : ℕ) (vectors responses lent : List ℕ)
    → p kind net k vectors responses lent ≡ q kind net k vectors responses lent
writer_determined p q f g kind net k vectors responses lent =
    fills_determined (WriterRows kind net k vectors responses (length lent))
    (λ bytes. bytes ≡ file_of kind net k vectors responses) lent (p kind net k vectors responses lent)
    (q kind net k vectors responses lent)
    (write_determined kind net k vectors responses (length lent)) (f kind net k vectors responses lent) (g kind net k vectors responses lent)

pub reader_determined : (p q : ReaderProgram) → Reads p → Reads q → (file vectors responses : List ℕ)
    → p file vectors responses ≡ q file vectors responses
reader_determined p q f g file vectors responses =
    let a = f file vectors responses in
    let b = g file vectors responses in
    let same : a.answer ≡ b.answer =
    read_determined file (length vectors) (length responses) a.answer b.answer a.allowed
    b.allowed in
    λ j. record {
      returned = (a.returned ∙ ap counted same ∙ sym b.returned) j;
      vectors = (a.vectors_after ∙ ap (λ (x : Answer JobContent). lent_after (vectors_read x) vectors) same ∙ sym b.vectors_after) j;
      responses = (a.responses_after ∙ ap (λ (x : Answer JobContent). lent_after (responses_read x) responses) same
          ∙ sym b.responses_after) j;
    }
