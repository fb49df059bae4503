-- Job files: what the reader and the writer do on every input, and that, with lists long enough, the reader accepts
-- exactly the writer's files and returns their content and their kind.
use Rattle.std.specs.Prelude.{ℕ, ◌≤◌, ◌≡◌, List, length, take}
use Rattle.words.specs.Answers.{Answer, refused, full, ByTable, lent_after, Filled, FillsByTable}
use Rattle.network.specs.declared.Network.{Network}
use Rattle.turning.specs.Turn.{Exchanged}
use Rattle.jobfile.specs.Bytes.{AllBytes}
use Rattle.jobfile.specs.Layout.{body_words}
use Rattle.reader.specs.declared.Job.{Job}
use Rattle.reader.specs.Reader.{JobContent, ReaderRows, content, vectors_read, responses_read, counted}
use Rattle.writer.specs.Writer.{WriterRows, file_of}

-- ---- the writer

-- a program for the call *write a job file*: what it returns, and the lent file after it
abbrev pub WriterProgram : Type 0
WriterProgram = (kind : ℕ) → Network → ℕ → (vectors responses lent : List ℕ) → Filled ℕ

abbrev pub Writes : WriterProgram → Type 0
Writes program = (kind : ℕ) (net : Network) (k : ℕ) (vectors responses lent : List ℕ)
    → FillsByTable (WriterRows kind net k vectors responses (length lent))
    (λ bytes. bytes ≡ file_of kind net k vectors responses) lent (program kind net k vectors responses lent)

-- ---- the reader

-- what one call did: what it returned, and the two lists after it
pub record ReadDone : Type 0 where
  pub returned : Answer Job
  pub vectors : List ℕ
  pub responses : List ℕ

abbrev pub ReaderProgram : Type 0
ReaderProgram = (file vectors responses : List ℕ) → ReadDone

-- refused by the first row that holds and both lists as they were, or the file's content in their fronts and their
-- tails kept
pub record ReadByTable (file vectors responses : List ℕ) (did : ReadDone) : Type 0 where
  pub answer : Answer JobContent
  pub allowed : ByTable (ReaderRows file (length vectors) (length responses)) (λ job. job ≡ content file) answer
  pub returned : did.returned ≡ counted answer
  pub vectors_after : did.vectors ≡ lent_after (vectors_read answer) vectors
  pub responses_after : did.responses ≡ lent_after (responses_read answer) responses

abbrev pub Reads : ReaderProgram → Type 0
Reads program = (file vectors responses : List ℕ) → ReadByTable file vectors responses (program file vectors responses)

-- ---- the two together

-- the file that a call of the writer wrote
abbrev pub file_written : Filled ℕ → ℕ → List ℕ
file_written did count = take count did.list

pub record Exact (reader : ReaderProgram) (writer : WriterProgram) : Type 0 where
  -- a file that was written is read, with what was written
  pub written_is_read : (kind : ℕ) (net : Network) (k : ℕ) (vectors responses lent vectors_lent responses_lent : List ℕ)
      (count : ℕ) → (writer kind net k vectors responses lent).returned ≡ full count
      → length vectors ≤ length vectors_lent → length responses ≤ length responses_lent
      → let did = reader (file_written (writer kind net k vectors responses lent) count) vectors_lent responses_lent in
      (did.returned ≡ full (record { network = net; class = k; kind = kind; vectors = length vectors; responses = length responses }))
      × (take (length vectors) did.vectors ≡ vectors)
      × (take (length responses) did.responses ≡ responses)
  -- and a file that is read is the one that is written with what was read
  pub read_is_written : (file vectors_lent responses_lent lent : List ℕ) (job : Job) → AllBytes file
      → (reader file vectors_lent responses_lent).returned ≡ full job → length file ≤ length lent
      → let did = reader file vectors_lent responses_lent in
      let wrote = writer job.kind job.network job.class (take job.vectors did.vectors) (take job.responses did.responses) lent in
      (wrote.returned ≡ full (length file)) × (file_written wrote (length file) ≡ file)

-- of a file of kind 4: bit t of word i of its vectors' body is bit i of vector t
abbrev pub ReadsExchanged : ReaderProgram → Type 0
ReadsExchanged reader =
    (file vectors_lent responses_lent : List ℕ) (job : Job) → (reader file vectors_lent responses_lent).returned ≡ full job
    → job.kind ≡ 4
    → Exchanged job.vectors (body_words file 1) (take job.vectors (reader file vectors_lent responses_lent).vectors)

-- what the reader answered, but for the kind
abbrev pub of_kind : ℕ → Answer Job → Answer Job
of_kind kind (refused number) = refused number
of_kind kind (full job) = full
    (record {
      network = job.network;
      class = job.class;
      kind = kind;
      vectors = job.vectors;
      responses = job.responses;
    })

-- One content written in either kind is read alike, into whatever lists: the same refusal or the same job but for the
-- kind, and the same words.
abbrev pub KindsReadAlike : ReaderProgram → WriterProgram → Type 0
KindsReadAlike reader writer =
    (net : Network) (k : ℕ) (vectors responses lent other_lent vectors_lent responses_lent : List ℕ) (count other_count : ℕ)
    → (writer 2 net k vectors responses lent).returned ≡ full count
    → (writer 4 net k vectors responses other_lent).returned ≡ full other_count
    → let one = reader (file_written (writer 2 net k vectors responses lent) count) vectors_lent responses_lent in
    let other = reader (file_written (writer 4 net k vectors responses other_lent) other_count) vectors_lent responses_lent in
    (other.returned ≡ of_kind 4 one.returned) × (other.vectors ≡ one.vectors) × (other.responses ≡ one.responses)

-- the most bytes of a file that is accepted, and of one of kind 4
abbrev pub SizeLimits : ReaderProgram → Type 0
SizeLimits reader =
    (file vectors_lent responses_lent : List ℕ) (job : Job) → AllBytes file
    → (reader file vectors_lent responses_lent).returned ≡ full job
    → (length file ≤ 1060) × (job.kind ≡ 4 → length file ≤ 933)
