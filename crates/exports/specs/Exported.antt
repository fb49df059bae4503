-- The calls for C and Rust: a number returned, and lists lent.
use Rattle.std.specs.Prelude.{ℕ, ◌/◌, List, [], ◌∷◌, length}
use Rattle.words.specs.Answers.{Answer, refused, full}
use Rattle.network.specs.declared.Network.{Network}
use Rattle.shorter.specs.declared.Shortened.{Shortened}
use Rattle.reader.specs.declared.Job.{Job}
use Rattle.findings.specs.declared.Finding.{Finding}
use Rattle.findings.specs.FindingsTable.{findings_answer}
use Rattle.session.specs.Calls.{begin_answer, begun, first_answer, first_answered, second_answer, second_answered}
use Rattle.session.specs.Drive.{to_drive}
use Rattle.packing.specs.Packed.{session_words, session_of}

-- ---- what a call returns, and what it writes

-- 0 if the call is accepted, else the number of the refusal
unfoldable pub code : {A : Type 0} → Answer A → ℕ
code (refused number) = number
code (full x) = 0

-- the words of a full result
unfoldable pub in_words : {A : Type 0} → (A → List ℕ) → Answer A → Answer (List ℕ)
in_words words (refused number) = refused number
in_words words (full x) = full (words x)

-- a list of a fixed length after the call: the words of a full result, or as it was
unfoldable pub fixed_after : Answer (List ℕ) → List ℕ → List ℕ
fixed_after (refused number) lent = lent
fixed_after (full words) lent = words

-- ---- what calls return besides the lists that they fill

-- what *shorten* returns: how many vectors are kept, the checks made, the floor
abbrev pub returned_shorter_words : Shortened → List ℕ
returned_shorter_words counts = counts.kept ∷ counts.checks ∷ counts.floor ∷ []

-- what the reader returns: nets, level, gate, class, kind, number of vectors, number of responses
abbrev pub returned_job_words : Job → List ℕ
returned_job_words job = job.network.nets ∷ job.network.level ∷ job.network.gate ∷ job.class ∷ job.kind ∷ job.vectors
    ∷ job.responses ∷ []

-- what the writer returns: how many bytes it wrote
abbrev pub returned_size_words : ℕ → List ℕ
returned_size_words count = count ∷ []

-- ---- a table's room, a session's words, a count to drive

-- the room in words, 3 a record
abbrev pub findings_exported : Network → (owners state : List ℕ) → ℕ → Answer (List Finding)
findings_exported net owners state room = findings_answer net owners state (room / 3)

-- the session's words after a call that is accepted
abbrev pub session_begun : (session : List ℕ) → Network → (owners : List ℕ) → ℕ → Answer (List ℕ)
session_begun session net owners room =
    in_words (λ _. session_words (begun (session_of session) net owners room).session) (begin_answer net owners room)

abbrev pub session_first : (session answers : List ℕ) → ℕ → Answer (List ℕ)
session_first session answers room =
    in_words (λ _. session_words (first_answered (session_of session) answers room).session)
    (first_answer (session_of session) answers room)

abbrev pub session_second : (session answers : List ℕ) → Answer (List ℕ)
session_second session answers =
    in_words (λ _. session_words (second_answered (session_of session) answers).session) (second_answer (session_of session) answers)

-- how many words to drive
abbrev pub drive_count : (session first second : List ℕ) → ℕ
drive_count session first second = length (to_drive (session_of session) first second)
