-- Demand 1: the answer to any call, on any numbers and any bytes, is either its full result or one refusal number from
-- documents 01 and 02. After a refusal each lent list, table and session record still holds what it held before the
-- call.
use Rattle.std.specs.Prelude.{ℕ, ◌≡◌, ◌⊎◌, List, [], ◌∷◌, ◌++◌, map, length, drop}
use Rattle.words.specs.Answers.{refused, full, NoneHolds, Filled}
use Rattle.network.specs.declared.Network.{Network}
use Rattle.network.specs.Reading.{Response}
use Rattle.network.specs.States.{Fits}
use Rattle.network.specs.Rows.{SetRows, Row9, HighBit, Row12}
use Rattle.network.specs.Respond.{ResponseRows}
use Rattle.network.specs.OwnReceivers.{OwnReceivers, OwnReceiversRows}
use Rattle.turning.specs.Turn.{Exchanged, TurnRows, TurnBackRows}
use Rattle.checker.specs.declared.Verdict.{Verdict}
use Rattle.checker.specs.Rule.{Rule}
use Rattle.diagnosis.specs.Diagnosis.{DiagnosisRows}
use Rattle.shorter.specs.Shorten.{ShortenRows, Shorter, IsShorter}
use Rattle.findings.specs.declared.Finding.{Finding}
use Rattle.findings.specs.FindingsTable.{FindingsRows, Findings}
use Rattle.session.specs.declared.Session.{Session}
use Rattle.reader.specs.Reader.{ReaderRows, content}
use Rattle.writer.specs.Writer.{WriterRows, file_of}
use Rattle.demands.specs.Demand2.{ResponseProgram, DiagnosisProgram}
use Rattle.demands.specs.FindingsCall.{FindingsProgram}
use Rattle.demands.specs.TurnCalls.{TurnProgram, TurnBackProgram}
use Rattle.demands.specs.OwnReceiversCall.{OwnReceiversProgram}
use Rattle.demands.specs.JobFiles.{WriterProgram, ReadDone, ReaderProgram}
use Rattle.demands.specs.SessionCalls.{Call, begin, first, second, lent, SessionProgram, History, none}
use Rattle.demands.specs.SessionCalls.{waits_first, waits_second, finished_first, finished_second, accepted}
use Rattle.demands.specs.SessionCalls.{LeftBy, FitsAnswers}
use Rattle.demands.specs.Demand3.{CheckProgram, BeginRows, Written, second_words}
use Rattle.demands.specs.ShortenCall.{ShortenDone, ShortenProgram}
use Rattle.demands.specs.SessionRecords.{WaitsFor, DriveProgram, DrivesNext}

-- ---- the calls

-- a public call, with all that it takes and is lent
pub data PublicCall : Type 0 where
  own : (nets : ℕ) (list : List ℕ) → PublicCall
  turn : (nets : ℕ) (vectors list : List ℕ) → PublicCall
  turn_back : (nets count : ℕ) (words list : List ℕ) → PublicCall
  check : (net : Network) (k : ℕ) (vectors : List ℕ) → PublicCall
  shorten : (net : Network) (k : ℕ) (vectors : List ℕ) (allowed : ℕ) (list : List ℕ) → PublicCall
  -- in the next three, and in begin, `owners` has the net of each receiver
  respond : (net : Network) (owners : List ℕ) (k : ℕ) (vectors state list : List ℕ) → PublicCall
  diagnose : (net : Network) (owners : List ℕ) (k : ℕ) (vectors responses list : List ℕ) → PublicCall
  find : (net : Network) (owners state : List ℕ) (table : List Finding) → PublicCall
  read : (file vectors responses : List ℕ) → PublicCall
  write : (kind : ℕ) (net : Network) (k : ℕ) (vectors responses file : List ℕ) → PublicCall
  -- begin, first answers, second answers
  advance : (session : Session) (call : Call) → PublicCall
  -- the vectors to drive next: no refusal
  drive : (session : Session) (one two : List ℕ) → PublicCall

-- a program for each
pub record Programs : Type 0 where
  pub owns : OwnReceiversProgram
  pub turns : TurnProgram
  pub turns_back : TurnBackProgram
  pub checks : CheckProgram
  pub shortens : ShortenProgram
  pub responds : ResponseProgram
  pub diagnoses : DiagnosisProgram
  pub finds : FindingsProgram
  pub reads : ReaderProgram
  pub writes : WriterProgram
  pub advances : SessionProgram
  pub drives : DriveProgram

-- ---- the rows of each call

-- the answers that a session waits for are as many as these vectors
abbrev pub awaited_vectors : History → List ℕ
awaited_vectors none = []
awaited_vectors (waits_first net owners v1) = v1
awaited_vectors (waits_second net owners v1 r1 v2) = v2
awaited_vectors (finished_first net owners v1 r1 v2) = []
awaited_vectors (finished_second net owners v1 r1 v2 r2) = []

-- a word with a bit at or above the session's m
abbrev pub SessionHighBit : History → List ℕ → Type 0
SessionHighBit none answers = ⊥
SessionHighBit (waits_first net owners v1) answers = HighBit (length owners) answers
SessionHighBit (waits_second net owners v1 r1 v2) answers = HighBit (length owners) answers
SessionHighBit (finished_first net owners v1 r1 v2) answers = HighBit (length owners) answers
SessionHighBit (finished_second net owners v1 r1 v2 r2) answers = HighBit (length owners) answers

-- in a session whose accepted calls leave the record
abbrev pub InSession : SessionProgram → Session → (History → Type 0) → Type 0
InSession program session holds = (h : History) × LeftBy program h session × holds h

-- rows 4, 9 and 10 of the calls that take answers
abbrev pub AnswerRows : SessionProgram → Session → Call → List ℕ → List (ℕ × Type 0)
AnswerRows program session call answers =
    (4, ¬ (WaitsFor program session call))
    ∷ (9, InSession program session (λ h. Row9 (length (awaited_vectors h)) (length answers)))
    ∷ (10, InSession program session (λ h. SessionHighBit h answers))
    ∷ []

abbrev pub SessionRows : SessionProgram → Session → Call → List (ℕ × Type 0)
SessionRows program session (begin net owners list) = BeginRows net owners list
SessionRows program session (first answers list) =
    AnswerRows program session (first answers list) answers
    ++ (12, InSession program session (λ h. Row12 (length (second_words h answers)) (length list))) ∷ []
SessionRows program session (second answers) =
    AnswerRows program session (second answers) answers
    ++ (14, InSession program session (λ h. ¬ ((state : List ℕ) × FitsAnswers (accepted h (second answers) []) state)))
    ∷ []

abbrev pub Rows : Programs → PublicCall → List (ℕ × Type 0)
Rows p (own nets list) = OwnReceiversRows nets (length list)
Rows p (turn nets vectors list) = TurnRows nets vectors (length list)
Rows p (turn_back nets count words list) = TurnBackRows nets count words (length list)
Rows p (check net k vectors) = SetRows net k vectors
Rows p (shorten net k vectors allowed list) = ShortenRows net k vectors (length list)
Rows p (respond net owners k vectors state list) = ResponseRows net owners k vectors state (length list)
Rows p (diagnose net owners k vectors responses list) = DiagnosisRows net owners k vectors responses (length list)
Rows p (find net owners state table) = FindingsRows net owners state (length table)
Rows p (read file vectors responses) = ReaderRows file (length vectors) (length responses)
Rows p (write kind net k vectors responses file) = WriterRows kind net k vectors responses (length file)
Rows p (advance session call) = SessionRows p.advances session call
Rows p (drive session one two) = []

-- their numbers, as documents 01 and 02 list them
abbrev pub session_numbers : Call → List ℕ
session_numbers (begin net owners list) = 5 ∷ 21 ∷ 17 ∷ 20 ∷ 12 ∷ []
session_numbers (first answers list) = 4 ∷ 9 ∷ 10 ∷ 12 ∷ []
session_numbers (second answers) = 4 ∷ 9 ∷ 10 ∷ 14 ∷ []

abbrev pub numbers : PublicCall → List ℕ
numbers (own nets list) = 5 ∷ 12 ∷ []
numbers (turn nets vectors list) = 5 ∷ 7 ∷ 8 ∷ 12 ∷ []
numbers (turn_back nets count words list) = 5 ∷ 7 ∷ 8 ∷ 12 ∷ []
numbers (check net k vectors) = 5 ∷ 6 ∷ 17 ∷ 20 ∷ 7 ∷ 8 ∷ []
numbers (shorten net k vectors allowed list) = 5 ∷ 6 ∷ 17 ∷ 20 ∷ 7 ∷ 8 ∷ 12 ∷ 13 ∷ []
numbers (respond net owners k vectors state list) = 5 ∷ 21 ∷ 6 ∷ 17 ∷ 20 ∷ 7 ∷ 8 ∷ 11 ∷ 12 ∷ []
numbers (diagnose net owners k vectors responses list) = 5 ∷ 21 ∷ 6 ∷ 17 ∷ 20 ∷ 7 ∷ 8 ∷ 9 ∷ 10 ∷ 12 ∷ 13 ∷ 14 ∷ []
numbers (find net owners state table) = 5 ∷ 21 ∷ 17 ∷ 20 ∷ 11 ∷ 12 ∷ []
numbers (read file vectors responses) = 1 ∷ 2 ∷ 3 ∷ 5 ∷ 6 ∷ 17 ∷ 20 ∷ 7 ∷ 8 ∷ 9 ∷ 10 ∷ 12 ∷ []
numbers (write kind net k vectors responses file) = 2 ∷ 5 ∷ 6 ∷ 17 ∷ 20 ∷ 7 ∷ 8 ∷ 9 ∷ 10 ∷ 12 ∷ []
numbers (advance session call) = session_numbers call
numbers (drive session one two) = []

-- ---- what a refusal is, and what a full result is

-- a list after a refusal is as it was; after a full result it begins with what was written and keeps its tail
abbrev pub FrontWritten : {A : Type 0} → (written lent after : List A) → Type 0
FrontWritten written lent after = after ≡ written ++ drop (length written) lent

abbrev pub RefusedFill : {A : Type 0} → List A → Filled A → ℕ → Type 0
RefusedFill lent did number = (did.returned ≡ refused number) × (did.list ≡ lent)

abbrev pub FullFill : {A : Type 0} → (List A → Type 0) → List A → Filled A → Type 0
FullFill {A} result lent did =
    (written : List A) × result written × (did.returned ≡ full (length written))
    × FrontWritten written lent did.list

-- what the rule keeps, written, and how many they are, the checks made and the floor returned
abbrev pub FullShorten : Network → (k : ℕ) → (vectors : List ℕ) → (allowed : ℕ) → (lent : List ℕ) → ShortenDone → Type 0
FullShorten net k vectors allowed lent did =
    (result : Shorter)
    × IsShorter net k vectors allowed result
    × (did.returned
    ≡ full (record { kept = length result.kept; checks = result.checks; floor = result.floor }))
    × FrontWritten result.kept lent did.list

abbrev pub FullRead : (file vectors responses : List ℕ) → ReadDone → Type 0
FullRead file vectors responses did =
    let job = content file in
    (did.returned ≡ full (record {
      network = job.network;
      class = job.class;
      kind = job.kind;
      vectors = length job.vectors;
      responses = length job.responses;
    }))
    × FrontWritten job.vectors vectors did.vectors
    × FrontWritten job.responses responses did.responses

-- an accepted call leaves the record in the session that it makes of the one before; begin takes any record
abbrev pub Before : SessionProgram → Session → Call → History → Type 0
Before program session (begin net owners list) h = Unit {0}
Before program session (first answers list) h = LeftBy program h session
Before program session (second answers) h = LeftBy program h session

abbrev pub FullAdvance : SessionProgram → Session → Call → Type 0
FullAdvance program session call =
    let did = program session call in
    (h : History)
    × (written : List ℕ)
    × Before program session call h
    × Written h call written
    × (did.answer ≡ full written)
    × FrontWritten written (lent call) did.list
    × LeftBy program (accepted h call written) did.session

-- this number, and all memory lent as it was
abbrev pub RefusedWith : Programs → PublicCall → ℕ → Type 0
RefusedWith p (own nets list) number = RefusedFill list (p.owns nets list) number
RefusedWith p (turn nets vectors list) number = RefusedFill list (p.turns nets vectors list) number
RefusedWith p (turn_back nets count words list) number = RefusedFill list (p.turns_back nets count words list) number
RefusedWith p (check net k vectors) number = p.checks net k vectors ≡ refused number
RefusedWith p (shorten net k vectors allowed list) number =
    let did = p.shortens net k vectors allowed list in (did.returned ≡ refused number) × (did.list ≡ list)
RefusedWith p (respond net owners k vectors state list) number = RefusedFill list (p.responds net owners k vectors state list) number
RefusedWith p (diagnose net owners k vectors responses list) number =
    RefusedFill list (p.diagnoses net owners k vectors responses list) number
RefusedWith p (find net owners state table) number = RefusedFill table (p.finds net owners state table) number
RefusedWith p (read file vectors responses) number =
    let did = p.reads file vectors responses in
    (did.returned ≡ refused number) × (did.vectors ≡ vectors) × (did.responses ≡ responses)
RefusedWith p (write kind net k vectors responses file) number = RefusedFill file (p.writes kind net k vectors responses file) number
RefusedWith p (advance session call) number =
    let did = p.advances session call in
    (did.answer ≡ refused number) × (did.list ≡ lent call) × (did.session ≡ session)
RefusedWith p (drive session one two) number = ⊥

-- the whole result, and a longer list keeps its tail
abbrev pub FullResult : Programs → PublicCall → Type 0
FullResult p (own nets list) = FullFill (OwnReceivers nets) list (p.owns nets list)
FullResult p (turn nets vectors list) = FullFill (Exchanged nets vectors) list (p.turns nets vectors list)
FullResult p (turn_back nets count words list) = FullFill (Exchanged count words) list (p.turns_back nets count words list)
FullResult p (check net k vectors) = (verdict : Verdict) × Rule net k vectors verdict × (p.checks net k vectors ≡ full verdict)
FullResult p (shorten net k vectors allowed list) =
    FullShorten net k vectors allowed list (p.shortens net k vectors allowed list)
FullResult p (respond net owners k vectors state list) =
    FullFill (Response net state vectors) list (p.responds net owners k vectors state list)
FullResult p (diagnose net owners k vectors responses list) =
    FullFill (Fits net (length owners) k vectors responses) list (p.diagnoses net owners k vectors responses list)
FullResult p (find net owners state table) = FullFill (Findings net owners state) table (p.finds net owners state table)
FullResult p (read file vectors responses) = FullRead file vectors responses (p.reads file vectors responses)
FullResult p (write kind net k vectors responses file) =
    FullFill (λ bytes. bytes ≡ file_of kind net k vectors responses) file (p.writes kind net k vectors responses file)
FullResult p (advance session call) = FullAdvance p.advances session call
FullResult p (drive session one two) = DrivesNext p.advances session one two (p.drives session one two)

-- ---- demand 1, whole

-- the number of the first row that holds
abbrev pub FirstRow : List (ℕ × Type 0) → ℕ → Type 0
FirstRow [] number = ⊥
FirstRow ((row, holds) ∷ rows) number = (holds × (number ≡ row)) ⊎ ((¬ holds) × FirstRow rows number)

abbrev pub RefusedOrFull : Programs → PublicCall → Type 0
RefusedOrFull p call = ((number : ℕ) × FirstRow (Rows p call) number × RefusedWith p call number) ⊎
    (NoneHolds (Rows p call) × FullResult p call)

pub record Demand1 (p : Programs) : Type 0 where
  pub each_call : (call : PublicCall) → RefusedOrFull p call
  pub by_its_rows : (call : PublicCall) → map (λ (row : ℕ × Type 0). row.0) (Rows p call) ≡ numbers call
