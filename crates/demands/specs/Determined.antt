-- Document 01, "Promised by each call", 1: nothing is left open. Two programs that keep a call's promise are one
-- program.
use Rattle.std.specs.Prelude.{ℕ, ◌≡◌, List}
use Rattle.words.specs.Answers.{ByTable}
use Rattle.network.specs.declared.Network.{Network}
use Rattle.network.specs.Rows.{SetRows}
use Rattle.checker.specs.Rule.{Rule}
use Rattle.findings.specs.declared.Finding.{Finding}
use Rattle.session.specs.declared.Session.{Session}
use Rattle.demands.specs.Demand2.{ResponseProgram, Responds, DiagnosisProgram, Diagnoses}
use Rattle.demands.specs.FindingsCall.{FindingsProgram, Finds}
use Rattle.demands.specs.TurnCalls.{TurnProgram, TurnBackProgram, Turns, TurnsBack}
use Rattle.demands.specs.OwnReceiversCall.{OwnReceiversProgram, Owns}
use Rattle.demands.specs.JobFiles.{WriterProgram, Writes, ReaderProgram, Reads}
use Rattle.demands.specs.SessionCalls.{Call, begin, SessionProgram, History, none, waits_first, waits_second}
use Rattle.demands.specs.SessionCalls.{finished_first, finished_second, LeftBy}
use Rattle.demands.specs.Demand3.{CheckProgram, Sessions}
use Rattle.demands.specs.ShortenCall.{ShortenProgram, Shortens}
use Rattle.demands.specs.SessionRecords.{DriveProgram, Drives}
use Rattle.demands.specs.Reports.{ReportProgram, Reports}
use Rattle.demands.specs.Programs.{our_sessions}

-- refused by the first row that holds, or the verdict of document 01's rule
abbrev pub ChecksByRule : CheckProgram → Type 0
ChecksByRule program = (net : Network) (k : ℕ) (vectors : List ℕ)
    → ByTable (SetRows net k vectors) (Rule net k vectors) (program net k vectors)

-- two calls that answer and write the same
abbrev pub DidAlike : SessionProgram → SessionProgram → Session → Session → Call → Type 0
DidAlike p q s u call = ((p s call).answer ≡ (q u call).answer) × ((p s call).list ≡ (q u call).list)

abbrev pub IsFinished : History → Type 0
IsFinished none = ⊥
IsFinished (waits_first net owners v1) = ⊥
IsFinished (waits_second net owners v1 r1 v2) = ⊥
IsFinished (finished_first net owners v1 r1 v2) = Unit {0}
IsFinished (finished_second net owners v1 r1 v2 r2) = Unit {0}

-- A record's step numbers and what it keeps between the calls are left to the program; all else is not.
pub record SessionsDetermined (p q : SessionProgram) : Type 0 where
  -- begin takes any record; the other calls go by the session that leaves the record
  pub begins : (s u : Session) (net : Network) (owners list : List ℕ) → DidAlike p q s u (begin net owners list)
  pub in_session : (h : History) (s u : Session) (call : Call) → LeftBy p h s → LeftBy q h u → DidAlike p q s u call
  pub reported : (h : History) (s u : Session) → LeftBy p h s → LeftBy q h u → IsFinished h
      → (s.network ≡ u.network) × (s.receivers ≡ u.receivers) × (s.owners ≡ u.owners) × (s.reaches ≡ u.reaches)
      × (s.spent ≡ u.spent)

pub record Determined : Type 0 where
  pub turn : (p q : TurnProgram) → Turns p → Turns q → (nets : ℕ) (vectors lent : List ℕ) → p nets vectors lent ≡ q nets vectors lent
  pub turn_back : (p q : TurnBackProgram) → TurnsBack p → TurnsBack q → (nets count : ℕ) (words lent : List ℕ)
      → p nets count words lent ≡ q nets count words lent
  pub own_receivers : (p q : OwnReceiversProgram) → Owns p → Owns q → (nets : ℕ) (lent : List ℕ) → p nets lent ≡ q nets lent
  pub response : (p q : ResponseProgram) → Responds p → Responds q → (net : Network) (owners : List ℕ) (k : ℕ)
      (vectors state lent : List ℕ) → p net owners k vectors state lent ≡ q net owners k vectors state lent
  pub check : (p q : CheckProgram) → ChecksByRule p → ChecksByRule q → (net : Network) (k : ℕ) (vectors : List ℕ)
      → p net k vectors ≡ q net k vectors
  pub shorten : (p q : ShortenProgram) → Shortens p → Shortens q → (net : Network) (k : ℕ) (vectors : List ℕ)
      (allowed : ℕ) (lent : List ℕ) → p net k vectors allowed lent ≡ q net k vectors allowed lent
  pub diagnosis : (p q : DiagnosisProgram) → Diagnoses p → Diagnoses q → (net : Network) (owners : List ℕ) (k : ℕ)
      (vectors responses lent : List ℕ) → p net owners k vectors responses lent ≡ q net owners k vectors responses lent
  pub findings : (p q : FindingsProgram) → Finds p → Finds q → (net : Network) (owners state : List ℕ) (lent : List Finding)
      → p net owners state lent ≡ q net owners state lent
  pub session : (p q : SessionProgram) → Sessions p → Sessions q → SessionsDetermined p q
  pub writer : (p q : WriterProgram) → Writes p → Writes q → (kind : ℕ) (net : Network) (k : ℕ) (vectors responses lent : List ℕ)
      → p kind net k vectors responses lent ≡ q kind net k vectors responses lent
  pub drive : (p q : DriveProgram) → Drives our_sessions p → Drives our_sessions q
      → (session : Session) (one two : List ℕ) → p session one two ≡ q session one two
  pub report : (p q : ReportProgram) → Reports p → Reports q → (file : List ℕ) → p file ≡ q file
  pub reader : (p q : ReaderProgram) → Reads p → Reads q → (file vectors responses : List ℕ)
      → p file vectors responses ≡ q file vectors responses
