-- Beside demand 3: the test of a record is exactly row 4's, and the part to drive goes by the session that leaves the
-- record.
use Rattle.std.specs.Prelude.{ℕ, ◌≤◌, ◌<◌, ◌≡◌, ◌⊎◌, ◌↔◌, Bool, true, List, [], length, take}
use Rattle.network.specs.declared.Network.{Network}
use Rattle.session.specs.declared.Session.{Session}
use Rattle.demands.specs.SessionCalls.{Call, first, second, SessionProgram, History, waits_first, waits_second, LeftBy, Awaits}

-- accepted calls leave this record, and it waits for this call
abbrev pub WaitsFor : SessionProgram → Session → Call → Type 0
WaitsFor program session call = (h : History) × LeftBy program h session × Awaits h call

-- tests of a record that hold exactly where row 4 does not
pub record RowFour (program : SessionProgram) (first_test second_test : Session → Bool) : Type 0 where
  pub first_answers : (session : Session) (answers list : List ℕ)
      → (first_test session ≡ true) ↔ WaitsFor program session (first answers list)
  pub second_answers : (session : Session) (answers : List ℕ) → (second_test session ≡ true) ↔ WaitsFor program session (second answers)

-- this many words from the start of a list; none if it is shorter
abbrev pub Front : ℕ → List ℕ → List ℕ → Type 0
Front count list part = ((count ≤ length list) × (part ≡ take count list)) ⊎ ((length list < count) × (part ≡ []))

-- the vectors to drive next, of a record and the two lists
pub record DrivesNext (program : SessionProgram) (session : Session) (one two part : List ℕ) : Type 0 where
  pub step_one : (net : Network) (owners v1 : List ℕ) → LeftBy program (waits_first net owners v1) session → Front (length v1) one part
  pub step_two : (net : Network) (owners v1 r1 v2 : List ℕ)
      → LeftBy program (waits_second net owners v1 r1 v2) session → Front (length v2) two part
  pub otherwise : ¬ (WaitsFor program session (first [] [])) → ¬ (WaitsFor program session (second [])) → part ≡ []

-- a program for it
abbrev pub DriveProgram : Type 0
DriveProgram = Session → (one two : List ℕ) → List ℕ

abbrev pub Drives : SessionProgram → DriveProgram → Type 0
Drives program drive = (session : Session) (one two : List ℕ) → DrivesNext program session one two (drive session one two)
