-- A session's call on a lent record, against the program that demand 3 is proved of.
use Rattle.std.specs.Prelude.{ℕ, ◌≡◌, List}
use Rattle.session.specs.declared.Session.{Session}
use Rattle.exports.specs.Exported.{code}
use Rattle.demands.specs.SessionCalls.{Call}
use Rattle.demands.specs.Programs.{our_sessions}

-- the number returned, and the record after the call
abbrev pub AdvancesAsProgram : Session → Call → (number : ℕ) (after : Session) → Type 0
AdvancesAsProgram session call number after =
    let did = our_sessions session call in
    (number ≡ code did.answer) × (after ≡ did.session)

-- the list lent for vectors, after the call
abbrev pub WritesAsProgram : Session → Call → (list : List ℕ) → Type 0
WritesAsProgram session call list = list ≡ (our_sessions session call).list
