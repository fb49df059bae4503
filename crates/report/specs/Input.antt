-- What was read from standard input.
use Rattle.std.specs.Prelude.{ℕ, ◌≤◌, ◌≡◌, Result, Ok, Err}
use Rattle.report.specs.declared.Input.{Input}
use Rattle.report.specs.declared.Input.TheVariants.{Ended, Full}

-- no more bytes than there was room for, and all of them where the input did not end before
abbrev pub Within : {E : Type 0} → Result Input E → ℕ → Type 0
Within (Ok (Ended count)) room = count ≤ room
Within (Ok (Full count)) room = count ≡ room
Within (Err error) room = Unit {0}
