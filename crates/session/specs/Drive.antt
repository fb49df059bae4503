-- The vectors to drive next.
use Rattle.std.specs.Prelude.{ℕ, cond, List, [], leb, length, take}
use Rattle.steps.specs.FirstStep.{first_vectors}
use Rattle.steps.specs.SecondStep.{second_vectors}
use Rattle.session.specs.declared.Session.{Session}
use Rattle.session.specs.Record.{held_owners, held_answers, awaits_first, awaits_second}

-- this many words from the start of a list, or none if it is shorter
abbrev pub front : ℕ → List ℕ → List ℕ
front count words = cond (leb count (length words)) (take count words) []

-- of the first list or of the second, by what the record waits for
unfoldable pub to_drive : Session → (first second : List ℕ) → List ℕ
to_drive session first second =
    let settle =
    front (length (second_vectors session.network (held_owners session) (held_answers session))) second in
    cond (awaits_first session) (front (length (first_vectors session.network)) first) (cond (awaits_second session) settle [])
