-- The part to drive: nothing is left open.
use Rattle.std.proofs.Common.{ℕ, arith, ◌≡◌, sym, ◌∙◌, subst, inl, inr, ⊎_elim, true, false, List, []}
use Rattle.words.proofs.Tests.{cases, contrary}
use Rattle.session.specs.declared.Session.{Session}
use Rattle.session.specs.Record.{awaits_first, awaits_second}
use Rattle.demands.specs.SessionCalls.{first, second, History, LeftBy}
use Rattle.demands.specs.SessionRecords.{WaitsFor, Front, DriveProgram, Drives}
use Rattle.demands.specs.Programs.{our_sessions}
use Rattle.demands.proofs.Sessions.{row_four}

front_determined : (count : ℕ) (list a b : List ℕ) → Front count list a → Front count list b → a ≡ b
front_determined count list a b (inl (l, e)) (inl (m, f)) = e ∙ sym f
front_determined count list a b (inl (l, e)) (inr (m, f)) = absurd (omega arith)
front_determined count list a b (inr (l, e)) (inl (m, f)) = absurd (omega arith)
front_determined count list a b (inr (l, e)) (inr (m, f)) = e ∙ sym f

-- by what the record waits for
pub drive_determined : (p q : DriveProgram) → Drives our_sessions p → Drives our_sessions q
    → (session : Session) (one two : List ℕ) → p session one two ≡ q session one two
drive_determined p q f g session one two =
    ⊎_elim step_one (λ e. ⊎_elim step_two (λ d. neither e d) (cases (awaits_second session)))
    (cases (awaits_first session))
  where
    step_one : awaits_first session ≡ true → p session one two ≡ q session one two
    step_one e =
        let w = (row_four.first_answers session [] []).0 e in
        let left = subst (λ (h : History). LeftBy our_sessions h session) w.2.3 w.1 in
        front_determined _ one _ _ ((f session one two).step_one w.2.0 w.2.1 w.2.2 left)
        ((g session one two).step_one w.2.0 w.2.1 w.2.2 left)

    step_two : awaits_second session ≡ true → p session one two ≡ q session one two
    step_two e =
        let w = (row_four.second_answers session []).0 e in
        let y = w.2 in
        let left = subst (λ (h : History). LeftBy our_sessions h session) y.5 w.1 in
        front_determined _ two _ _ ((f session one two).step_two y.0 y.1 y.2 y.3 y.4 left)
        ((g session one two).step_two y.0 y.1 y.2 y.3 y.4 left)

    neither : awaits_first session ≡ false → awaits_second session ≡ false → p session one two ≡ q session one two
    neither e d =
        let no_first : ¬ (WaitsFor our_sessions session (first [] [])) = λ w. contrary ((row_four.first_answers session [] []).1 w) e in
        let no_second : ¬ (WaitsFor our_sessions session (second [])) = λ w. contrary ((row_four.second_answers session []).1 w) d in
        (f session one two).otherwise no_first no_second ∙ sym ((g session one two).otherwise no_first no_second)
