use Rattle.std.proofs.Common.{sym, ap, ◌∙◌, ℕ, length}
use Rattle.steps.specs.FirstStep.{word_length}
use Rattle.steps.proofs.StepOneWords.{first_size}
use Rattle.session.specs.Drive.{front, to_drive}
use Rattle.session.proofs.Stepping.{asked_told}
use Rattle.session.proofs.drive.to_drive.Goals as goal

pub returns-in-Some : goal.returns-in-Some
unfolding to_drive
returns-in-Some c =
    let held = c.in-Some.ensures in
    rw held.0
    (c.front.ensures
    ∙ ap (λ (n : ℕ). front n c.args.first.now)
    (c.word_length-p.ensures ∙ ap word_length held.1 ∙ sym (first_size c.args.session.network)))

pub returns-in-Some-waiting_for_second : goal.returns-in-Some-waiting_for_second
unfolding to_drive
returns-in-Some-waiting_for_second c =
    let held = c.in-Some-waiting_for_second.ensures in
    let vectors = asked_told c.args.session c.in-Some-waiting_for_second.asked held.1 held.2 held.3 in
    rw (c.in_default.ensures, held.0)
    (c.front-in-Some-waiting_for_second.ensures
    ∙ ap (λ (n : ℕ). front n c.args.second.now) (c.len.ensures.value ∙ ap length vectors))

pub returns : goal.returns
unfolding to_drive
returns c = rw (c.in_default.ensures, c.in_default-waiting_for_second.ensures)
