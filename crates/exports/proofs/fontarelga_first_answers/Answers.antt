use Rattle.std.proofs.Common.{ℕ, ◌≡◌, refl, ap, ◌∙◌, List, length}
use Rattle.words.specs.Answers.{Answer, lent_after}
use Rattle.session.specs.declared.Session.{Session}
use Rattle.session.specs.Calls.{Stepped, stepped, first_answer, first_answered}
use Rattle.exports.proofs.CallLaws.{answered_code, step_code, step_words}
use Rattle.exports.proofs.fontarelga_first_answers.Goals as goal

pub returns : goal.returns
returns c =
    let a = c.args in
    let answer : Session → Answer (List ℕ) = λ session. first_answer session a.answers.now (length a.second.now) in
    let done : Session → Stepped = λ session. first_answered session a.answers.now (length a.second.now) in
    let by : (session : Session) → (new : Session) × (done session ≡ stepped (answer session) new session) =
    λ session. (_, refl) in
    let held = c.session_of-held.ensures in
    let said = c.first_answers-answered.ensures in
    let number = c.code_of.ensures ∙ answered_code c.first_answers-answered.result ∙ said.code in
    record {
      answer = step_code answer done by a.session.now _ held.«record» _ number;
      session = step_words answer done by a.session.now _ held.«record» _ _ held.size said.session c.words_of.ensures;
      second = said.list ∙ ap (λ (session : Session). lent_after (answer session) a.second.now) held.«record»;
    }
