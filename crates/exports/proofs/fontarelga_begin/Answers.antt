use Rattle.std.proofs.Common.{ℕ, ◌≡◌, refl, ◌∙◌, List, length}
use Rattle.words.specs.Answers.{Answer}
use Rattle.session.specs.declared.Session.{Session}
use Rattle.session.specs.Calls.{Stepped, stepped, begin_answer, begun}
use Rattle.network.specs.Reading.{network_with}
use Rattle.exports.proofs.CallLaws.{answered_code, step_code, step_words}
use Rattle.exports.proofs.fontarelga_begin.Goals as goal

pub returns : goal.returns
returns c =
    let a = c.args in
    let net = network_with a.nets a.level a.gate in
    let answer : Session → Answer (List ℕ) = λ session. begin_answer net a.receivers.now (length a.first.now) in
    let done : Session → Stepped = λ session. begun session net a.receivers.now (length a.first.now) in
    let by : (session : Session) → (new : Session) × (done session ≡ stepped (answer session) new session) =
    λ session. (_, refl) in
    let held = c.session_of-held.ensures in
    let said = c.begin-answered.ensures in
    let number = c.code_of.ensures ∙ answered_code c.begin-answered.result ∙ said.code in
    record {
      answer = step_code answer done by a.session.now _ held.«record» _ number;
      session = step_words answer done by a.session.now _ held.«record» _ _ held.size said.session c.words_of.ensures;
      first = said.list;
    }
