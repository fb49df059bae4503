-- One receiver a net: every list of calls on a session, and the whole theorem.
use Rattle.std.proofs.Common.{◌≡◌, refl, ap, ap₂, ◌∙◌, List, [], ◌∷◌, map, ℕ, length}
use Rattle.words.specs.Answers.{Answer, full, lent_after}
use Rattle.network.specs.declared.Network.{Network}
use Rattle.findings.specs.declared.Finding.{Finding}
use Rattle.session.specs.declared.Session.{Session}
use Rattle.session.specs.Calls.{Stepped, stepped}
use Rattle.demands.specs.SessionCalls.{Did}
use Rattle.demands.specs.Programs.{our_sessions}
use Rattle.demands.specs.SaidAlone.{SessionAlone, stepped_alone, with_own, stepped_own, awaiting_first_alone, begin_alone}
use Rattle.demands.specs.SaidAlone.{CallAlone, begin, first, second, does_alone, own_call, all_did_alone, all_did, did_own, filled, SaidAlone}
use Rattle.demands.proofs.SaidAloneCalls.{own_not_21, responds_alone, diagnoses_alone}
use Rattle.demands.proofs.SaidAloneFindings.{finds_alone}
use Rattle.demands.proofs.SaidAloneSessions.{begin_answers_alone, begins_alone, first_answers_alone, first_steps_alone}
use Rattle.demands.proofs.SaidAloneSessions.{second_answers_alone, second_steps_alone, drives_alone, steps_same}

-- what a call did, by its answer, the list lent and the record after it
did : Answer (List ℕ) → (lent : List ℕ) → Session → Did
did answer lent session = record { answer = answer; list = lent_after answer lent; session = session }

-- ---- one call

module _ (session : SessionAlone) where
  begin_step : (net : Network) (room : ℕ)
      → stepped (begin_alone net room) (with_own (awaiting_first_alone net)) (with_own session)
      ≡ stepped_own (stepped_alone (begin_alone net room) (awaiting_first_alone net) session)
  begin_step net room =
      steps_same (begin_alone net room) (with_own (awaiting_first_alone net)) (awaiting_first_alone net) session (λ _ _. refl)

  does_same : (call : CallAlone) → our_sessions (with_own session) (own_call call) ≡ did_own (does_alone session call)
  unfolding did
  does_same (begin net list) =
      ap₂ (λ (answer : Answer (List ℕ)) (step : Stepped). did answer list step.session) (begin_answers_alone net (length list))
      (begins_alone net (length list) (with_own session) ∙ begin_step net (length list))
  does_same (first answers list) =
      ap₂ (λ (answer : Answer (List ℕ)) (step : Stepped). did answer list step.session)
      (first_answers_alone session answers (length list)) (first_steps_alone session answers (length list))
  does_same (second answers) =
      ap₂ (λ (answer : Answer (List ℕ)) (step : Stepped). did answer [] step.session) (second_answers_alone session answers)
      (second_steps_alone session answers)

-- ---- lists of calls

all_same : (session : SessionAlone) (calls : List CallAlone)
    → all_did (with_own session) calls ≡ map did_own (all_did_alone session calls)
all_same session [] = refl
all_same session (call ∷ calls) =
    ap (λ (one : Did). one ∷ all_did one.session calls) (does_same session call)
    ∙ ap (λ (later : List (Did)). did_own (does_alone session call) ∷ later) (all_same (does_alone session call).session calls)

-- an accepted begin leaves the same record, whichever it was given
begin_anew : (session : Session) (other : SessionAlone) (net : Network) (list words : List ℕ) → begin_alone net (length list) ≡ full words
    → our_sessions session (own_call (begin net list)) ≡ did_own (does_alone other (begin net list))
unfolding did stepped stepped_alone
begin_anew session other net list words accepted =
    ap₂ (λ (answer : Answer (List ℕ)) (step : Stepped). did answer list step.session) (begin_answers_alone net (length list))
    (begins_alone net (length list) session)
    ∙ rw accepted

all_from_begin : (session : Session) (other : SessionAlone) (net : Network) (list words : List ℕ) (calls : List CallAlone)
    → begin_alone net (length list) ≡ full words
    → all_did session (begin net list ∷ calls) ≡ map did_own (all_did_alone other (begin net list ∷ calls))
all_from_begin session other net list words calls accepted =
    ap (λ (one : Did). one ∷ all_did one.session calls) (begin_anew session other net list words accepted)
    ∙ ap (λ (later : List (Did)). did_own (does_alone other (begin net list)) ∷ later)
    (all_same (does_alone other (begin net list)).session calls)

-- ---- the theorem

pub said_alone : SaidAlone
said_alone = record {
  let_through = own_not_21;
  responds = λ net k vectors state lent.
      ap (λ (a : Answer (List ℕ)). filled a lent) (responds_alone net k vectors state (length lent));
  diagnoses = λ net k vectors responses lent.
      ap (λ (a : Answer (List ℕ)). filled a lent) (diagnoses_alone net k vectors responses (length lent));
  finds = λ net state lent. ap (λ (a : Answer (List Finding)). filled a lent) (finds_alone net state (length lent));
  begin_answers = begin_answers_alone;
  begins = λ session net room. begins_alone net room session;
  first_answers = first_answers_alone;
  first_steps = first_steps_alone;
  second_answers = second_answers_alone;
  second_steps = second_steps_alone;
  drives = drives_alone;
  all_calls = all_same;
  from_begin = all_from_begin;
}
