-- The contracts of the session's calls on a lent record, whoever calls them: each asks nothing, and what it ensures is
-- what the program does.
use Rattle.std.proofs.Common.{◌≡◌, ◌∙◌, ℕ, List, [], ◌∷◌, length}
use seplogic.Ra.Ura.{Ura}
use base.Logic.{SProp, ent, emp, id⊢, via}
use prog.Memory.{Memory}
use prog.Routine.{Routine}
use types.Logic.{Logic}
use contract.Lifetimes.{Lfts}
use contract.Monad.{Fun, fact, fact_mono}
use denote.Bor.{Bor}
use denote.MutBor.{MutBor}
use denote.Triple.Clauses.{at_exit}
use Rattle.std.specs.Prelude.{Result}
use Rattle.words.specs.Answers.{lent_after}
use Rattle.words.proofs.Clauses.{facts, All, as_one}
use Rattle.network.specs.declared.Network.{Network}
use Rattle.network.specs.declared.refusal.Refusal.{Refusal}
use Rattle.session.specs.declared.Session.{Session}
use Rattle.session.specs.Calls.{code_of, begin_answer, begun, first_answer, first_answered, second_answered}
use Rattle.session.specs.contracts.begin as Begin
use Rattle.session.specs.contracts.first_answers as First
use Rattle.session.specs.contracts.second_answers as Second
use Rattle.exports.proofs.CallLaws.{stepped_code}
use Rattle.demands.specs.SessionCalls.{begin, first, second}
use Rattle.agreement.specs.LentCalls.{AdvancesAsProgram, WritesAsProgram}

-- what each call takes
abbrev BeginTaken : Type 0
BeginTaken = MutBor Session × (Network × (Bor (List ℕ) × (MutBor (List ℕ) × Unit {0})))

abbrev FirstTaken : Type 0
FirstTaken = MutBor Session × (Bor (List ℕ) × (MutBor (List ℕ) × Unit {0}))

abbrev SecondTaken : Type 0
SecondTaken = MutBor Session × (Bor (List ℕ) × Unit {0})

module _ {M : Type 1} {𝓤 : Ura M} (𝓛 : Logic 𝓤) (at_mem : Memory → SProp 𝓤) (run : Routine → Fun 𝓤)
    (session : MutBor Session) (after : Session) (answered : Result (Unit {0}) Refusal) where
  -- what the clauses ensure, taken as one, tells this
  tells : (φs : List (Type 0)) (said : Type 0) → (All φs → said) → ent 𝓤 (facts 𝓤 φs) (fact 𝓤 said)
  tells φs said f = via 𝓤 (fact 𝓤 (All φs)) (as_one 𝓤 φs) (fact_mono 𝓤 (All φs) said f)

  -- nothing is asked, and what is ensured is this
  abbrev Says : (asked ensured : SProp 𝓤) → Type 0 → Type 1
  Says asked ensured said = ent 𝓤 (emp 𝓤) asked × ent 𝓤 ensured (fact 𝓤 said)

  pub begin_does : (κs : Lfts 3) (net : Network) (receivers : Bor (List ℕ)) (list : MutBor (List ℕ)) (filled : List ℕ)
      → let taken : BeginTaken = (session, (net, (receivers, (list, tt)))) in
      let contract = Begin.clauses 𝓛 at_mem run κs taken in
      Says (contract.requires tt)
      (contract.ensures tt answered (at_exit Begin.ended κs taken (after, (tt, (tt, (filled, tt))))))
      (let call = begin net receivers.now list.now in
      AdvancesAsProgram session.now call (code_of answered) after × WritesAsProgram session.now call filled)
  begin_does κs net receivers list filled =
      let room = length list.now in
      let done = begun session.now net receivers.now room in
      let clauses : List (Type 0) =
      (after ≡ done.session) ∷ (code_of answered ≡ done.code)
      ∷ (filled ≡ lent_after (begin_answer net receivers.now room) list.now) ∷ [] in
      (id⊢ 𝓤 _, tells clauses _ (λ said. ((said.1.0 ∙ stepped_code _ _ _, said.0), said.1.1)))

  pub first_answers_does : (κs : Lfts 3) (answers : Bor (List ℕ)) (list : MutBor (List ℕ)) (filled : List ℕ)
      → let taken : FirstTaken = (session, (answers, (list, tt))) in
      let contract = First.clauses 𝓛 at_mem run κs taken in
      Says (contract.requires tt) (contract.ensures tt answered (at_exit First.ended κs taken (after, (tt, (filled, tt)))))
      (let call = first answers.now list.now in
      AdvancesAsProgram session.now call (code_of answered) after × WritesAsProgram session.now call filled)
  first_answers_does κs answers list filled =
      let room = length list.now in
      let done = first_answered session.now answers.now room in
      let clauses : List (Type 0) =
      (after ≡ done.session) ∷ (code_of answered ≡ done.code)
      ∷ (filled ≡ lent_after (first_answer session.now answers.now room) list.now) ∷ [] in
      (id⊢ 𝓤 _, tells clauses _ (λ said. ((said.1.0 ∙ stepped_code _ _ _, said.0), said.1.1)))

  -- no list is lent
  pub second_answers_does : (κs : Lfts 2) (answers : Bor (List ℕ))
      → let taken : SecondTaken = (session, (answers, tt)) in
      let contract = Second.clauses 𝓛 at_mem run κs taken in
      Says (contract.requires tt) (contract.ensures tt answered (at_exit Second.ended κs taken (after, (tt, tt))))
      (AdvancesAsProgram session.now (second answers.now) (code_of answered) after)
  second_answers_does κs answers =
      let done = second_answered session.now answers.now in
      let clauses : List (Type 0) = (after ≡ done.session) ∷ (code_of answered ≡ done.code) ∷ [] in
      (id⊢ 𝓤 _, tells clauses _ (λ said. (said.1 ∙ stepped_code _ _ _, said.0)))
