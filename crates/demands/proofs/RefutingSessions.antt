-- Each wrong session program fails demand 3 on one short list of calls.
use Rattle.std.proofs.Common.{ℕ, arith, ◌≡◌, refl, sym, ap, ◌∙◌, subst, inl, inr, ⊎_elim, List, [], ◌∷◌, take}
use Rattle.words.specs.Answers.{NoneHolds}
use Rattle.words.specs.Bits.{at}
use Rattle.words.proofs.Answers.{table_not_refused}
use Rattle.network.specs.declared.Network.{Network}
use Rattle.network.specs.States.{State}
use Rattle.network.specs.Rows.{Row21}
use Rattle.network.proofs.States.{test→state}
use Rattle.network.proofs.Rows.{admitted_receivers}
use Rattle.network.proofs.OwnReceivers.{own_admitted}
use Rattle.steps.specs.FirstStep.{first_vectors}
use Rattle.session.specs.declared.Session.{Session}
use Rattle.session.specs.Open.{open_session}
use Rattle.demands.specs.SessionCalls.{Call, begin, first, second, SessionProgram, History, finished_first}
use Rattle.demands.specs.SessionCalls.{finished_second, history, record_after}
use Rattle.demands.specs.Demand3.{BeginRows, Ended, Sessions}
use Rattle.demands.specs.Starred.{own, two, junk}
use Rattle.demands.specs.Refuted.{guesses, ignores_second_answers, counts_itself, refuses_every_begin}
use Rattle.demands.specs.Refuted.{writes_uncounted, writes_no_vectors}

-- row 21 lets a receiver a net through
pub own_two : ¬ (Row21 two (own two))
own_two = admitted_receivers two (own two) (own_admitted two (omega arith))

-- begin, with room for the two vectors of step one
abbrev begins_two : Call
begins_two = begin two (own two) (9 ∷ 9 ∷ [])

-- a session in which both nets are unclear, with these second answers; and one with none unclear
abbrev unclear_calls : List ℕ → List Call
unclear_calls answers = begins_two ∷ first (3 ∷ 3 ∷ []) (9 ∷ 9 ∷ 9 ∷ []) ∷ second answers ∷ []

abbrev clear_calls : List Call
clear_calls = begins_two ∷ first (1 ∷ 2 ∷ []) (9 ∷ []) ∷ []

-- these two, as the calls tell them: with second answers that are accepted, and with what first answers wrote
abbrev unclear_history : List ℕ → History
unclear_history answers = finished_second two (own two) (1 ∷ 2 ∷ []) (3 ∷ 3 ∷ []) (0 ∷ 1 ∷ 2 ∷ []) answers

abbrev clear_history : List ℕ → History
clear_history written = finished_first two (own two) (1 ∷ 2 ∷ []) (1 ∷ 2 ∷ []) written

-- what the claim says at the end of a list of calls
ended_so : (program : SessionProgram) → Sessions program → (calls : List Call) (h : History)
    → history program junk calls ≡ h → Ended h (record_after program junk calls)
ended_so program claim calls h e = subst (λ (x : History). Ended x (record_after program junk calls)) e (claim junk calls).ended

-- ---- guesses

-- both float; all is joined; and what these two answer to step two
both_float : State two two.nets 2 (0 ∷ 0 ∷ [])
unfolding open_session
both_float = test→state two two.nets 2 (0 ∷ 0 ∷ []) refl

all_joined : State two two.nets 2 (3 ∷ 3 ∷ [])
unfolding open_session
all_joined = test→state two two.nets 2 (3 ∷ 3 ∷ []) refl

abbrev floating_answers : List ℕ
floating_answers = 3 ∷ 3 ∷ 3 ∷ []

abbrev joined_answers : List ℕ
joined_answers = 0 ∷ 3 ∷ 3 ∷ []

-- a program that accepts both, and leaves the same record
same_record : (program : SessionProgram)
    → history program junk (unclear_calls floating_answers) ≡ unclear_history floating_answers
    → history program junk (unclear_calls joined_answers) ≡ unclear_history joined_answers
    → record_after program junk (unclear_calls floating_answers) ≡ record_after program junk (unclear_calls joined_answers)
    → ¬ (Sessions program)
unfolding open_session
same_record program floating joined same claim =
    let a = ended_so program claim (unclear_calls floating_answers) (unclear_history floating_answers) floating in
    let b = ended_so program claim (unclear_calls joined_answers) (unclear_history joined_answers) joined in
    let p = a.state.only (0 ∷ 0 ∷ []) (both_float, refl, refl) in
    let q = b.state.only (3 ∷ 3 ∷ []) (all_joined, refl, refl) in
    let z : ◌≡◌ {A = ℕ} 0 3 = ap (λ (ws : List ℕ). at ws 0) (p ∙ ap (λ (s : Session). take 2 s.reaches) same ∙ sym q) in omega arith

pub guessed : (guess : Network → List ℕ → List ℕ) → ¬ (Sessions (guesses guess))
unfolding open_session
guessed guess = same_record (guesses guess) refl refl refl

pub second_ignored : (guess : Network → List ℕ → List ℕ) → ¬ (Sessions (ignores_second_answers guess))
unfolding open_session
second_ignored guess = same_record (ignores_second_answers guess) refl refl refl

-- ---- the others

pub counted_itself : (count : ℕ) → ¬ (Sessions (counts_itself count))
unfolding open_session
counted_itself count claim =
    let a = ended_so (counts_itself count) claim clear_calls (clear_history []) refl in
    let b = ended_so (counts_itself count) claim (unclear_calls floating_answers) (unclear_history floating_answers) refl in
    let p : count ≡ 2 = a.count in
    let q : count ≡ 5 = b.count in omega arith

pub refuses_begins : (number : ℕ) → ¬ (Sessions (refuses_every_begin number))
unfolding open_session
refuses_begins number claim =
    let free : NoneHolds (BeginRows two (own two) (9 ∷ 9 ∷ [])) = (
      λ r. ⊎_elim (λ l. omega arith) (λ l. omega arith) r,
      (own_two, (λ r. r (inr refl), (λ r. r (inl refl), (λ l. omega arith, tt)))),
    ) in
    table_not_refused (λ (words : List ℕ). words ≡ first_vectors two) (BeginRows two (own two) (9 ∷ 9 ∷ [])) number free
    (((claim junk (begins_two ∷ [])).each [] [] begins_two refl).begins two (own two) (9 ∷ 9 ∷ []) refl)

pub uncounted : ¬ (Sessions writes_uncounted)
unfolding open_session
uncounted claim =
    let a = ended_so writes_uncounted claim clear_calls (clear_history (0 ∷ [])) refl in
    let p : ◌≡◌ {A = ℕ} 2 3 = a.count in omega arith

pub no_vectors : ¬ (Sessions writes_no_vectors)
unfolding open_session
no_vectors claim =
    let e : ◌≡◌ {A = List ℕ} (9 ∷ 9 ∷ []) (1 ∷ 2 ∷ []) =
    ((claim junk (begins_two ∷ [])).each [] [] begins_two refl).list_after in
    let z : ◌≡◌ {A = ℕ} 9 1 = ap (λ (ws : List ℕ). at ws 0) e in omega arith
