-- Each of two programs fails demand 1 at one small input that it refuses.
use Rattle.std.proofs.Common.{ℕ, arith, ◌≡◌, refl, ap, ⊎_elim, List, [], ◌∷◌}
use Rattle.words.specs.Bits.{at}
use Rattle.words.proofs.Answers.{refused_not_full}
use Rattle.session.specs.declared.Session.{Session}
use Rattle.session.specs.Record.{awaiting_second}
use Rattle.session.specs.Open.{open_session}
use Rattle.reader.specs.Open.{open_reader}
use Rattle.demands.specs.SessionCalls.{second}
use Rattle.demands.specs.Demand1.{read, advance, Demand1}
use Rattle.demands.specs.Programs.{our_reader, our_sessions}
use Rattle.demands.specs.Starred.{own, two}
use Rattle.demands.specs.Refuted.{ours_but, clears_vectors, starts_again}

-- an empty file
pub vectors_cleared : ¬ (Demand1 (ours_but clears_vectors our_sessions))
unfolding open_reader
vectors_cleared claim =
    ⊎_elim (λ w. let z : ◌≡◌ {A = ℕ} 0 9 = ap (λ (ws : List ℕ). at ws 0) w.2.1 in omega arith)
    (λ w. refused_not_full {number = 1} refl w.1.0) (claim.each_call (read [] (9 ∷ []) []))

-- no second answers, where three are awaited
pub started_again : ¬ (Demand1 (ours_but our_reader starts_again))
unfolding open_session
started_again claim =
    ⊎_elim (λ w. let z : ◌≡◌ {A = ℕ} 1 2 = ap (λ (s : Session). s.step) w.2.2 in omega arith)
    (λ w. refused_not_full {number = 9} refl w.1.4)
    (claim.each_call (advance (awaiting_second two (own two) (3 ∷ 3 ∷ [])) (second [])))
