-- The facts of a contract's named clauses, as its `ensures` joins them, and all as one.
use Rattle.std.proofs.Common.{List, [], ◌∷◌}
use seplogic.Ra.Ura.{Ura}
use base.Logic.{SProp, ent, sep, emp, id⊢, via, comm∗, emp∗, mono∗, mono_l, fst∗, snd∗}
use types.Logic.{Logic}
use contract.Monad.{fact, fact_i, fact_mono, fact_use}
use types.Kit.{Item, Goal, Seq, Step, prop, step, raw, ◌$◌, use1}
use denote.Steps.{heard}

abbrev pub facts : {M : Type 1} (𝓤 : Ura M) → List (Type 0) → SProp 𝓤
facts 𝓤 [] = emp 𝓤
facts 𝓤 (φ ∷ []) = fact 𝓤 φ
facts 𝓤 (φ ∷ ψ ∷ φs) = sep 𝓤 (fact 𝓤 φ) (facts 𝓤 (ψ ∷ φs))

abbrev pub All : List (Type 0) → Type 0
All [] = Unit {0}
All (φ ∷ []) = φ
All (φ ∷ ψ ∷ φs) = φ × All (ψ ∷ φs)

module _ {M : Type 1} (𝓤 : Ura M) where
  pub as_one : (φs : List (Type 0)) → ent 𝓤 (facts 𝓤 φs) (fact 𝓤 (All φs))
  as_one [] = fact_i 𝓤 (Unit {0}) (emp 𝓤) tt
  as_one (φ ∷ []) = id⊢ 𝓤 (fact 𝓤 φ)
  as_one (φ ∷ ψ ∷ φs) =
      fact_use 𝓤 φ (fst∗ 𝓤 (fact 𝓤 φ) (facts 𝓤 (ψ ∷ φs)))
      (λ x. via 𝓤 (facts 𝓤 (ψ ∷ φs)) (snd∗ 𝓤 (fact 𝓤 φ) (facts 𝓤 (ψ ∷ φs)))
      (via 𝓤 (fact 𝓤 (All (ψ ∷ φs))) (as_one (ψ ∷ φs)) (fact_mono 𝓤 (All (ψ ∷ φs)) (φ × All (ψ ∷ φs)) (λ y. (x, y)))))

  each : (φs : List (Type 0)) → All φs → ent 𝓤 (emp 𝓤) (facts 𝓤 φs)
  each [] x = id⊢ 𝓤 (emp 𝓤)
  each (φ ∷ []) x = fact_i 𝓤 φ (emp 𝓤) x
  each (φ ∷ ψ ∷ φs) x = via 𝓤 (sep 𝓤 (emp 𝓤) (emp 𝓤)) (emp∗ 𝓤 (emp 𝓤)) (mono∗ 𝓤 (fact_i 𝓤 φ (emp 𝓤) x.0) (each (ψ ∷ φs) x.1))

module _ {M : Type 1} {𝓤 : Ura M} {𝓛 : Logic 𝓤} {K : Type 0} {Γ : List (Item 𝓤)} where
  -- the facts at the head of the context are learned
  open 𝓛 use {H}

  pub hears : {G : Goal 𝓤 H} → K → (φs : List (Type 0)) → (All φs → Seq K 𝓛 Γ G) → Seq K 𝓛 (raw (facts 𝓤 φs) ∷ Γ) G
  hears t φs k = use1 𝓛 (raw (fact 𝓤 (All φs))) (as_one 𝓤 φs) $ heard t (All φs) k

  -- a goal P beside the facts: they are shown, and P is left
  pub says_all : K → (φs : List (Type 0)) {P : SProp 𝓤} → All φs → Step K 𝓛 Γ (prop P) Γ (prop (sep 𝓤 P (facts 𝓤 φs)))
  says_all t φs {P} x =
      let beside : ent 𝓤 P (sep 𝓤 (facts 𝓤 φs) P) = via 𝓤 (sep 𝓤 (emp 𝓤) P) (emp∗ 𝓤 P) (mono_l 𝓤 P (each 𝓤 φs x)) in
      step (λ s. record { prf = via 𝓤 P s.prf (via 𝓤 (sep 𝓤 (facts 𝓤 φs) P) beside (comm∗ 𝓤 (facts 𝓤 φs) P)) })
