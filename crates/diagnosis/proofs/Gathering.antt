-- Reading back for k = n: the drivers gathered from the answers to the walking vectors.
use Rattle.std.proofs.Common.{◌≡◌, refl, sym, ap, ap₂, ◌∙◌, subst, Bool, true, false, not, ◌&&◌, ◌||◌, ◌⊎◌, inl, inr}
use Rattle.std.proofs.Common.{⊎_elim, ◌≢◌, List, ℕ, ◌-◌, ◌^◌, ◌<◌, bit_or, eqb, length, pow_pos, eq-eqb, eqb-true}
use lib.Bits.{or_lt}
use Rattle.words.specs.Bits.{has, at}
use Rattle.words.proofs.Tests.{cases, contrary, or_false, or_cases, or_right, same_truth}
use Rattle.words.proofs.Bits.{words_equal, has_zero, has_power, has_without, has_or}
use Rattle.network.specs.declared.Network.{Network}
use Rattle.network.specs.Reading.{active, walking_vector, extra_vector, needs_extra, reads}
use Rattle.network.specs.Joint.{ActiveBits}
use Rattle.network.proofs.Reading.{active_soft, reads_floating, reads_walking, reads_walking_all, reads_extra, active_answers}
use Rattle.network.proofs.Walking.{Names}
use Rattle.checker.specs.declared.Verdict.TheVariants.{Pass}
use Rattle.checker.specs.Rule.{FullRule, Rule}
use Rattle.checker.specs.Seen.{OnlyAnswer}
use Rattle.diagnosis.specs.Walking.{active_answer, Gathered, Walked}

module _ (net : Network) (vectors : List ℕ) (bits : ℕ) where
  -- what is gathered while the active answers in `rest` are still to be looked at; all of them are the bits
  pub record Gathering (rest reach : ℕ) : Type 0 where
    pub seen : ℕ
    pub parts : (u : ℕ) → has bits u ≡ has seen u || has rest u
    pub so_far : Gathered net vectors (has seen) (length vectors) reach

  pub gathering_first : Gathering bits 0
  gathering_first = record {
    seen = 0;
    parts = λ u. rw (has_zero u);
    so_far = record {
      inside = pow_pos net.nets;
      driven = λ u l e s. contrary e (has_zero u);
      sound = λ j l e. contrary e (has_zero j);
      complete = λ j u l m w e. contrary e (has_zero u);
    };
  }

  -- one of two parts moved to the other
  moved : (a b c : Bool) → (c ≡ true → b ≡ true) → a || b ≡ (a || c) || (b && not c)
  moved true b c h = refl
  moved false b true h = h refl
  moved false true false h = refl
  moved false false false h = refl

  pub gathering_next : (t rest reach set : ℕ) → Gathering rest reach → t < length vectors → has rest t ≡ true
      → (needs_extra net ≡ true → at vectors t ≢ extra_vector net) → Names net (at vectors t) set
      → Gathering (rest - 2 ^ t) (bit_or reach set)
  gathering_next t rest reach set w lt on other (inside, names) = record {
    seen = bit_or w.seen (2 ^ t);
    parts = λ u. w.parts u
        ∙ moved (has w.seen u) (has rest u) (eqb t u) (λ e. ap (has rest) (sym (eqb-true t u e)) ∙ on)
        ∙ ap₂ (λ (a b : Bool). a || b) (sym (now_seen u)) (sym (has_without t rest u on));
    so_far = record {
      inside = or_lt net.nets reach set g.inside inside;
      driven = λ u l e s.
          ⊎_elim (λ f. g.driven u l f s) (λ q. subst (λ (x : ℕ). at vectors x ≢ extra_vector net) q (other s)) (seen_at u e);
      sound = λ j l e. from j l (or_cases (has reach j) (has set j) (sym (has_or reach set j) ∙ e));
      complete = λ j u l m v e. has_or reach set j ∙ ⊎_elim
          (λ f. ap (λ (x : Bool). x || has set j) (g.complete j u l m v f))
          (λ q. or_right (has reach j) (has set j) ((names j l).1 (ap (at vectors) q ∙ v))) (seen_at u e);
    };
  }
    where
      g : Gathered net vectors (has w.seen) (length vectors) reach
      g = w.so_far

      now_seen : (u : ℕ) → has (bit_or w.seen (2 ^ t)) u ≡ has w.seen u || eqb t u
      now_seen u = has_or w.seen (2 ^ t) u ∙ ap (λ (b : Bool). has w.seen u || b) (has_power t u)

      seen_at : (u : ℕ) → has (bit_or w.seen (2 ^ t)) u ≡ true → (has w.seen u ≡ true) ⊎ (t ≡ u)
      seen_at u e = ⊎_elim inl (λ q. inr (eqb-true t u q)) (or_cases (has w.seen u) (eqb t u) (sym (now_seen u) ∙ e))

      from : (j : ℕ) → j < net.nets → (has reach j ≡ true) ⊎ (has set j ≡ true)
          → (u : ℕ) × (u < length vectors) × (at vectors u ≡ walking_vector net j) × (has (bit_or w.seen (2 ^ t)) u ≡ true)
      from j l (inl e) =
          let r = g.sound j l e in
          (r.0, r.1, r.2, now_seen r.0 ∙ ap (λ (b : Bool). b || eqb t r.0) r.3)
      from j l (inr e) = (t, lt, (names j l).0 e, now_seen t ∙ or_right (has w.seen t) (eqb t t) (eq-eqb t t refl))

  -- none is left
  pub gathering_last : (answered rest reach : ℕ) → ActiveBits net (length vectors) answered bits → Gathering rest reach
      → ((u : ℕ) → u < length vectors → has rest u ≡ false)
      → Gathered net vectors (active_answer net answered) (length vectors) reach
  gathering_last answered rest reach shown w none = record {
    inside = g.inside;
    driven = λ u l e. g.driven u l (sym (same u l) ∙ e);
    sound = λ j l e. let r = g.sound j l e in (r.0, r.1, r.2, same r.0 r.1 ∙ r.3);
    complete = λ j u l m v e. g.complete j u l m v (sym (same u m) ∙ e);
  }
    where
      g : Gathered net vectors (has w.seen) (length vectors) reach
      g = w.so_far

      same : (u : ℕ) → u < length vectors → active_answer net answered u ≡ has w.seen u
      same u l = sym (shown u l) ∙ w.parts u ∙ ap (λ (b : Bool). has w.seen u || b) (none u l) ∙ or_false (has w.seen u)

module _ (net : Network) (vectors : List ℕ) (answered : ℕ) where
  -- a set whose active readings are the active answers
  abbrev pub ActiveAnswers : ℕ → Type 0
  ActiveAnswers set = (t : ℕ) → t < length vectors → active net (reads net set (at vectors t)) ≡ active_answer net answered t

  -- is the one shown, if the extra vector, where there is one, and the walking vectors of its drivers are there
  module _ (set reach : ℕ) (answers : ActiveAnswers set) (inside : set < 2 ^ net.nets)
      (extra : needs_extra net ≡ true → (t : ℕ) × (t < length vectors) × (at vectors t ≡ extra_vector net))
      (walking : (j : ℕ) → j < net.nets → has set j ≡ true → (t : ℕ) × (t < length vectors) × (at vectors t ≡ walking_vector net j)) where
    answer_to : (t word : ℕ) → t < length vectors → at vectors t ≡ word
        → active_answer net answered t ≡ active net (reads net set word)
    answer_to t word l e = sym (answers t l) ∙ ap (λ (v : ℕ). active net (reads net set v)) e

    gathered_is : Gathered net vectors (active_answer net answered) (length vectors) reach → set ≡ reach
    gathered_is g =
        words_equal net.nets set reach inside g.inside
        (λ j l. same_truth (has set j) (has reach j) (λ e. to j l e (walking j l e)) (λ e. back j l (g.sound j l e)))
      where
        driven : needs_extra net ≡ true → set ≢ 0
        driven s e =
            let x = extra s in
            g.driven x.0 x.1
            (answer_to x.0 _ x.1 refl ∙ ap (λ (y : ℕ). active net (reads net y (at vectors x.0))) e
            ∙ ap (active net) (reads_floating net (at vectors x.0)) ∙ active_soft net ∙ s) s x.2

        shown : (j : ℕ) → j < net.nets → active net (reads net set (walking_vector net j)) ≡ has set j
        shown j l = ⊎_elim (λ s. reads_walking net set j l (driven s)) (λ s. reads_walking_all net s set j l) (cases (needs_extra net))

        at_walking : (j u : ℕ) → j < net.nets → u < length vectors → at vectors u ≡ walking_vector net j
            → active_answer net answered u ≡ has set j
        at_walking j u l m w = answer_to u _ m w ∙ shown j l

        to : (j : ℕ) → j < net.nets → has set j ≡ true
            → (t : ℕ) × (t < length vectors) × (at vectors t ≡ walking_vector net j) → has reach j ≡ true
        to j l e (t, m, w) = g.complete j t l m w (at_walking j t l m w ∙ e)

        back : (j : ℕ) → j < net.nets
            → (u : ℕ) × (u < length vectors) × (at vectors u ≡ walking_vector net j) × (active_answer net answered u ≡ true)
            → has set j ≡ true
        back j l (u, m, w, e) = sym (at_walking j u l m w) ∙ e

    pub walked_is : Walked net vectors answered reach → set ≡ reach
    walked_is (inl (t, l, s, e, on, none)) =
        eqb-true set 0 (sym (reads_extra net s set) ∙ sym (answer_to t _ l e) ∙ on) ∙ sym none
    walked_is (inr g) = gathered_is g

-- for k = n the rule is the one for k = n
pub full_of_rule : (net : Network) (vectors : List ℕ) → Rule net net.nets vectors Pass → FullRule net vectors Pass
full_of_rule net vectors (inl (e, r)) = r
full_of_rule net vectors (inr (e, r)) = absurd (e refl)

-- there no other set can have answered so
pub walked_only : (net : Network) (vectors : List ℕ) (answered reach : ℕ) → FullRule net vectors Pass → Walked net vectors answered reach
    → OnlyAnswer net net.nets vectors answered reach
walked_only net vectors answered reach (extra, walking) w set d e =
    walked_is net vectors answered set reach (active_answers net vectors set answered e) d.inside extra (λ j l on. walking j l) w
