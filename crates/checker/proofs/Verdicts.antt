-- The computed verdict is the rule's, and the rule allows no other.
use Rattle.std.proofs.Common.{◌≡◌, refl, sym, ap, ap₂, ◌∙◌, Bool, true, false, not, ◌&&◌, cond, ◌⊎◌, inl, inr, List}
use Rattle.std.proofs.Common.{ℕ, ◌^◌, ◌≤◌, ◌<◌, zero-le, arith, eqb, eq-eqb, eqb-true}
use mathlib.Core.Bool.{false≢true}
use borrow.Author.Tests.{eqb-false, not-true, not-false}
use Rattle.std.specs.Prelude.{Option}
use Rattle.std.specs.Prelude.{Some, None}
use Rattle.words.specs.Searching.{least, is_found, among}
use Rattle.words.proofs.Tests.{contrary, and_left, and_right, and_both, three_ways}
use Rattle.words.proofs.Searching.{Least, first, nowhere, least_below, decides_among}
use Rattle.network.specs.declared.Network.{Network}
use Rattle.network.specs.Reading.{all_drivers, all_but, walking_vector, extra_vector, needs_extra, sequential_response}
use Rattle.network.specs.States.{few_drivers}
use Rattle.network.proofs.Reading.{alike_sequential, sequential_alike}
use Rattle.network.proofs.States.{few_drivers_at, few_drivers_of}
use Rattle.checker.specs.declared.Verdict.{Verdict}
use Rattle.checker.specs.declared.Verdict.TheVariants.{Pass, Pair}
use Rattle.checker.specs.Rule.{Among, ExtraThere, ExtraMissing, FullRule, Confused, BoundedRule, Rule}
use Rattle.checker.specs.Rule.{smaller_alike, pair_with, pair_at, bounded_verdict, pair_without, extra_missing, full_verdict, verdict}

-- a pair is not a pass
pub pair_not_pass : {A : Type 0} {a b : ℕ} → Pair a b ≡ Pass → A
pair_not_pass e = let z : ◌≡◌ {A = ℕ} 0 1 = cc in absurd (omega arith)

-- ---- k below n

module _ (net : Network) (k : ℕ) (vectors : List ℕ) where
  -- what the two searches test
  smaller_test : ℕ → ℕ → Bool
  smaller_test b a = few_drivers net k a && eqb (sequential_response net vectors a) (sequential_response net vectors b)

  confused_test : ℕ → Bool
  confused_test b = few_drivers net k b && is_found (smaller_alike net k vectors b)

  smaller_is : (b : ℕ) → Least (smaller_test b) 0 b (smaller_alike net k vectors b)
  unfolding smaller_alike smaller_test
  smaller_is b = least_below (smaller_test b) b

  confused : (a b : ℕ) → a < b → b < 2 ^ net.nets → few_drivers net k b ≡ true → smaller_test b a ≡ true → Confused net k vectors a b
  unfolding smaller_test
  confused a b l m f e = record {
    smaller = l;
    first_set = record { inside = omega arith; few = few_drivers_at net k a (and_left (few_drivers net k a) _ e) };
    second_set = record { inside = m; few = few_drivers_at net k b f };
    read_alike = sequential_alike net vectors a b (eqb-true _ _ (and_right (few_drivers net k a) _ e));
  }

  -- where sets are confused, both searches find it
  passes_smaller : (a b : ℕ) → Confused net k vectors a b → smaller_test b a ≡ true
  unfolding smaller_test
  passes_smaller a b h = and_both (few_drivers_of net k a h.first_set) (eq-eqb _ _ (alike_sequential net vectors a b h.read_alike))

  passes_confused : (a b : ℕ) → Confused net k vectors a b → confused_test b ≡ true
  unfolding confused_test is_found
  passes_confused a b h = and_both (few_drivers_of net k b h.second_set) (go (smaller_alike net k vectors b) (smaller_is b))
    where
      go : (s : Option ℕ) → Least (smaller_test b) 0 b s → is_found s ≡ true
      go (Some x) r = refl
      go None (nowhere none) = contrary (passes_smaller a b h) (none a zero-le h.smaller)

  pub bounded_rule : BoundedRule net k vectors (bounded_verdict net k vectors)
  unfolding bounded_verdict confused_test is_found
  bounded_rule = go (least (2 ^ net.nets) 0 confused_test) (least_below confused_test (2 ^ net.nets))
    where
      at : (b : ℕ) → b < 2 ^ net.nets → confused_test b ≡ true → ((z : ℕ) → 0 ≤ z → z < b → confused_test z ≡ false)
          → (s : Option ℕ) → Least (smaller_test b) 0 b s → is_found s ≡ true → BoundedRule net k vectors (pair_with s b)
      at b l e none (Some a) (first x y z smallest) f = (
        confused a b y l (and_left (few_drivers net k b) _ e) z,
        λ c d m h. contrary (passes_confused c d h) (none d zero-le m),
        λ c m h. contrary (passes_smaller c b h) (smallest c zero-le m),
      )
      at b l e none None r f = absurd (false≢true f)

      go : (s : Option ℕ) → Least confused_test 0 (2 ^ net.nets) s → BoundedRule net k vectors (pair_at s (smaller_alike net k vectors))
      go (Some b) (first x y z none) = at b y z none (smaller_alike net k vectors b) (smaller_is b) (and_right (few_drivers net k b) _ z)
      go None (nowhere none) = λ a b h. contrary (passes_confused a b h) (none b zero-le h.second_set.inside)

  bounded_determined : (u v : Verdict) → BoundedRule net k vectors u → BoundedRule net k vectors v → u ≡ v
  bounded_determined Pass Pass p q = refl
  bounded_determined Pass (Pair a b) p q = absurd (p a b q.0)
  bounded_determined (Pair a b) Pass p q = absurd (q a b p.0)
  bounded_determined (Pair a b) (Pair c d) p q = by_second (three_ways b d)
    where
      by_first : b ≡ d → (a < c) ⊎ ((a ≡ c) ⊎ (c < a)) → Pair a b ≡ Pair c d
      by_first e (inl l) = absurd (q.2 a l (rw e at p.0))
      by_first e (inr (inl f)) = ap₂ Pair f e
      by_first e (inr (inr l)) = absurd (p.2 c l (rw e q.0))

      by_second : (b < d) ⊎ ((b ≡ d) ⊎ (d < b)) → Pair a b ≡ Pair c d
      by_second (inl l) = absurd (q.1 a b l p.0)
      by_second (inr (inl e)) = by_first e (three_ways a c)
      by_second (inr (inr l)) = absurd (p.1 c d l q.0)

-- ---- k = n

module _ (net : Network) (vectors : List ℕ) where
  lacks : ℕ → Bool
  lacks i = not (among (walking_vector net i) vectors)

  present : (word : ℕ) → among word vectors ≡ true → Among word vectors
  present word e = (decides_among word vectors).0 e

  absent : (word : ℕ) → among word vectors ≡ false → ¬ (Among word vectors)
  absent word e = (decides_among word vectors).1 e

  extra_there : extra_missing net vectors ≡ false → ExtraThere net vectors
  unfolding extra_missing
  extra_there e s = present (extra_vector net) (not-false _ (rw s at e))

  is_missing : extra_missing net vectors ≡ true → ExtraMissing net vectors
  unfolding extra_missing
  is_missing e =
      (and_left (needs_extra net) _ e, absent (extra_vector net) (not-true _ (and_right (needs_extra net) _ e)))

  full_rule : FullRule net vectors (full_verdict net vectors)
  unfolding full_verdict lacks
  full_rule = go (extra_missing net vectors) refl
    where
      by_net : extra_missing net vectors ≡ false → (s : Option ℕ) → Least lacks 0 net.nets s
          → FullRule net vectors (pair_without net s)
      by_net e (Some i) (first x y z none) =
          inr (
            extra_there e,
            (
              i,
              y,
              absent (walking_vector net i) (not-true _ z),
              λ j l. present (walking_vector net j)
                  (not-false _ (none j zero-le l)),
              refl,
              refl,
            ),
          )
      by_net e None (nowhere none) =
          (extra_there e, λ i l. present (walking_vector net i) (not-false _ (none i zero-le l)))

      go : (t : Bool) → extra_missing net vectors ≡ t
          → FullRule net vectors (cond t (Pair 0 (all_drivers net)) (pair_without net (least net.nets 0 lacks)))
      go true e = inl (is_missing e, refl, refl)
      go false e = by_net e (least net.nets 0 lacks) (least_below lacks net.nets)

  full_determined : (u v : Verdict) → FullRule net vectors u → FullRule net vectors v → u ≡ v
  full_determined Pass Pass p q = refl
  full_determined Pass (Pair a b) p (inl (none, x, y)) = absurd (none.1 (p.0 none.0))
  full_determined Pass (Pair a b) p (inr (some, (i, l, none, smaller, x, y))) = absurd (none (p.1 i l))
  full_determined (Pair a b) Pass (inl (none, x, y)) q = absurd (none.1 (q.0 none.0))
  full_determined (Pair a b) Pass (inr (some, (i, l, none, smaller, x, y))) q = absurd (none (q.1 i l))
  full_determined (Pair a b) (Pair c d) (inl (none, x, y)) (inl (none', x', y')) = ap₂ Pair (x ∙ sym x') (y ∙ sym y')
  full_determined (Pair a b) (Pair c d) (inl (none, x, y)) (inr (some, rest)) = absurd (none.1 (some none.0))
  full_determined (Pair a b) (Pair c d) (inr (some, rest)) (inl (none, x, y)) = absurd (none.1 (some none.0))
  full_determined (Pair a b) (Pair c d) (inr (some, (i, l, none, smaller, x, y)))
      (inr (some', (j, m, none', smaller', x', y'))) = go (three_ways i j)
    where
      go : (i < j) ⊎ ((i ≡ j) ⊎ (j < i)) → Pair a b ≡ Pair c d
      go (inl s) = absurd (none (smaller' i s))
      go (inr (inl e)) = ap₂ Pair (x ∙ ap (all_but net) e ∙ sym x') (y ∙ sym y')
      go (inr (inr s)) = absurd (none' (smaller j s))

-- ---- the rule

module _ (net : Network) (k : ℕ) (vectors : List ℕ) where
  pub verdict_rule : Rule net k vectors (verdict net k vectors)
  unfolding verdict
  verdict_rule = go (eqb k net.nets) refl
    where
      go : (t : Bool) → eqb k net.nets ≡ t → Rule net k vectors (cond t (full_verdict net vectors) (bounded_verdict net k vectors))
      go true e = inl (eqb-true k net.nets e, full_rule net vectors)
      go false e = inr (eqb-false k net.nets e, bounded_rule net k vectors)

  pub rule_determined : (u v : Verdict) → Rule net k vectors u → Rule net k vectors v → u ≡ v
  rule_determined u v (inl (e, p)) (inl (f, q)) = full_determined net vectors u v p q
  rule_determined u v (inl (e, p)) (inr (f, q)) = absurd (f e)
  rule_determined u v (inr (e, p)) (inl (f, q)) = absurd (e f)
  rule_determined u v (inr (e, p)) (inr (f, q)) = bounded_determined net k vectors u v p q
