-- Laws of Boolean tests.
use Rattle.std.proofs.Common.{◌≡◌, refl, sym, ap, ◌∙◌, Bool, true, false, not, ◌&&◌, ◌||◌, cond, true≢false, ◌⊎◌, ◌≢◌}
use Rattle.std.proofs.Common.{inl, inr, ⊎_elim, ℕ, ◌≤◌, ◌<◌, eq-or-lt_of_le, ltb, leb, eqb, ltb-true, ltb-false}
use Rattle.std.proofs.Common.{leb-true, eqb-true}
use mathlib.Core.Bool.{false≢true}
use borrow.Author.Tests.{eqb-false}
use Rattle.words.specs.Answers.{Decides}

pub cases : (b : Bool) → (b ≡ true) ⊎ (b ≡ false)
cases true = inl refl
cases false = inr refl

-- a test that both passes and fails
pub contrary : {A : Type 0} {b : Bool} → b ≡ true → b ≡ false → A
contrary p q = absurd (true≢false (sym p ∙ q))

pub not_not : (b : Bool) → not (not b) ≡ b
not_not true = refl
not_not false = refl

pub not_equal : (a b : Bool) → not a ≡ not b → a ≡ b
not_equal a b e = sym (not_not a) ∙ ap not e ∙ not_not b

pub and_left : (a b : Bool) → a && b ≡ true → a ≡ true
and_left true b e = refl
and_left false b e = e

pub and_right : (a b : Bool) → a && b ≡ true → b ≡ true
and_right true b e = e
and_right false b e = absurd (false≢true e)

-- a test that passes at both values passes at each
pub passes_either_way : (test : Bool → Bool) → test true && test false ≡ true → (b : Bool) → test b ≡ true
passes_either_way test e true = and_left (test true) (test false) e
passes_either_way test e false = and_right (test true) (test false) e

pub and_both : {a b : Bool} → a ≡ true → b ≡ true → a && b ≡ true
and_both p q = rw (p, q)

pub and_true : (a : Bool) → a && true ≡ a
and_true true = refl
and_true false = refl

pub and_false : (a : Bool) → a && false ≡ false
and_false true = refl
and_false false = refl

pub or_cases : (a b : Bool) → a || b ≡ true → (a ≡ true) ⊎ (b ≡ true)
or_cases true b e = inl refl
or_cases false b e = inr e

pub or_false : (b : Bool) → b || false ≡ b
or_false true = refl
or_false false = refl

pub or_right : (a b : Bool) → b ≡ true → a || b ≡ true
or_right true b e = refl
or_right false b e = e

pub neither : (a b : Bool) → a || b ≡ false → (a ≡ false) × (b ≡ false)
neither true b e = absurd (true≢false e)
neither false b e = (refl, e)

pub same_truth : (a b : Bool) → (a ≡ true → b ≡ true) → (b ≡ true → a ≡ true) → a ≡ b
same_truth true b f g = sym (f refl)
same_truth false true f g = g refl
same_truth false false f g = refl

pub less_or_not : (a b : ℕ) → (a < b) ⊎ (b ≤ a)
less_or_not a b = ⊎_elim (λ e. inl (ltb-true a b e)) (λ e. inr (ltb-false a b e)) (cases (ltb a b))

pub not_less : (a b : ℕ) → ¬ (a < b) → b ≤ a
not_less a b n = ⊎_elim (λ l. absurd (n l)) (λ l. l) (less_or_not a b)

pub three_ways : (a b : ℕ) → (a < b) ⊎ ((a ≡ b) ⊎ (b < a))
three_ways a b = ⊎_elim inl (λ l. inr (⊎_elim (λ q. inl (sym q)) inr (eq-or-lt_of_le l))) (less_or_not a b)

-- ---- tests that decide

pub decides_itself : (b : Bool) → Decides b (b ≡ true)
decides_itself b = (λ e. e, λ e f. contrary f e)

pub decides_off : (b : Bool) → Decides (not b) (b ≡ false)
decides_off b = (borrow.Author.Tests.not-true b, λ e f. contrary (ap not f) e)

-- the same said otherwise
pub decides_same : {a : Bool} {A B : Type 0} → (A → B) → (B → A) → Decides a A → Decides a B
decides_same there back d = (λ e. there (d.0 e), λ e h. d.1 e (back h))

pub decides_less : (a b : ℕ) → Decides (ltb a b) (a < b)
decides_less a b = (ltb-true a b, λ e l. contrary (borrow.Author.Tests.lt-ltb a b l) e)

pub decides_at_most : (a b : ℕ) → Decides (leb a b) (a ≤ b)
decides_at_most a b = (leb-true a b, λ e l. contrary (borrow.Author.Tests.le-leb a b l) e)

pub decides_equal : (a b : ℕ) → Decides (eqb a b) (a ≡ b)
decides_equal a b = (eqb-true a b, eqb-false a b)

pub decides_or : {a b : Bool} {A B : Type 0} → Decides a A → Decides b B → Decides (a || b) (A ⊎ B)
decides_or {a} {b} f g = (
  λ e. ⊎_elim (λ p. inl (f.0 p)) (λ q. inr (g.0 q)) (or_cases a b e),
  λ e w. ⊎_elim (f.1 (neither a b e).0)
      (g.1 (neither a b e).1) w,
)

pub decides_not : {a : Bool} {A : Type 0} → Decides a A → Decides (not a) (¬ A)
decides_not {a} f = (λ e. f.1 (borrow.Author.Tests.not-true a e), λ e n. n (f.0 (borrow.Author.Tests.not-false a e)))

-- a test passes where what it decides holds
pub test_passes : {a : Bool} {A : Type 0} → Decides a A → A → a ≡ true
test_passes {a} f h = ⊎_elim (λ e. e) (λ e. absurd (f.1 e h)) (cases a)

-- and fails where it does not
pub test_fails : {a : Bool} {A : Type 0} → Decides a A → ¬ A → a ≡ false
test_fails {a} f n = ⊎_elim (λ e. absurd (n (f.0 e))) (λ e. e) (cases a)

pub decides_and : {a b : Bool} {A B : Type 0} → Decides a A → Decides b B → Decides (a && b) (A × B)
decides_and {a} {b} f g =
    (λ e. (f.0 (and_left a b e), g.0 (and_right a b e)), λ e w. contrary (and_both (test_passes f w.0) (test_passes g w.1)) e)

-- one test or another, by a third
pub decides_cond : (g : Bool) {a b : Bool} {G A B : Type 0} → Decides g G → Decides a A → Decides b B
    → Decides (cond g a b) ((G × A) ⊎ ((¬ G) × B))
decides_cond true d f h = (λ e. inl (d.0 refl, f.0 e), λ e w. ⊎_elim (λ p. f.1 e p.1) (λ p. p.0 (d.0 refl)) w)
decides_cond false d f h = (λ e. inr (d.1 refl, h.0 e), λ e w. ⊎_elim (λ p. d.1 refl p.0) (λ p. h.1 e p.1) w)

-- numbers that do not differ are equal
pub equal_if_not_unequal : (a b : ℕ) → ¬ (a ≢ b) → a ≡ b
equal_if_not_unequal a b n = ⊎_elim (eqb-true a b) (λ e. absurd (n (eqb-false a b e))) (cases (eqb a b))
