use Rattle.std.proofs.Common.{eq-eqb, ne_eqb, ◌≡◌, refl, sym, ap, ◌∙◌, Bool, true, false, not, ◌&&◌, ◌||◌, ℕ, ◌^◌}
use Rattle.std.proofs.Common.{eqb}
use Rattle.words.specs.Bits.{has}
use Rattle.words.proofs.Bits.{has_zero, has_power, has_or}
use Rattle.findings.specs.Findings.{joins}
use Rattle.findings.proofs.joined_by.Goals as goal

-- what the receiver joins if net i's driver reaches it; if it does not, and the reaches are the same; if neither is so
module _ (i reach j owner other : ℕ) where
  abbrev same : Bool
  same = not (eqb reach 0) && eqb other reach

  driver_reaches : has other i ≡ true → joins i reach j owner other ≡ eqb owner j || has other j
  unfolding joins
  driver_reaches e = rw e (go (eqb owner j) same (has other j))
    where
      go : (its own reached : Bool) → (its && own) || (reached || (its && true)) ≡ its || reached
      go true true reached = refl
      go true false true = refl
      go true false false = refl
      go false own true = refl
      go false own false = refl

  same_reaches : has other i ≡ false → same ≡ true → joins i reach j owner other ≡ eqb owner j
  unfolding joins
  same_reaches e m = rw (e, m) (go (eqb owner j))
    where
      go : (its : Bool) → (its && true) || (its && false) ≡ its
      go true = refl
      go false = refl

  joins_nothing : has other i ≡ false → same ≡ false → joins i reach j owner other ≡ false
  unfolding joins
  joins_nothing e m = rw (e, m) (go (eqb owner j))
    where
      go : (its : Bool) → (its && false) || (its && false) ≡ false
      go true = refl
      go false = refl

its_net : (owner j word : ℕ) → word ≡ 2 ^ owner → has word j ≡ eqb owner j
its_net owner j word e = ap (λ (w : ℕ). has w j) e ∙ has_power owner j

pub returns-then-other-i-eq1 : goal.returns-then-other-i-eq1
unfolding has
returns-then-other-i-eq1 c j =
    let a = c.args in
    has_or c.bit_word-its_net.result a.other j
    ∙ ap (λ (t : Bool). t || has a.other j) (its_net a.owner j c.bit_word-its_net.result c.bit_word-its_net.ensures)
    ∙ sym (driver_reaches a.i a.reach j a.owner a.other (eq-eqb _ _ c.if-other-i-eq1.true))

pub returns-then-reach-other : goal.returns-then-reach-other
unfolding has
returns-then-reach-other c j =
    let a = c.args in
    its_net a.owner j c.bit_word-its_net.result c.bit_word-its_net.ensures
    ∙ sym (same_reaches a.i a.reach j a.owner a.other (ne_eqb _ _ c.if-other-i-eq1.false) c.if-reach-other.true)

pub returns : goal.returns
unfolding has
returns c j =
    let a = c.args in
    has_zero j
    ∙ sym (joins_nothing a.i a.reach j a.owner a.other (ne_eqb _ _ c.if-other-i-eq1.false) c.if-reach-other.false)
