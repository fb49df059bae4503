-- Reading back by one pass over all driver sets: each set of the class noted for the receivers that answered so.
use Rattle.std.proofs.Common.{◌≡◌, refl, sym, ap, ◌∙◌, Bool, true, false, cond, ⊎_elim, List, ℕ, ◌+◌, ◌^◌, ◌<◌}
use Rattle.std.proofs.Common.{not-suc-le-zero, arith, eqb, length, eqb-true}
use borrow.Author.Tests.{eqb-false}
use Rattle.words.specs.Bits.{at}
use Rattle.words.proofs.Tests.{contrary, less_or_not}
use Rattle.network.specs.declared.Network.{Network}
use Rattle.network.specs.Reading.{sequential_response}
use Rattle.network.specs.States.{DriverSet, few_drivers}
use Rattle.network.proofs.Reading.{sequential_alike}
use Rattle.network.proofs.States.{few_drivers_at, few_drivers_of}
use Rattle.checker.proofs.Separation.{SetsApart}

-- of each receiver no set of the class below `next` but the one noted can have answered so
abbrev pub NotedBelow : Network → ℕ → (vectors answers reaches : List ℕ) → ℕ → Type 0
NotedBelow net k vectors answers reaches next = (i z : ℕ) → i < length answers → z < next → DriverSet net k z
    → sequential_response net vectors z ≡ at answers i → z ≡ at reaches i

module _ (net : Network) (k : ℕ) (vectors answers : List ℕ) where
  pub noted_first : (reaches : List ℕ) → NotedBelow net k vectors answers reaches 0
  noted_first reaches i z l m = absurd (not-suc-le-zero m)

  module _ (reaches later : List ℕ) (set : ℕ) (before : NotedBelow net k vectors answers reaches set) where
    -- a set that is none of the class changes nothing
    pub noted_none : few_drivers net k set ≡ false → later ≡ reaches → NotedBelow net k vectors answers later (set + 1)
    noted_none many same i z l m d e =
        ⊎_elim (λ b. before i z l b d e)
        (λ b. let q : z ≡ set = omega (arith, b, m) in contrary (few_drivers_of net k z d) (ap (few_drivers net k) q ∙ many))
        (less_or_not z set)
        ∙ ap (λ (ws : List ℕ). at ws i) (sym same)

    -- one of the class is noted where it was answered so: no other reads alike
    pub noted_next : SetsApart net k vectors → set < 2 ^ net.nets → few_drivers net k set ≡ true
        → ((i : ℕ) → i < length answers
        → at later i ≡ cond (eqb (at answers i) (sequential_response net vectors set)) set (at reaches i))
        → NotedBelow net k vectors answers later (set + 1)
    noted_next apart inside few stored i z l m d e = go (eqb (at answers i) (sequential_response net vectors set)) refl
      where
        go : (t : Bool) → eqb (at answers i) (sequential_response net vectors set) ≡ t → z ≡ at later i
        go true q =
            apart z set d (record { inside = inside; few = few_drivers_at net k set few })
            (sequential_alike net vectors z set (e ∙ eqb-true _ _ q))
            ∙ sym (stored i l ∙ ap (λ (b : Bool). cond b set (at reaches i)) q)
        go false q =
            ⊎_elim (λ b. before i z l b d e)
            (λ b. let same : z ≡ set = omega (arith, b, m) in
            absurd (eqb-false _ _ q (sym e ∙ ap (sequential_response net vectors) same)))
            (less_or_not z set)
            ∙ sym (stored i l ∙ ap (λ (b : Bool). cond b set (at reaches i)) q)
