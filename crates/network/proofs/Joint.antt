-- What the drivers of a set drive together, driver by driver, and that a receiver of that reach reads it.
use Rattle.std.proofs.Common.{◌≡◌, refl, sym, ap, ap₂, ◌∙◌, Bool, true, false, not, ◌&&◌, ◌||◌, cond, ⊎_elim, ◌≢◌}
use Rattle.std.proofs.Common.{List, ℕ, ◌+◌, ◌-◌, ◌%◌, ◌^◌, ◌≤◌, ◌<◌, arith, bit_and, bit_or, eqb, length, pow_pos}
use Rattle.std.proofs.Common.{eqb-true, eq-eqb}
use lib.Bits.{and_lt, or_lt}
use Rattle.words.specs.Bits.{has, at}
use Rattle.words.specs.Turning.{column}
use Rattle.words.proofs.Tests.{or_cases, or_right, same_truth}
use Rattle.words.proofs.Bits.{words_equal, has_zero, has_all, has_and, has_or, has_with}
use Rattle.words.proofs.Making.{has_made, made_below, made_equal}
use Rattle.words.proofs.Columns.{column_below, has_column}
use Rattle.network.specs.declared.Network.{Network}
use Rattle.network.specs.Reading.{is_and, active, driven, reads, sequential_response}
use Rattle.network.specs.Joint.{joint_word, no_drivers, with_driver}
use Rattle.network.proofs.Reading.{active_equal, active_joined, driven_at, driven_some, driven_none, reads_driven}

module _ (net : Network) (vectors : List ℕ) where
  has_joint : (set t : ℕ) → t < length vectors → has (joint_word net vectors set) t ≡ driven net set (at vectors t)
  unfolding joint_word
  has_joint set t l = has_made (driven net set) vectors t l

  joint_below : (set : ℕ) → joint_word net vectors set < 2 ^ length vectors
  unfolding joint_word
  joint_below set = made_below (driven net set) vectors

  -- no drivers
  none_below : no_drivers net vectors < 2 ^ length vectors
  unfolding no_drivers
  none_below = go (is_and net)
    where
      go : (g : Bool) → cond g (2 ^ length vectors - 1) 0 < 2 ^ length vectors
      go true = let h = pow_pos (length vectors) in omega arith
      go false = pow_pos (length vectors)

  none_active : (t : ℕ) → t < length vectors → active net (has (no_drivers net vectors) t) ≡ false
  unfolding active no_drivers
  none_active t l = go (is_and net)
    where
      go : (g : Bool) → let bit = has (cond g (2 ^ length vectors - 1) 0) t in cond g (not bit) bit ≡ false
      go true = ap not (has_all (length vectors) t l)
      go false = has_zero t

  pub joint_none : joint_word net vectors 0 ≡ no_drivers net vectors
  joint_none =
      words_equal (length vectors) _ _ (joint_below 0) none_below
      (λ t l. active_equal net _ _
      (ap (active net) (has_joint 0 t l) ∙ driven_none net (at vectors t) ∙ sym (none_active t l)))

  -- a receiver with a driver in its reach reads what its drivers drive
  pub reads_joint : (set : ℕ) → set ≢ 0 → sequential_response net vectors set ≡ joint_word net vectors set
  unfolding sequential_response joint_word
  reads_joint set some =
      made_equal (reads net set) vectors (driven net set) (λ t l. reads_driven net set (at vectors t) some)

  -- two words joined by the gate
  with_below : (w c : ℕ) → w < 2 ^ length vectors → c < 2 ^ length vectors → with_driver net w c < 2 ^ length vectors
  unfolding with_driver
  with_below w c lw lc = go (is_and net)
    where
      go : (g : Bool) → cond g (bit_and w c) (bit_or w c) < 2 ^ length vectors
      go true = and_lt (length vectors) w c lw lc
      go false = or_lt (length vectors) w c lw lc

  has_with_driver : (w c t : ℕ) → has (with_driver net w c) t ≡ cond (is_and net) (has w t && has c t) (has w t || has c t)
  unfolding with_driver
  has_with_driver w c t = go (is_and net)
    where
      go : (g : Bool) → has (cond g (bit_and w c) (bit_or w c)) t ≡ cond g (has w t && has c t) (has w t || has c t)
      go true = has_and w c t
      go false = has_or w c t

  -- one driver more, below all drivers of the set
  module _ (limit driver set : ℕ) (l : driver < limit) (inside : limit ≤ net.nets) (above : set % 2 ^ limit ≡ 0) where
    driven_with : (v : ℕ) → active net (driven net (set + 2 ^ driver) v) ≡ active net (driven net set v) || active net (has v driver)
    driven_with v = same_truth _ _ there back
      where
        before : Bool
        before = active net (driven net set v)

        in_either : (i : ℕ) → i < net.nets → active net (has v i) ≡ true → has set i || eqb driver i ≡ true
            → before || active net (has v driver) ≡ true
        in_either i m q e =
            ⊎_elim (λ h. let p : before ≡ true = driven_at net set v i m h q in rw p)
            (λ h. or_right before (active net (has v driver)) (ap (λ (x : ℕ). active net (has v x)) (eqb-true driver i h) ∙ q))
            (or_cases (has set i) (eqb driver i) e)

        there : active net (driven net (set + 2 ^ driver) v) ≡ true → before || active net (has v driver) ≡ true
        there e = let r = driven_some net (set + 2 ^ driver) v e in
            in_either r.0 r.1 r.3 (sym (has_with limit driver set r.0 l above) ∙ r.2)

        back : before || active net (has v driver) ≡ true → active net (driven net (set + 2 ^ driver) v) ≡ true
        back e =
            ⊎_elim
            (λ p. let r = driven_some net set v p in
            let h : has set r.0 || eqb driver r.0 ≡ true = rw r.2 in
            driven_at net (set + 2 ^ driver) v r.0 r.1 (has_with limit driver set r.0 l above ∙ h) r.3)
            (λ p. driven_at net (set + 2 ^ driver) v driver (omega arith)
            (has_with limit driver set driver l above ∙ or_right (has set driver) (eqb driver driver) (eq-eqb driver driver refl)) p)
            (or_cases before (active net (has v driver)) e)

    pub joint_with : joint_word net vectors (set + 2 ^ driver) ≡ with_driver net (joint_word net vectors set) (column vectors driver)
    joint_with =
        words_equal (length vectors) _ _ (joint_below (set + 2 ^ driver))
        (with_below _ _ (joint_below set) (column_below vectors driver))
        (λ t m. active_equal net _ _
        (ap (active net) (has_joint (set + 2 ^ driver) t m) ∙ driven_with (at vectors t)
        ∙ sym (ap (active net) (has_with_driver (joint_word net vectors set) (column vectors driver) t)
        ∙ active_joined net _ _
        ∙ ap₂ (λ (a b : Bool). active net a || active net b) (has_joint set t m) (has_column vectors driver t m))))
