-- One driver more below a set's own: the set with it, what it reads, and the sets between it and the next.
use Rattle.std.proofs.Common.{◌≡◌, sym, ap, ◌∙◌, subst, List, ℕ, suc, ◌+◌, ◌-◌, ◌*◌, ◌/◌, ◌%◌, ◌^◌, ◌≤◌, ◌<◌, pow-suc}
use Rattle.std.proofs.Common.{le_refl, add-one, arith, length, pow_pos, pow_mono}
use native.Mathlib.Nat.{zero-mod}
use lib.Count.{ones}
use lib.Arith.{digits_mod}
use lib.Pow.{pow-lt, mod-mod-pow, split}
use Rattle.words.specs.Searching.{sets_of_class}
use Rattle.words.specs.Turning.{column}
use Rattle.words.proofs.Classes.{ones_on_top, ones_power, ones_positive}
use Rattle.words.proofs.Counting.{sets_bound, sets_grow, sets_fewer}
use Rattle.network.specs.declared.Network.{Network}
use Rattle.network.specs.Reading.{sequential_response}
use Rattle.network.specs.Joint.{joint_word, no_drivers, with_driver}
use Rattle.network.proofs.Joint.{joint_none, reads_joint, joint_with}
use Rattle.checker.specs.Seen.{Seen, Branch}
use Rattle.checker.proofs.Visits.{seen_count, seen_gap}

-- a multiple of a power of 2 is one of each smaller power
above_less : (x m limit : ℕ) → m ≤ limit → x % 2 ^ limit ≡ 0 → x % 2 ^ m ≡ 0
above_less x m limit l e =
    let below : limit - m + m ≡ limit = omega arith in
    sym (mod-mod-pow x (limit - m) m) ∙ ap (λ (y : ℕ). x % 2 ^ y % 2 ^ m) below ∙ ap (λ (y : ℕ). y % 2 ^ m) e ∙ zero-mod (2 ^ m)

-- all sets: those that have drivers below n and no other
pub all_branches : (net : Network) (k : ℕ) (vectors : List ℕ) (word : ℕ) → 0 < k → word ≡ no_drivers net vectors
    → Branch net k vectors k net.nets 0 word
unfolding ones
all_branches net k vectors word some e = record {
  drivers = omega arith;
  some_left = omega arith;
  limit_most = le_refl net.nets;
  above = zero-mod (2 ^ net.nets);
  inside = omega arith;
  driven = e ∙ sym (joint_none net vectors);
}

-- a narrower branch of the same set
pub narrower : (net : Network) (k : ℕ) (vectors : List ℕ) (left limit set word m : ℕ)
    → Branch net k vectors left limit set word
    → m ≤ limit → Branch net k vectors left m set word
narrower net k vectors left limit set word m b l = record {
  drivers = b.drivers;
  some_left = b.some_left;
  limit_most = omega (arith, b.limit_most);
  above = above_less set m limit l b.above;
  inside = let h : 2 ^ m ≤ 2 ^ limit = pow_mono {i = m} {j = limit} l in omega (arith, b.inside);
  driven = b.driven;
}

module _ (net : Network) (k : ℕ) (vectors : List ℕ) (left limit set word : ℕ) (b : Branch net k vectors left limit set word)
    (driver : ℕ) (l : driver < limit) where
  abbrev next : ℕ
  next = set + 2 ^ driver

  pub next_inside : next < 2 ^ net.nets
  next_inside = omega (arith, b.inside, pow-lt l)

  pub next_small : net.nets ≤ 48 → next < 2 ^ 48
  next_small most = omega (arith, next_inside, pow_mono {i = net.nets} {j = 48} most)

  next_ones : ones next ≡ suc (ones set)
  next_ones = ones_on_top limit set (2 ^ driver) b.above (pow-lt l) ∙ ap (λ (x : ℕ). ones set + x) (ones_power driver) ∙ omega arith

  pub next_few : ones next ≤ k
  next_few = omega (arith, next_ones, b.drivers, b.some_left)

  next_driven : with_driver net word (column vectors driver) ≡ joint_word net vectors next
  next_driven =
      ap (λ (x : ℕ). with_driver net x (column vectors driver)) b.driven
      ∙ sym (joint_with net vectors limit driver set l b.limit_most b.above)

  pub next_reads : with_driver net word (column vectors driver) ≡ sequential_response net vectors next
  next_reads = next_driven ∙ sym (reads_joint net vectors next (λ e. let h = pow_pos driver in omega arith))

  -- there is room for it
  module _ (table : List ℕ) (seen : Seen net k vectors table next) where
    pub next_room : (size : ℕ) → length (sets_of_class k (set + 2 ^ limit)) ≤ size → length table < size
    next_room size room =
        rw (seen_count net k vectors table next seen)
        (omega (arith, sets_fewer k next (set + 2 ^ limit) (omega (arith, pow-lt l)) next_few, room))

    pub next_place : net.nets ≤ 48 → k ≤ 3 → length table < 65535
    next_place most three = rw (seen_count net k vectors table next seen) (omega (
      arith,
      sets_fewer k next (2 ^ net.nets) next_inside next_few,
      sets_bound net.nets k most three,
    ))

  -- ---- the sets with it and more drivers below it

  pub next_twice : next + 2 ^ driver ≡ set + 2 ^ (driver + 1)
  next_twice = let e : 2 ^ (driver + 1) ≡ 2 ^ driver * 2 = ap (λ (x : ℕ). 2 ^ x) (add-one driver) ∙ pow-suc 2 driver in omega arith

  later_inside : set + 2 ^ (driver + 1) ≤ set + 2 ^ limit
  later_inside = let h : 2 ^ (driver + 1) ≤ 2 ^ limit = pow_mono {i = driver + 1} {j = limit} (omega arith) in omega arith

  pub deeper_room : length (sets_of_class k (next + 2 ^ driver)) ≤ length (sets_of_class k (set + 2 ^ limit))
  deeper_room = sets_grow k _ _ (rw next_twice later_inside)

  next_above : next % 2 ^ driver ≡ 0
  next_above =
      let own : set % 2 ^ driver ≡ 0 = above_less set driver limit (omega arith) b.above in
      let q : ℕ = set / 2 ^ driver in
      let e : next ≡ (q + 1) * 2 ^ driver + 0 = let h = split set driver in omega arith in
      ap (λ (x : ℕ). x % 2 ^ driver) e ∙ digits_mod (q + 1) (pow_pos driver)

  pub deeper : 1 < left → (x driven : ℕ) → next ≡ x → driven ≡ with_driver net word (column vectors driver)
      → Branch net k vectors (left - 1) driver x driven
  deeper more x driven e f = subst (λ (y : ℕ). Branch net k vectors (left - 1) driver y driven) e (record {
    drivers = omega (arith, next_ones, b.drivers);
    some_left = omega arith;
    limit_most = omega (arith, b.limit_most);
    above = next_above;
    inside = rw next_twice (omega (arith, later_inside, b.inside));
    driven = f ∙ next_driven;
  })

  -- with no drivers more, there is none of the class between it and the next
  pub none_between : ¬ (1 < left) → (table : List ℕ) → Seen net k vectors table (next + 1)
      → Seen net k vectors table (set + 2 ^ (driver + 1))
  none_between single table seen =
      rw (← next_twice) (seen_gap net k vectors table (next + 1) seen (next + 2 ^ driver) (omega (
        arith,
        pow_pos driver,
      )) (λ z i j. many z i j))
    where
      many : (z : ℕ) → next + 1 ≤ z → z < next + 2 ^ driver → k < ones z
      many z i j =
          let r : ℕ = z - next in
          let z_is : next + r ≡ z = omega arith in
          let e : ones z ≡ ones next + ones r = ap ones (sym z_is) ∙ ones_on_top driver next r next_above (omega arith) in
          omega (arith, ones_positive r (omega arith), next_ones, b.drivers, single)
