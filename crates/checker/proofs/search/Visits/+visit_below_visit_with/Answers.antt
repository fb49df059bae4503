use Rattle.std.proofs.Common.{◌≡◌, sym, ap, ◌∙◌, subst, ap₂, ℕ, ◌+◌, ◌-◌, ◌*◌, ◌^◌, ◌≤◌, ◌<◌, length, List, ◌∷◌, []}
use Rattle.std.proofs.Common.{◌++◌, arith, rules, pow_mono}
use Rattle.std.specs.Int.Count.{ones}
use Rattle.std.specs.Prelude.{Option, Some, None}
use Rattle.words.specs.Bits.{at}
use Rattle.words.specs.Searching.{position, sets_of_class}
use Rattle.words.specs.Turning.{column, Columns}
use Rattle.words.proofs.Counting.{sets_grow}
use Rattle.network.specs.declared.Network.{Network}
use Rattle.network.specs.Joint.{with_driver}
use Rattle.network.specs.Reading.{sequential_response}
use Rattle.checker.specs.Rule.{bounded_verdict}
use Rattle.checker.specs.Seen.{Seen, Branch}
use Rattle.checker.specs.declared.Verdict.TheVariants.{Pair}
use Rattle.checker.proofs.Branches.{narrower, next_inside, next_few, next_reads, next_room, next_place}
use Rattle.checker.proofs.Branches.{deeper_room, deeper, none_between}
use Rattle.checker.proofs.Visits.{seen_pair, seen_next, seen_moved}
use Rattle.checker.proofs.search.Visits.+visit_below_visit_with.Goals as goal

pub visit_below-visit_with-requires-whole : goal.visit_below-visit_with-requires-whole
visit_below-visit_with-requires-whole g t c κs =
    let a = c.args in
    let s = a.self.now.search in
    let p = c.requires in
    let l = c.loop-driver in
    let more : l.driver + 1 ≤ a.limit = omega arith in
    let counted : s.class - ones a.set ≡ s.class - c.count_of_ones.result = ap (λ (x : ℕ). s.class - x) (sym c.count_of_ones.ensures) in
    let branch : Branch s.net s.class s.vectors.now (s.class - c.count_of_ones.result) (l.driver + 1) a.set a.word.0 =
    rw (← counted) (narrower s.net s.class s.vectors.now _ a.limit a.set a.word.0 (l.driver + 1) p.0 more) in
    let fewer = sets_grow s.class (a.set + 2 ^ (l.driver + 1)) (a.set + 2 ^ a.limit)
    (let h = pow_mono {i = l.driver + 1} {j = a.limit} more in omega arith) in (
      omega (arith, c.decreases, p.0.some_left, counted),
      (
        search rules,
        (
          search rules,
          (
            search rules,
            (branch, l.invariant, omega (arith, fewer, p.2)),
          ),
        ),
      ),
    )

-- the set with one driver more
module _ {net : Network} {class : ℕ} {vectors : List ℕ} {left : ℕ} (driver : ℕ) {set word : ℕ}
    (branch : Branch net class vectors left (driver + 1) set word) where
  below : driver < driver + 1
  below = omega arith

  inside : set + 2 ^ driver < 2 ^ net.nets
  inside = next_inside _ _ _ _ _ _ _ branch driver below

  few : ones (set + 2 ^ driver) ≤ class
  few = next_few _ _ _ _ _ _ _ branch driver below

  -- what its drivers drive, by the column of the new one
  driven_is : (columns : List ℕ) {x driven : ℕ} → Columns net.nets vectors columns → x ≡ at columns driver
      → driven ≡ with_driver net word x → driven ≡ with_driver net word (column vectors driver)
  driven_is columns turned e f =
      f ∙ ap (λ (x : ℕ). with_driver net word x) (e ∙ turned driver (omega (arith, branch.limit_most)))

  -- and that is what it reads
  reading : {driven : ℕ} → driven ≡ with_driver net word (column vectors driver)
      → driven ≡ sequential_response net vectors (set + 2 ^ driver)
  reading e = e ∙ next_reads _ _ _ _ _ _ _ branch driver below

  -- where that is found among what the sets before it read, two sets read alike
  pair_at : {driven m : ℕ} {found : Option ℕ} (table : List ℕ) → net.nets ≤ 48 → driven ≡ with_driver net word (column vectors driver)
      → Seen net class vectors table (set + 2 ^ driver) → found ≡ position driven table → found ≡ Some m
      → (m < length (sets_of_class class (2 ^ 48)))
      × (bounded_verdict net class vectors ≡ Pair (at (sets_of_class class (2 ^ 48)) m) (set + 2 ^ driver))
  pair_at {m = m} table most e seen found is =
      seen_pair net class vectors table (set + 2 ^ driver) seen inside few m most
      (ap (λ (w : ℕ). position w table) (sym (reading e)) ∙ sym found ∙ is)

  -- and where it is missing among what the sets before it read, one set more is seen
  seen_one : {driven : ℕ} {found : Option ℕ} (table after : List ℕ) → driven ≡ with_driver net word (column vectors driver)
      → Seen net class vectors table (set + 2 ^ driver) → found ≡ position driven table → found ≡ None
      → after ≡ table ++ driven ∷ [] → Seen net class vectors after (set + 2 ^ driver + 1)
  seen_one table after e seen found missing added =
      subst (λ (ws : List ℕ). Seen net class vectors ws (set + 2 ^ driver + 1)) (sym added)
      (seen_next net class vectors table (set + 2 ^ driver) seen inside few _ (reading e) (sym found ∙ missing))

pub visit_with-add-requires : goal.visit_with-add-requires
visit_with-add-requires g t c =
    let p = c.requires in
    let s = c.args.self.now.search in
    let under = below c.args.driver p.0 in
    let room : length c.args.table.now < g.row.WORDS = next_room _ _ _ _ _ _ _ p.0 c.args.driver under _ p.1 _ p.2 in
    (search rules, (room, next_place _ _ _ _ _ _ _ p.0 c.args.driver under _ p.1 s.nets_most s.class_most))

pub visit_with-set_at-requires : goal.visit_with-set_at-requires
visit_with-set_at-requires g t c =
    let a = c.args in
    let s = a.self.now.search in
    let driven = driven_is a.driver c.requires.0 _ a.self.now.turned c.turned_word-column.ensures c.with_driver-driven.ensures in
    let pair = pair_at a.driver c.requires.0 a.table.now s.nets_most driven c.requires.1 c.add.ensures.found c.in-Some.is in
    (s.class_most, pair.0)

pub visit_with-returns-in-Some-clause-confused : goal.visit_with-returns-in-Some-clause-confused
visit_with-returns-in-Some-clause-confused g t c =
    let a = c.args in
    let s = a.self.now.search in
    let driven = driven_is a.driver c.requires.0 _ a.self.now.turned c.turned_word-column.ensures c.with_driver-driven.ensures in
    let pair = pair_at a.driver c.requires.0 a.table.now s.nets_most driven c.requires.1 c.add.ensures.found c.in-Some.is in
    pair.1 ∙ ap₂ Pair (sym c.set_at.ensures) (ap (λ (x : ℕ). a.set + x) (sym c.bit_word.ensures))

pub visit_with-returns-then-left-eq1-clause-seen : goal.visit_with-returns-then-left-eq1-clause-seen
visit_with-returns-then-left-eq1-clause-seen g t c =
    let a = c.args in
    let p = c.requires in
    let driven = driven_is a.driver p.0 _ a.self.now.turned c.turned_word-column.ensures c.with_driver-driven.ensures in
    none_between _ _ _ _ _ _ _ p.0 a.driver (below a.driver p.0) (λ l. omega (arith, c.if-left-eq1.true)) _
    (seen_one a.driver p.0 a.table.now c.add.new.self driven p.1 c.add.ensures.found c.in_default.is c.add.ensures.added)

pub visit_with-visit_below-requires-whole : goal.visit_with-visit_below-requires-whole
visit_with-visit_below-requires-whole g t c κs =
    let a = c.args in
    let s = a.self.now.search in
    let p = c.requires in
    let under = below a.driver p.0 in
    let more : 1 < a.left = let h = c.if-left-eq1.false in omega (arith, p.0.some_left) in
    let e : a.set + 2 ^ a.driver ≡ a.set + c.bit_word.result = ap (λ (x : ℕ). a.set + x) (sym c.bit_word.ensures) in
    let driven = driven_is a.driver p.0 _ a.self.now.turned c.turned_word-column.ensures c.with_driver-driven.ensures in
    let one = seen_one a.driver p.0 a.table.now c.add.new.self driven p.1 c.add.ensures.found c.in_default.is c.add.ensures.added in
    let branch = deeper _ _ _ _ _ _ _ p.0 a.driver under more _ _ e driven in
    let fewer : s.class - ones (a.set + c.bit_word.result) ≡ a.left - 1 = omega (arith, branch.drivers) in
    let room : length (sets_of_class s.class (a.set + c.bit_word.result + 2 ^ a.driver))
    ≤ length (sets_of_class s.class (a.set + 2 ^ (a.driver + 1))) = rw (← e) (deeper_room _ _ _ _ _ _ _ p.0 a.driver under) in (
      omega (arith, c.decreases, more, fewer),
      (
        search rules,
        (
          search rules,
          (
            search rules,
            (
              rw fewer branch,
              seen_moved _ _ _ _ _ one _ (ap (λ (x : ℕ). x + 1) e),
              omega (arith, room, p.2),
            ),
          ),
        ),
      ),
    )
