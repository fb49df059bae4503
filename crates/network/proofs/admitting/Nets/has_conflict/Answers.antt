use Rattle.std.proofs.Common.{◌≡◌, refl, sym, ap, ◌∙◌, subst, ◌≢◌, List, ℕ, ◌+◌, ◌^◌, ◌<◌, ◌≤◌, lt_of_lt_of_le, arith}
use Rattle.std.proofs.Common.{bit_and, bit_or, length, set, length-set, pow_mono}
use Rattle.words.specs.Bits.{at}
use Rattle.network.proofs.Holders.{Held, lowest, lowest_inside, meets_not_zero, held_none, held_empty, held_new}
use Rattle.network.proofs.Holders.{held_known, held_conflict, held_all}
use Rattle.network.proofs.admitting.Nets.has_conflict.Goals as goal
use Rattle.network.proofs.admitting.Nets.has_conflict.Goals.{then-reach-taken-ne0+else-holder-reach}
use Rattle.network.proofs.admitting.Nets.has_conflict.Goals.{else-reach-taken-ne0+then-reach-ne0}
use Rattle.network.proofs.admitting.Nets.has_conflict.Goals.{else-reach-taken-ne0+else-reach-ne0}

pub loop-reach-init : goal.loop-reach-init
loop-reach-init c = (refl, held_none c.args.state.now)

small_reach : (state : List ℕ) (nets : ℕ) → nets ≤ 48 → ((i : ℕ) → i < length state → at state i < 2 ^ nets)
    → (a : ℕ) → a < length state → at state a < 2 ^ 48
small_reach state nets most by_index a l = lt_of_lt_of_le (by_index a l) (pow_mono most)

-- the receiver at hand
module _ (state holders : List ℕ) (taken i : ℕ) (size : length holders ≡ 48) (held : Held state holders taken i)
    (small : (a : ℕ) → a < length state → at state a < 2 ^ 48) (inside : i < length state) where
  abbrev Next : List ℕ → Type 0
  Next after = (length after ≡ 48) × Held state after (bit_or taken (at state i)) (i + 1)

  known : (d : ℕ) → d ≡ lowest (at state i) → bit_and (at state i) taken ≢ 0 → at holders d ≡ at state i → Next holders
  known d q n e = (size, held_known state holders taken i held small inside n (ap (at holders) (sym q) ∙ e))

  new : (d : ℕ) → d ≡ lowest (at state i) → bit_and (at state i) taken ≡ 0 → at state i ≢ 0
      → Next (set holders d (at state i))
  new d q none n = (
    length-set holders d (at state i) ∙ size,
    rw q (held_new state holders taken i held small inside size none n),
  )

  empty : at state i ≡ 0 → Next holders
  empty e = (size, held_empty state holders taken i held e)

driver : (reach d : ℕ) → reach < 2 ^ 48 → d ≡ lowest reach → reach ≢ 0 → d < 48
driver reach d small q n = rw q (lowest_inside reach small n)

pub bounds-holders-lowest_net : goal.bounds-holders-lowest_net
bounds-holders-lowest_net c =
    let small = small_reach c.args.state.now _ c.args.self.few c.requires c.loop-reach.reach-index c.loop-reach-test.true in
    driver _ _ small c.lowest_net.ensures
    (meets_not_zero _ c.loop-reach.taken c.if-reach-taken-ne0.true small)

pub offset_bounds-holders-lowest_net : goal.offset_bounds-holders-lowest_net
offset_bounds-holders-lowest_net c = omega (arith, bounds-holders-lowest_net c)

pub returns-then-holder-reach : goal.returns-then-holder-reach
returns-then-holder-reach c =
    let l = c.loop-reach in
    sym (held_conflict c.args.state.now l.holders l.taken l.reach-index l.invariant.1
    (small_reach c.args.state.now _ c.args.self.few c.requires) c.loop-reach-test.true
    c.args.self.network (c.requires l.reach-index c.loop-reach-test.true) c.if-reach-taken-ne0.true
    (λ e. c.if-holder-reach.true (ap (at l.holders) c.lowest_net.ensures ∙ e)))

pub bounds-holders-lowest_net-then-reach-ne0 : goal.bounds-holders-lowest_net-then-reach-ne0
bounds-holders-lowest_net-then-reach-ne0 c =
    driver _ _ (small_reach c.args.state.now _ c.args.self.few c.requires c.loop-reach.reach-index c.loop-reach-test.true)
    c.lowest_net-then-reach-ne0.ensures c.if-reach-ne0.true

pub offset_bounds-holders-lowest_net-then-reach-ne0 : goal.offset_bounds-holders-lowest_net-then-reach-ne0
offset_bounds-holders-lowest_net-then-reach-ne0 c = omega (arith, bounds-holders-lowest_net-then-reach-ne0 c)

pub loop-reach-preserved : goal.loop-reach-preserved
loop-reach-preserved c =
    let l = c.loop-reach in
    let s = c.args.state.now in
    let small = small_reach s _ c.args.self.few c.requires in
    let next : Next s l.holders l.taken l.reach-index l.invariant.0 l.invariant.1 small c.loop-reach-test.true c.if-reach-taken-ne0.holders =
    elim c.if-reach-taken-ne0.branch [
      | then-reach-taken-ne0+else-holder-reach w ↦ subst
          (Next s l.holders l.taken l.reach-index l.invariant.0 l.invariant.1 small c.loop-reach-test.true)
          (sym w.holders-is)
          (known s l.holders l.taken l.reach-index l.invariant.0 l.invariant.1 small c.loop-reach-test.true _ w.lowest_net.ensures
          w.if-reach-taken-ne0.true w.if-holder-reach.false)
      | else-reach-taken-ne0+then-reach-ne0 w ↦ subst
          (Next s l.holders l.taken l.reach-index l.invariant.0 l.invariant.1 small c.loop-reach-test.true)
          (sym w.holders-is)
          (new s l.holders l.taken l.reach-index l.invariant.0 l.invariant.1 small c.loop-reach-test.true _
          w.lowest_net-then-reach-ne0.ensures w.if-reach-taken-ne0.false w.if-reach-ne0.true)
      | else-reach-taken-ne0+else-reach-ne0 w ↦ subst
          (Next s l.holders l.taken l.reach-index l.invariant.0 l.invariant.1 small c.loop-reach-test.true)
          (sym w.holders-is)
          (empty s l.holders l.taken l.reach-index l.invariant.0 l.invariant.1 small c.loop-reach-test.true w.if-reach-ne0.false)
    ] in
    next

pub returns : goal.returns
returns c =
    let a = c.args in
    sym (held_all a.state.now c.loop-reach.holders c.loop-reach.taken c.loop-reach.reach-index c.loop-reach.invariant.1 a.self.network
    c.loop-reach-test.false)
