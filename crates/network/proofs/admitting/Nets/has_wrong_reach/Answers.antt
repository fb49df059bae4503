use Rattle.std.proofs.Common.{below_more, lt-ltb, le-ltb, ◌≡◌, sym, ◌∙◌, true, false, ◌≤◌, ◌<◌, ◌^◌, not-suc-le-zero}
use Rattle.std.proofs.Common.{arith, length}
use Rattle.words.specs.Bits.{at}
use Rattle.words.proofs.Searching.{any_at, any_none}
use Rattle.network.specs.States.{few_drivers, has_wrong_reach}
use Rattle.network.proofs.admitting.Nets.has_wrong_reach.Invariants.{wrong}
use Rattle.network.proofs.admitting.Nets.has_wrong_reach.Goals as goal

pub loop-reach-init : goal.loop-reach-init
loop-reach-init c z l = absurd (not-suc-le-zero l)

pub returns-then-end-reach : goal.returns-then-end-reach
unfolding has_wrong_reach
returns-then-end-reach c =
    let a = c.args in
    let reach = at a.state.now c.loop-reach.reach-index in
    let high : 2 ^ a.self.network.nets ≤ reach = omega (arith, c.bit_word-end.ensures, c.if-end-reach.true) in
    sym (any_at (λ z. wrong a.self.network a.class (at a.state.now z)) (length a.state.now) c.loop-reach.reach-index
    c.loop-reach-test.true
    (rw (le-ltb reach (2 ^ a.self.network.nets) high)))

pub few_drivers-requires : goal.few_drivers-requires
few_drivers-requires c = omega (arith, c.bit_word-end.ensures, c.if-end-reach.false)

pub returns-then-not-few_drivers : goal.returns-then-not-few_drivers
unfolding has_wrong_reach
returns-then-not-few_drivers c =
    let a = c.args in
    let reach = at a.state.now c.loop-reach.reach-index in
    let low : reach < 2 ^ a.self.network.nets = omega (arith, c.bit_word-end.ensures, c.if-end-reach.false) in
    let many : few_drivers a.self.network a.class reach ≡ false = sym c.few_drivers.ensures ∙ c.if-not-few_drivers.true in
    sym (any_at (λ z. wrong a.self.network a.class (at a.state.now z)) (length a.state.now) c.loop-reach.reach-index
    c.loop-reach-test.true
    (rw (lt-ltb reach (2 ^ a.self.network.nets) low, many)))

pub loop-reach-preserved : goal.loop-reach-preserved
loop-reach-preserved c =
    let a = c.args in
    let reach = at a.state.now c.loop-reach.reach-index in
    let low : reach < 2 ^ a.self.network.nets = omega (arith, c.bit_word-end.ensures, c.if-end-reach.false) in
    let few : few_drivers a.self.network a.class reach ≡ true = sym c.few_drivers.ensures ∙ c.if-not-few_drivers.false in
    below_more (λ z. wrong a.self.network a.class (at a.state.now z) ≡ false) c.loop-reach.reach-index c.loop-reach.invariant
    (rw (lt-ltb reach (2 ^ a.self.network.nets) low, few))

pub returns : goal.returns
unfolding has_wrong_reach
returns c =
    let a = c.args in
    sym (any_none (λ z. wrong a.self.network a.class (at a.state.now z)) (length a.state.now) (λ z l. c.loop-reach.invariant z (omega arith)))
