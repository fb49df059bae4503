use Rattle.std.proofs.Common.{le-leb, arith, ◌≡◌, subst, true, false, leb, ltb, length}
use borrow.Author.Tests.{lt-leb}
use Rattle.words.specs.Bits.{at}
use Rattle.words.specs.Searching.{any}
use Rattle.words.proofs.Searching.{any_at, any_none}
use Rattle.words.proofs.Tests.{neither, decides_less}
use Rattle.network.specs.Rows.{bad_receivers}
use Rattle.network.proofs.NamedNets.{Named, every_net_named, named_more, named_none}
use Rattle.network.proofs.admitting.Nets.bad_receivers.Goals as goal

pub returns-then-count-nets : goal.returns-then-count-nets
unfolding bad_receivers
returns-then-count-nets c = rw c.if-count-nets.true

pub loop-owner-init : goal.loop-owner-init
loop-owner-init c =
    let a = c.args in
    let high = (decides_less 64 (length a.receivers.now)).1
    (neither (ltb (length a.receivers.now) a.self.network.nets) (ltb 64 (length a.receivers.now))
    c.if-count-nets.false).1 in
    (omega (arith, high), named_none a.self.network a.receivers.now)

pub returns-then-nets-owner : goal.returns-then-nets-owner
unfolding bad_receivers
returns-then-nets-owner c =
    let a = c.args in
    let no_net : any (length a.receivers.now) (λ r. leb a.self.network.nets (at a.receivers.now r)) ≡ true =
    any_at (λ r. leb a.self.network.nets (at a.receivers.now r)) (length a.receivers.now) c.loop-owner.owner-index
    c.loop-owner-test.true (le-leb _ _ c.if-nets-owner.true) in
    rw (c.if-count-nets.false, no_net)

pub bit_word-named-requires : goal.bit_word-named-requires
bit_word-named-requires c =
    omega (arith, c.if-nets-owner.false, c.args.self.few)

pub loop-owner-preserved : goal.loop-owner-preserved
loop-owner-preserved c =
    let a = c.args in (
      c.loop-owner.invariant.0,
      rw c.bit_word-named.ensures
          (named_more a.self.network a.receivers.now c.loop-owner.named c.loop-owner.owner-index c.loop-owner.invariant.1
          c.if-nets-owner.false),
    )

pub returns : goal.returns
unfolding bad_receivers
returns c =
    let a = c.args in
    let whole : c.loop-owner.owner-index ≡ length a.receivers.now = omega (arith, c.loop-owner-test.false) in
    let all = subst (Named a.self.network a.receivers.now c.loop-owner.named) whole c.loop-owner.invariant.1 in
    let nets : any (length a.receivers.now) (λ r. leb a.self.network.nets (at a.receivers.now r)) ≡ false =
    any_none (λ r. leb a.self.network.nets (at a.receivers.now r)) (length a.receivers.now)
    (λ z l. lt-leb _ _ (all.nets z l)) in
    rw (c.if-count-nets.false, nets, c.all_drivers.ensures)
    (every_net_named a.self.network a.receivers.now c.loop-owner.named all)
