use Rattle.std.proofs.Common.{eq-eqb, ne_eqb, ◌≡◌, sym, ◌∙◌, Bool, true, false, not, ◌&&◌, ℕ, ◌^◌, ltb, length}
use borrow.Author.Tests.{not-false}
use Rattle.words.specs.Bits.{at}
use Rattle.words.proofs.Searching.{any_false}
use Rattle.network.specs.States.{few_drivers, has_wrong_reach, not_a_state}
use Rattle.network.proofs.States.{few→set}
use Rattle.network.proofs.admitting.Nets.not_a_state.Goals as goal

pub returns-then-state-receivers : goal.returns-then-state-receivers
unfolding not_a_state
returns-then-state-receivers c =
    let a = c.args in
    rw (ne_eqb (length a.state.now) a.receivers c.if-state-receivers.true)

pub returns-then-has_wrong_reach : goal.returns-then-has_wrong_reach
unfolding not_a_state
returns-then-has_wrong_reach c =
    let a = c.args in
    let wrong : has_wrong_reach a.self.network a.class a.state.now ≡ true = sym c.has_wrong_reach.ensures ∙ c.if-has_wrong_reach.true in
    rw (eq-eqb (length a.state.now) a.receivers c.if-state-receivers.false, wrong)

pub has_conflict-requires : goal.has_conflict-requires
unfolding has_wrong_reach
has_conflict-requires c i l =
    let a = c.args in
    let wrong : ℕ → Bool = λ z. not
    (ltb (at a.state.now z) (2 ^ a.self.network.nets)
    && few_drivers a.self.network a.class (at a.state.now z)) in
    let right = any_false wrong (length a.state.now) i l (sym c.has_wrong_reach.ensures ∙ c.if-has_wrong_reach.false) in
    (few→set a.self.network a.class (at a.state.now i) (not-false _ right)).inside

pub returns : goal.returns
unfolding not_a_state
returns c =
    let a = c.args in
    let right : has_wrong_reach a.self.network a.class a.state.now ≡ false =
    sym c.has_wrong_reach.ensures ∙ c.if-has_wrong_reach.false in
    rw (eq-eqb (length a.state.now) a.receivers c.if-state-receivers.false, right) c.has_conflict.ensures
