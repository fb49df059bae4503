use Rattle.std.proofs.Common.{eqb-true, eq-eqb, ℕ, ◌-◌, ◌<◌, ◌≤◌, arith, ◌≡◌, refl, sym, ap, ◌∙◌, subst, true, inl}
use Rattle.std.proofs.Common.{inr, bit_or, pow_pos}
use lib.Count.{count_trailing_zeros}
use Rattle.words.specs.Bits.{has}
use Rattle.words.proofs.Tests.{contrary, and_left, and_right, and_both, or_right}
use Rattle.words.proofs.Bits.{has_at_least}
use Rattle.words.proofs.Classes.{has_where_zeros_end, none_below_lowest}
use Rattle.network.specs.Reading.{needs_extra}
use Rattle.diagnosis.proofs.Gathering.{Gathering, gathering_first, gathering_next, gathering_last}
use Rattle.diagnosis.proofs.walking.walking_reach.Goals as goal

pub loop-t-init : goal.loop-t-init
loop-t-init c =
    let a = c.args in
    (c.lowest_net-t.ensures, gathering_first a.nets.network a.vectors.now c.active_bits-rest.result)

-- in the loop, the answer to vector t is active
is_active : (t rest count : ℕ) → t ≡ count_trailing_zeros 64 rest → t < count → count ≤ 64 → has rest t ≡ true
is_active t rest count first below most = ap (has rest) first ∙ has_where_zeros_end 64 rest (omega arith)

pub returns-then-is_extra : goal.returns-then-is_extra
returns-then-is_extra c =
    let l = c.loop-t in
    let a = c.args in
    let needed = needs_extra a.nets.network in
    let x = sym c.is_extra.ensures ∙ c.if-is_extra.true in
    let active = is_active l.t l.rest _ l.invariant.0 c.loop-t-test.true c.requires in
    inl (
      l.t,
      c.loop-t-test.true,
      and_left needed _ x,
      eqb-true _ _ (and_right needed _ x),
      sym (c.active_bits-rest.ensures.0 l.t c.loop-t-test.true) ∙ l.invariant.1.parts l.t
          ∙ or_right (has l.invariant.1.seen l.t) _ active,
      refl,
    )

pub overflow_sub-rest : goal.overflow_sub-rest
overflow_sub-rest c =
    let l = c.loop-t in
    let active = is_active l.t l.rest _ l.invariant.0 c.loop-t-test.true c.requires in
    rw c.bit_word-rest.ensures (has_at_least l.t l.rest active)

pub loop-t-smaller : goal.loop-t-smaller
loop-t-smaller c =
    let l = c.loop-t in
    let active = is_active l.t l.rest _ l.invariant.0 c.loop-t-test.true c.requires in
    omega (arith, c.bit_word-rest.ensures, pow_pos l.t, has_at_least l.t l.rest active)

pub loop-t-preserved : goal.loop-t-preserved
loop-t-preserved c =
    let a = c.args in
    let l = c.loop-t in
    let bits = c.active_bits-rest.result in
    let active = is_active l.t l.rest _ l.invariant.0 c.loop-t-test.true c.requires in (
      c.lowest_net-t-in-loop-t.ensures,
      subst (λ (x : ℕ). Gathering a.nets.network a.vectors.now bits (l.rest - x) (bit_or l.reach c.walked_driver-reach.result))
          (sym c.bit_word-rest.ensures)
          (gathering_next a.nets.network a.vectors.now bits l.t l.rest l.reach c.walked_driver-reach.result l.invariant.1
          c.loop-t-test.true active
          (λ s q. contrary (and_both s (eq-eqb _ _ q)) (sym c.is_extra.ensures ∙ c.if-is_extra.false))
          c.walked_driver-reach.ensures),
    )

pub returns : goal.returns
returns c =
    let a = c.args in
    let l = c.loop-t in
    let b = c.active_bits-rest in
    inr (gathering_last a.nets.network a.vectors.now b.result a.answered.0 l.rest l.reach b.ensures.0 l.invariant.1
    (λ u m. none_below_lowest 64 l.rest u (omega (arith, l.invariant.0))))
