use Rattle.std.proofs.Common.{below_more, rules, ◌≡◌, refl, sym, ap, ◌∙◌, Bool, true, false, not, ◌&&◌}
use Rattle.std.proofs.Common.{not-suc-le-zero, arith, eqb, length}
use mathlib.Core.Bool.{beq, false≢true}
use Rattle.words.specs.Bits.{at}
use Rattle.words.proofs.Searching.{any_at, any_none}
use Rattle.steps.specs.SecondStep.{only_from}
use Rattle.steps.proofs.second.only_from.Invariants.{against}
use Rattle.steps.proofs.second.only_from.Goals as goal

differ : (own returned : Bool) → against own returned ≡ not (beq own returned)
differ true true = refl
differ true false = refl
differ false true = refl
differ false false = refl

own_not_returned : (own returned : Bool) → own && not returned ≡ true → against own returned ≡ true
own_not_returned true returned e = e
own_not_returned false returned e = absurd (false≢true e)

pub returns-then-receivers-likely : goal.returns-then-receivers-likely
unfolding only_from
returns-then-receivers-likely c =
    let a = c.args in
    sym (ap not (any_at (λ z. against (eqb (at a.receivers.now z) a.i) (eqb (at a.words.now z) a.word))
    (length a.receivers.now) a.i
    c.if-likely-receivers.true
    (own_not_returned (eqb (at a.receivers.now a.i) a.i) (eqb (at a.words.now a.i) a.word)
    c.if-receivers-likely.true)))

pub loop-r-init : goal.loop-r-init
loop-r-init c = (search rules, λ z l. absurd (not-suc-le-zero l))

pub returns-then-own-returned : goal.returns-then-own-returned
unfolding only_from
returns-then-own-returned c =
    let a = c.args in
    sym (ap not (any_at (λ z. against (eqb (at a.receivers.now z) a.i) (eqb (at a.words.now z) a.word))
    (length a.receivers.now) c.loop-r.r
    c.loop-r-test.true
    (differ (eqb (at a.receivers.now c.loop-r.r) a.i) (eqb (at a.words.now c.loop-r.r) a.word)
    ∙ c.if-own-returned.true)))

pub loop-r-preserved : goal.loop-r-preserved
loop-r-preserved c =
    let a = c.args in (
      search rules,
      below_more (λ z. against (eqb (at a.receivers.now z) a.i) (eqb (at a.words.now z) a.word) ≡ false)
          c.loop-r.r c.loop-r.invariant.1
          (differ (eqb (at a.receivers.now c.loop-r.r) a.i) (eqb (at a.words.now c.loop-r.r) a.word)
          ∙ c.if-own-returned.false),
    )

pub returns : goal.returns
unfolding only_from
returns c =
    let a = c.args in
    sym (ap not (any_none (λ z. against (eqb (at a.receivers.now z) a.i) (eqb (at a.words.now z) a.word))
    (length a.receivers.now) (λ z l. c.loop-r.invariant.1 z (omega arith))))
