use Rattle.std.proofs.Common.{◌≡◌, ◌<◌, ◌^◌, eq-eqb, length, sym, ◌∙◌, rules, arith}
use Rattle.words.specs.Bits.{at}
use Rattle.words.proofs.Tests.{and_both}
use Rattle.words.proofs.Searching.{least_found, least_missing}
use Rattle.checker.proofs.plain.first_alike.Invariants.{alike}
use Rattle.checker.proofs.plain.first_alike.Goals as goal

pub returns-then-few_drivers : goal.returns-then-few_drivers
returns-then-few_drivers c =
    let a = c.args in
    let i = c.loop-set.set in
    let fits : at a.words.now i < 2 ^ 64 = search rules in
    let same : at a.words.now i ≡ a.word = omega (arith, c.if-read-word.true) in
    sym (least_found (alike a.net a.class a.words.now a.word) (length a.words.now) c.loop-set.set
    c.loop-set-test.true c.loop-set.invariant
    (and_both (sym c.few_drivers.ensures ∙ c.if-few_drivers.true) (eq-eqb _ _ same)))

pub returns : goal.returns
returns c =
    let a = c.args in
    sym (least_missing (alike a.net a.class a.words.now a.word) (length a.words.now) (λ z l. c.loop-set.invariant z (omega arith)))
