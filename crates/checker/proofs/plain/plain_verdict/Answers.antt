use Rattle.std.proofs.Common.{ℕ, ◌≡◌, ◌≤◌, ◌<◌, ◌^◌, sym, ◌∙◌, false, length, List, below_more, length-take-le, rules}
use Rattle.std.proofs.Common.{arith, pow_mono}
use Rattle.checker.proofs.Ascending.{confused_at, not_few, none_alike, first_pair, all_pass}
use Rattle.checker.proofs.PlainSearch.{finds_smaller}
use Rattle.checker.proofs.plain.plain_verdict.Goals as goal
use Rattle.checker.proofs.plain.plain_verdict.Goals.{then-few_drivers+in_default, else-few_drivers}

-- the sets of at most 10 nets
all_sets : (n : ℕ) → n ≤ 10 → 2 ^ n ≤ 1024
all_sets n few = pow_mono {i = n} {j = 10} few

pub fill_readings-requires : goal.fill_readings-requires
fill_readings-requires c = (c.requires.0, c.requires.1, all_sets c.args.net.nets c.requires.1)

pub shared_ref_as_front-first_alike : goal.shared_ref_as_front-first_alike
shared_ref_as_front-first_alike c = omega (arith, all_sets c.args.net.nets c.requires.1)

pub bounds-words-b : goal.bounds-words-b
bounds-words-b c = omega (arith, all_sets c.args.net.nets c.requires.1)

pub returns-in-Some : goal.returns-in-Some
returns-in-Some c =
    let a = c.args in
    let words = c.fill_readings.new.words in
    let inside : c.loop-b.b < 2 ^ a.net.nets = omega arith in
    let room : c.loop-b.b ≤ length words = omega (arith, all_sets a.net.nets c.requires.1) in
    sym (first_pair a.net a.class a.vectors.now c.in-Some.a c.loop-b.b inside c.loop-b.invariant
    (sym c.few_drivers.ensures ∙ c.if-few_drivers.true)
    (sym (finds_smaller a.net a.class a.vectors.now words c.fill_readings.ensures c.loop-b.b inside room)
    ∙ sym c.first_alike.ensures ∙ c.in-Some.is))

pub loop-b-preserved : goal.loop-b-preserved
loop-b-preserved c =
    let a = c.args in
    let words = c.fill_readings.new.words in
    let inside : c.loop-b.b < 2 ^ a.net.nets = omega arith in
    let room : c.loop-b.b ≤ length words = omega (arith, all_sets a.net.nets c.requires.1) in
    below_more (λ z. confused_at a.net a.class a.vectors.now z ≡ false) c.loop-b.b c.loop-b.invariant
    (elim c.if-few_drivers.branch [
      | then-few_drivers+in_default w ↦ none_alike a.net a.class a.vectors.now c.loop-b.b
          (sym (finds_smaller a.net a.class a.vectors.now words c.fill_readings.ensures c.loop-b.b inside room)
          ∙ sym w.first_alike.ensures ∙ w.in_default.is)
      | else-few_drivers w ↦ not_few a.net a.class a.vectors.now c.loop-b.b
          (sym c.few_drivers.ensures ∙ w.if-few_drivers.false)
    ])

pub returns : goal.returns
returns c =
    let a = c.args in
    sym (all_pass a.net a.class a.vectors.now (λ z m. c.loop-b.invariant z (omega arith)))
