use Rattle.std.proofs.Common.{rules, arith, ◌∙◌}
use Rattle.turning.proofs.Filling.{turn_more, turn_end}
use Rattle.turning.proofs.fill.Goals as goal

pub loop-i-preserved : goal.loop-i-preserved
loop-i-preserved g c =
    let l = c.loop-i in
    let a = c.args in (
      search rules,
      turn_more a.count a.rows.now a.out.now l.out l.i l.invariant.1 _
          (c.bits.ensures ∙ c.turned_word.ensures ∙ c.columns-columns.ensures.1 l.i c.loop-i-test.true)
          c.loop-i-test.true (omega arith),
    )

pub returns : goal.returns
returns g c =
    let l = c.loop-i in
    let a = c.args in
    turn_end a.count a.rows.now a.out.now l.out l.i l.invariant.1 (omega arith) c.loop-i-test.false
