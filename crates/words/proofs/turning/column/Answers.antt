use Rattle.std.proofs.Common.{rules, arith, ◌∙◌, eq-eqb, ne_eqb}
use Rattle.words.specs.Bits.{has, word}
use Rattle.words.specs.Turning.{column}
use Rattle.words.proofs.Making.{word_set, word_keep, word_whole}
use Rattle.words.proofs.turning.column.Goals as goal
use Rattle.words.proofs.turning.column.Goals.{else-row-i-eq1, then-row-i-eq1}

pub loop-t-init : goal.loop-t-init
unfolding word
loop-t-init c = search rules

pub loop-t-preserved : goal.loop-t-preserved
unfolding has
loop-t-preserved c =
    let a = c.args in
    let l = c.loop-t in
    elim c.if-row-i-eq1.branch [
      | then-row-i-eq1 w ↦ w.w-is ∙ word_set (λ v. has v a.i) a.rows.now l.t l.w l.invariant (omega arith)
          (omega arith) (eq-eqb _ 1 w.if-row-i-eq1.true)
      | else-row-i-eq1 w ↦ w.w-is ∙ word_keep (λ v. has v a.i) a.rows.now l.t l.w l.invariant (omega arith) (ne_eqb _ 1 w.if-row-i-eq1.false)
    ]

pub returns : goal.returns
unfolding column
returns c =
    let a = c.args in
    c.loop-t.invariant ∙ word_whole (λ v. has v a.i) a.rows.now c.loop-t.t c.loop-t-test.false
