use Rattle.std.proofs.Common.{ℕ, arith, sym, ap, ◌∙◌, cond, List, eqb, length}
use Rattle.words.specs.Bits.{at}
use Rattle.checker.proofs.PassedSets.{passed_by, passed_sets_apart}
use Rattle.diagnosis.proofs.Noting.{noted_none, noted_next}
use Rattle.diagnosis.proofs.classes.note_all.Goals as goal
use Rattle.diagnosis.proofs.classes.note_all.Goals.{else-few_drivers, then-few_drivers}

-- a set of the class is noted; another one is nowhere to be noted
pub loop-set-preserved : goal.loop-set-preserved
loop-set-preserved c =
    let l = c.loop-set in
    let a = c.args in
    let t = a.passed.set in
    let net = t.nets.network in
    elim c.if-few_drivers.branch [
      | then-few_drivers w ↦ (
        omega arith,
        noted_next net t.class t.vectors.now a.answers.now l.reaches c.if-few_drivers.reaches l.set l.invariant.1
            (passed_sets_apart net t.class t.vectors.now (passed_by net t.class t.vectors.now t.admitted a.passed.passed)) (omega arith)
            (sym c.few_drivers.ensures ∙ w.if-few_drivers.true)
            (λ i m. ap (λ (ws : List ℕ). at ws i) w.reaches-is ∙ w.note.ensures i m
            ∙ ap (λ (x : ℕ). cond (eqb (at a.answers.now i) x) l.set (at l.reaches i))
            w.sequential_response-response.ensures),
      )
      | else-few_drivers w ↦ (
        ap length w.reaches-is ∙ l.invariant.0,
        noted_none net t.class t.vectors.now a.answers.now l.reaches c.if-few_drivers.reaches l.set l.invariant.1
            (sym c.few_drivers.ensures ∙ w.if-few_drivers.false) w.reaches-is,
      )
    ]
