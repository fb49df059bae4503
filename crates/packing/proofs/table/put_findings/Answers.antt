use Rattle.std.proofs.Common.{refl, sym, ◌∙◌, arith}
use Rattle.words.proofs.Writing.{written_front}
use Rattle.findings.specs.FindingsTable.{blank}
use Rattle.packing.specs.Packed.{finding_words}
use Rattle.packing.proofs.Tabling.{findings_turn, findings_end}
use Rattle.packing.proofs.table.put_findings.Goals as goal

pub loop-i-preserved : goal.loop-i-preserved
loop-i-preserved c =
    let l = c.loop-i in
    findings_turn c.args.records.now l.i l.table _ blank _ refl c.put_at.ensures c.loop-i-test.true (omega arith) ∙ l.invariant

pub returns : goal.returns
returns c =
    let l = c.loop-i in
    let a = c.args in
    sym (findings_end a.records.now l.i l.table (omega arith)) ∙ l.invariant
    ∙ written_front a.table.now (finding_words a.records.now)
