use Rattle.std.proofs.Common.{◌≡◌, ◌*◌, drop}
use Rattle.words.specs.Writing.{written}
use Rattle.packing.specs.Packed.{finding_words}
use Rattle.packing.proofs.table.put_findings.Given as goal

abbrev pub invariant-loop-i : goal.invariant-loop-i
invariant-loop-i l =
    written l.table (3 * l.i) (finding_words (drop l.i l.records)) ≡ written l.initial.table 0 (finding_words l.records)
