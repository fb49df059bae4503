-- Our answer to *findings* keeps its promise, and no other program does.
use Rattle.std.proofs.Common.{◌≡◌, refl, List, ℕ, length}
use Rattle.words.proofs.Answers.{fills_determined}
use Rattle.network.specs.declared.Network.{Network}
use Rattle.findings.specs.declared.Finding.{Finding}
use Rattle.findings.specs.FindingsTable.{FindingsRows, Findings, findings_answer}
use Rattle.findings.proofs.FindingsLaws.{findings_by_table, findings_determined}
use Rattle.demands.specs.FindingsCall.{FindingsProgram, Finds}
use Rattle.demands.specs.Programs.{our_findings}

pub finds : Finds our_findings
finds net owners state lent = record {
  answer = findings_answer net owners state (length lent);
  allowed = findings_by_table net owners state (length lent);
  returned = refl;
  list = refl;
}

pub findings_determined_program : (p q : FindingsProgram) → Finds p → Finds q
    → (net : Network) (owners state : List ℕ) (lent : List Finding)
    → p net owners state lent ≡ q net owners state lent
findings_determined_program p q f g net owners state lent =
    fills_determined (FindingsRows net owners state (length lent)) (Findings net owners state) lent
    (p net owners state lent) (q net owners state lent)
    (findings_determined net owners state (length lent)) (f net owners state lent) (g net owners state lent)
