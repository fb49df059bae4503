-- Each wrong program for *findings* leaves another table than ours at one small input.
use Rattle.std.proofs.Common.{◌≡◌, ap, ◌≢◌, List, [], ◌∷◌, ℕ, arith, get_or}
use Rattle.words.specs.Answers.{Filled}
use Rattle.findings.specs.declared.Finding.{Finding}
use Rattle.findings.specs.Open.{open_findings}
use Rattle.demands.specs.FindingsCall.{FindingsProgram, Finds}
use Rattle.demands.specs.Refuted.{finds_nothing, one_record_short, clears_when_refused}
use Rattle.demands.specs.Programs.{our_findings}
use Rattle.demands.specs.Starred.{own, two}
use Rattle.demands.proofs.Findings.{finds, findings_determined_program}

-- a record that is found on no net, and a table of two
abbrev other : Finding
other = record { kind = 9; reach = 9; partners = 9 }

abbrev others : List Finding
others = other ∷ other ∷ []

-- the kind in record i of the table after the call
abbrev kind_after : FindingsProgram → List ℕ → ℕ → ℕ
kind_after program state i = (get_or (program two (own two) state others).list i other).kind

differs : (program : FindingsProgram) (state : List ℕ) (i : ℕ)
    → kind_after program state i ≢ kind_after our_findings state i → ¬ (Finds program)
differs program state i d h =
    d (ap (λ (f : Filled Finding). (get_or f.list i other).kind)
    (findings_determined_program program our_findings h finds two (own two) state others))

pub table_as_lent : ¬ (Finds finds_nothing)
unfolding open_findings
table_as_lent = differs finds_nothing (2 ∷ 2 ∷ []) 0 (λ e. let z : ◌≡◌ {A = ℕ} 9 3 = e in omega arith)

pub record_not_written : ¬ (Finds one_record_short)
unfolding open_findings
record_not_written = differs one_record_short (2 ∷ 2 ∷ []) 1 (λ e. let z : ◌≡◌ {A = ℕ} 9 2 = e in omega arith)

pub table_cleared : ¬ (Finds clears_when_refused)
unfolding open_findings
table_cleared = differs clears_when_refused (3 ∷ 1 ∷ []) 0 (λ e. let z : ◌≡◌ {A = ℕ} 0 9 = e in omega arith)
