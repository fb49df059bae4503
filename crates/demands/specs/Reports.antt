-- The report: what it says of a file, whatever its bytes. It is one of four shapes: `refused N` alone; line one alone;
-- line one and a line a net; line one and `refused 13` or `refused 14`.
use Rattle.std.specs.Prelude.{ℕ, ◌≡◌, ◌⊎◌, ◌≢◌, List, [], ◌++◌, length, take}
use Rattle.words.specs.Answers.{full, NoneHolds}
use Rattle.network.specs.declared.Network.{Network}
use Rattle.network.specs.States.{Fits}
use Rattle.checker.specs.declared.Verdict.{Verdict}
use Rattle.checker.specs.Rule.{Rule}
use Rattle.checker.specs.Passed.{Row13}
use Rattle.diagnosis.specs.Diagnosis.{Row14}
use Rattle.reader.specs.Reader.{JobContent, content, ReaderRows}
use Rattle.listing.specs.Report.{refused_line, verdict_line, net_lines, deciding_bytes}
use Rattle.demands.specs.Demand1.{FirstRow}
use Rattle.demands.specs.JobFiles.{WriterProgram, file_written}

-- a program that writes text for a file's bytes
abbrev pub ReportProgram : Type 0
ReportProgram = List ℕ → List ℕ

-- what follows line one
pub data Follows (job : JobContent) : List ℕ → Type 0 where
  nothing : job.responses ≡ [] → Follows job []
  not_passed : job.responses ≢ [] → Row13 job.network job.class job.vectors → Follows job (refused_line 13)
  no_state : job.responses ≢ [] → ¬ (Row13 job.network job.class job.vectors)
      → Row14 job.network job.network.nets job.class job.vectors job.responses
      → Follows job (refused_line 14)
  a_line_a_net : job.responses ≢ [] → ¬ (Row13 job.network job.class job.vectors) → (state : List ℕ)
      → Fits job.network job.network.nets job.class job.vectors job.responses state
      → Follows job (net_lines job.network state 0 job.network.nets)

-- line one, with the verdict of the checker's rule, and what follows it
pub record LineOne (job : JobContent) (text : List ℕ) : Type 0 where
  pub verdict : Verdict
  pub by_rule : Rule job.network job.class job.vectors verdict
  pub rest : List ℕ
  pub follows : Follows job rest
  pub whole : text ≡ verdict_line job.network job.class (length job.vectors) verdict ++ rest

-- the reader's refusal alone, by the first of its rows that holds; or, if none holds, line one of the file's content.
-- 64 words are enough for either list, so row 12 never holds here.
abbrev pub Says : (file text : List ℕ) → Type 0
Says file text =
    ((number : ℕ) × FirstRow (ReaderRows file 64 64) number × (text ≡ refused_line number)) ⊎
    (NoneHolds (ReaderRows file 64 64) × LineOne (content file) text)

abbrev pub Reports : ReportProgram → Type 0
Reports program = (file : List ℕ) → Says file (program file)

-- a file's first bytes decide what is written, whatever follows them
abbrev pub FirstBytesDecide : ReportProgram → Type 0
FirstBytesDecide program = (file : List ℕ) → program (take deciding_bytes file) ≡ program file

-- of one content written in either kind one report is written
abbrev pub KindsReportAlike : ReportProgram → WriterProgram → Type 0
KindsReportAlike program writer =
    (net : Network) (k : ℕ) (vectors responses lent other_lent : List ℕ) (count other_count : ℕ)
    → (writer 2 net k vectors responses lent).returned ≡ full count
    → (writer 4 net k vectors responses other_lent).returned ≡ full other_count
    → program (file_written (writer 2 net k vectors responses lent) count)
    ≡ program (file_written (writer 4 net k vectors responses other_lent) other_count)
