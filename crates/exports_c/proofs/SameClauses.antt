-- What each function for C asks and ensures is, word for word, what the call of `exports` does, of which `agreement`
-- says that it is the program's.
use mathlib.Core.Path.{◌≡◌, refl}
use seplogic.Ra.Ura.{Ura}
use base.Logic.{SProp}
use prog.Memory.{Memory}
use prog.Routine.{Routine}
use types.Logic.{Logic}
use contract.Monad.{Fun}
use Rattle.exports.specs.contracts.fontarelga_check as Check
use Rattle.exports_c.specs.contracts.fontarelga_check as CheckC
use Rattle.exports.specs.contracts.fontarelga_shorten as Shorten
use Rattle.exports_c.specs.contracts.fontarelga_shorten as ShortenC
use Rattle.exports.specs.contracts.fontarelga_own_receivers as OwnReceivers
use Rattle.exports_c.specs.contracts.fontarelga_own_receivers as OwnReceiversC
use Rattle.exports.specs.contracts.fontarelga_respond as Respond
use Rattle.exports_c.specs.contracts.fontarelga_respond as RespondC
use Rattle.exports.specs.contracts.fontarelga_diagnose as Diagnose
use Rattle.exports_c.specs.contracts.fontarelga_diagnose as DiagnoseC
use Rattle.exports.specs.contracts.fontarelga_findings as Findings
use Rattle.exports_c.specs.contracts.fontarelga_findings as FindingsC
use Rattle.exports.specs.contracts.fontarelga_begin as Begin
use Rattle.exports_c.specs.contracts.fontarelga_begin as BeginC
use Rattle.exports.specs.contracts.fontarelga_first_answers as FirstAnswers
use Rattle.exports_c.specs.contracts.fontarelga_first_answers as FirstAnswersC
use Rattle.exports.specs.contracts.fontarelga_second_answers as SecondAnswers
use Rattle.exports_c.specs.contracts.fontarelga_second_answers as SecondAnswersC
use Rattle.exports.specs.contracts.fontarelga_to_drive as ToDrive
use Rattle.exports_c.specs.contracts.fontarelga_to_drive as ToDriveC
use Rattle.exports.specs.contracts.fontarelga_turn as Turn
use Rattle.exports_c.specs.contracts.fontarelga_turn as TurnC
use Rattle.exports.specs.contracts.fontarelga_turn_back as TurnBack
use Rattle.exports_c.specs.contracts.fontarelga_turn_back as TurnBackC
use Rattle.exports.specs.contracts.fontarelga_write_clocks as WriteClocks
use Rattle.exports_c.specs.contracts.fontarelga_write_clocks as WriteClocksC
use Rattle.exports.specs.contracts.fontarelga_read_clocks as ReadClocks
use Rattle.exports_c.specs.contracts.fontarelga_read_clocks as ReadClocksC
use Rattle.exports.specs.contracts.fontarelga_read_job as ReadJob
use Rattle.exports_c.specs.contracts.fontarelga_read_job as ReadJobC
use Rattle.exports.specs.contracts.fontarelga_write_job as WriteJob
use Rattle.exports_c.specs.contracts.fontarelga_write_job as WriteJobC

module _ {M : Type 1} {𝓤 : Ura M} (𝓛 : Logic 𝓤) (at_mem : Memory → SProp 𝓤) (run : Routine → Fun 𝓤) where
  pub check_same : CheckC.clauses 𝓛 at_mem run ≡ Check.clauses 𝓛 at_mem run
  check_same = refl

  pub shorten_same : ShortenC.clauses 𝓛 at_mem run ≡ Shorten.clauses 𝓛 at_mem run
  shorten_same = refl

  pub own_receivers_same : OwnReceiversC.clauses 𝓛 at_mem run ≡ OwnReceivers.clauses 𝓛 at_mem run
  own_receivers_same = refl

  pub respond_same : RespondC.clauses 𝓛 at_mem run ≡ Respond.clauses 𝓛 at_mem run
  respond_same = refl

  pub diagnose_same : DiagnoseC.clauses 𝓛 at_mem run ≡ Diagnose.clauses 𝓛 at_mem run
  diagnose_same = refl

  pub findings_same : FindingsC.clauses 𝓛 at_mem run ≡ Findings.clauses 𝓛 at_mem run
  findings_same = refl

  pub begin_same : BeginC.clauses 𝓛 at_mem run ≡ Begin.clauses 𝓛 at_mem run
  begin_same = refl

  pub first_answers_same : FirstAnswersC.clauses 𝓛 at_mem run ≡ FirstAnswers.clauses 𝓛 at_mem run
  first_answers_same = refl

  pub second_answers_same : SecondAnswersC.clauses 𝓛 at_mem run ≡ SecondAnswers.clauses 𝓛 at_mem run
  second_answers_same = refl

  pub to_drive_same : ToDriveC.clauses 𝓛 at_mem run ≡ ToDrive.clauses 𝓛 at_mem run
  to_drive_same = refl

  pub turn_same : TurnC.clauses 𝓛 at_mem run ≡ Turn.clauses 𝓛 at_mem run
  turn_same = refl

  pub turn_back_same : TurnBackC.clauses 𝓛 at_mem run ≡ TurnBack.clauses 𝓛 at_mem run
  turn_back_same = refl

  pub write_clocks_same : WriteClocksC.clauses 𝓛 at_mem run ≡ WriteClocks.clauses 𝓛 at_mem run
  write_clocks_same = refl

  pub read_clocks_same : ReadClocksC.clauses 𝓛 at_mem run ≡ ReadClocks.clauses 𝓛 at_mem run
  read_clocks_same = refl

  pub read_job_same : ReadJobC.clauses 𝓛 at_mem run ≡ ReadJob.clauses 𝓛 at_mem run
  read_job_same = refl

  pub write_job_same : WriteJobC.clauses 𝓛 at_mem run ≡ WriteJob.clauses 𝓛 at_mem run
  write_job_same = refl
