use Rattle.std.proofs.Common.{sym, ◌∙◌}
use Rattle.jobfile.proofs.FileRows.{two_entries}
use Rattle.reader.proofs.layout.admit_file.Goals as goal

pub invariant_of-laid_out : goal.invariant_of-laid_out
invariant_of-laid_out c =
    let passed = sym c.bad_layout.ensures ∙ c.in_ok-refuse_if-2.ensures.passed in
    record { laid_out = passed; two = two_entries c.args.file.now passed }
