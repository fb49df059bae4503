use Rattle.std.proofs.Common.{ap, ◌∙◌, not}
use Rattle.jobfile.proofs.FileRows.{starts_same}
use Rattle.jobfile.proofs.bad_mark.Goals as goal

pub returns : goal.returns
returns c = ap not (c.starts_with.ensures.value ∙ starts_same c.args.file.now)
