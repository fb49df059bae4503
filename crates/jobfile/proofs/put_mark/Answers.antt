use Rattle.std.proofs.Common.{List, ℕ, ◌++◌, ap, drop}
use Rattle.words.specs.Writing.{written}
use Rattle.jobfile.proofs.put_mark.Goals as goal

pub returns : goal.returns
unfolding written
returns c = ap (λ (front : List ℕ). front ++ drop 4 c.args.file.now) c.copy_from_slice.ensures.after
