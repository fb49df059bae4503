use Rattle.std.proofs.Common.{rules}
use Rattle.words.specs.Writing.{written}
use Rattle.jobfile.proofs.append_mark.Goals as goal

pub returns-clause-items : goal.returns-clause-items
unfolding written
returns-clause-items g c = search rules
