use Rattle.std.proofs.Common.{rules}
use Rattle.exports.specs.Exported.{code}
use Rattle.exports.proofs.code_of.Goals as goal

pub returns-in-Ok : goal.returns-in-Ok
unfolding code
returns-in-Ok g c = search rules

pub returns-in-Err : goal.returns-in-Err
unfolding code
returns-in-Err g c = search rules
