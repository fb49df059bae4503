use Rattle.std.proofs.Common.{sym}
use Rattle.network.proofs.Reading.{meets_and}
use Rattle.network.proofs.receivers.meets.Goals as goal

pub returns : goal.returns
returns c = sym (meets_and c.args.net c.args.a c.args.b c.requires)
