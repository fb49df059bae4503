use Rattle.std.proofs.Common.{refl}
use Rattle.network.proofs.refusals.bad_net_count.Goals as goal

pub returns : goal.returns
returns c = refl
