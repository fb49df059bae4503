use Rattle.std.proofs.Common.{refl}
use Rattle.network.proofs.refusals.no_room.Goals as goal

pub returns : goal.returns
returns c = refl
