use Rattle.std.proofs.Common.{◌-◌, ◌%◌, length, refl, arith}
use lib.Bits.{and_le_r}
use Rattle.chains.specs.Chains.{slot}
use Rattle.chains.proofs.slot_of.Goals as goal

pub returns : goal.returns
unfolding slot
returns c = (refl, omega (arith, and_le_r (c.args.word % 32749) (length c.args.heads.now - 1)))
