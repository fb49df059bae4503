use Rattle.std.proofs.Common.{eq-eqb, ne_eqb}
use Rattle.network.specs.Joint.{no_drivers}
use Rattle.network.proofs.receivers.no_drivers.Goals as goal

pub returns-then-net-eq1 : goal.returns-then-net-eq1
unfolding no_drivers
returns-then-net-eq1 c = rw (eq-eqb _ _ c.if-net-eq1.true) c.low_ones.ensures

pub returns : goal.returns
unfolding no_drivers
returns c = rw (ne_eqb _ _ c.if-net-eq1.false)
