use Rattle.std.proofs.Common.{eq-eqb, ne_eqb}
use Rattle.network.specs.Joint.{with_driver}
use Rattle.network.proofs.receivers.with_driver.Goals as goal

pub returns-then-net-eq1 : goal.returns-then-net-eq1
unfolding with_driver
returns-then-net-eq1 c = rw (eq-eqb _ _ c.if-net-eq1.true)

pub returns : goal.returns
unfolding with_driver
returns c = rw (ne_eqb _ _ c.if-net-eq1.false)
