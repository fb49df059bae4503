use Rattle.std.proofs.Common.{eq-eqb, ne_eqb}
use Rattle.network.specs.Reading.{active, needs_extra}
use Rattle.network.proofs.drivers.needs_extra.Goals as goal

pub returns-then-net-eq1 : goal.returns-then-net-eq1
unfolding needs_extra active
returns-then-net-eq1 c = rw (eq-eqb _ _ c.if-net-eq1.true)

pub returns : goal.returns
unfolding needs_extra active
returns c = rw (ne_eqb _ _ c.if-net-eq1.false)
