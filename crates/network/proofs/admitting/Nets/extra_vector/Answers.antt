use Rattle.std.proofs.Common.{eq-eqb, ne_eqb}
use Rattle.network.specs.Reading.{extra_vector}
use Rattle.network.proofs.admitting.Nets.extra_vector.Goals as goal

pub returns-then-self-eq1 : goal.returns-then-self-eq1
unfolding extra_vector
returns-then-self-eq1 c = rw (eq-eqb _ _ c.if-self-eq1.true) c.all_drivers.ensures

pub returns : goal.returns
unfolding extra_vector
returns c = rw (ne_eqb _ _ c.if-self-eq1.false)
