use Rattle.std.proofs.Common.{eq-eqb, ne_eqb}
use Rattle.network.specs.Reading.{walking_vector}
use Rattle.network.proofs.admitting.Nets.walking_vector.Goals as goal

pub returns-then-self-eq1 : goal.returns-then-self-eq1
unfolding walking_vector
returns-then-self-eq1 c = rw (eq-eqb _ _ c.if-self-eq1.true) c.all_but.ensures

pub returns : goal.returns
unfolding walking_vector
returns c = rw (ne_eqb _ _ c.if-self-eq1.false) c.bit_word.ensures
