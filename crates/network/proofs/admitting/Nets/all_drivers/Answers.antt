use Rattle.std.proofs.Common.{ℕ, ◌-◌, ap, arith, pow_pos}
use Rattle.network.specs.Reading.{all_drivers}
use Rattle.network.proofs.admitting.Nets.all_drivers.Goals as goal

pub overflow_sub-result : goal.overflow_sub-result
overflow_sub-result c = omega (arith, c.bit_word.ensures, pow_pos c.args.self.network.nets)

pub returns : goal.returns
unfolding all_drivers
returns c = ap (λ (x : ℕ). x - 1) c.bit_word.ensures
