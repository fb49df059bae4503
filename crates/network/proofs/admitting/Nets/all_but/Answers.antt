use Rattle.std.proofs.Common.{ℕ, ◌-◌, ap₂, arith}
use lib.Pow.{pow-lt}
use Rattle.network.specs.Reading.{all_drivers, all_but}
use Rattle.network.proofs.admitting.Nets.all_but.Goals as goal

pub overflow_sub-result : goal.overflow_sub-result
unfolding all_drivers
overflow_sub-result c =
    let a = c.args in
    omega (arith, c.bit_word.ensures, c.all_drivers.ensures, pow-lt {i = a.i} {j = a.self.network.nets} (omega arith))

pub returns : goal.returns
unfolding all_but
returns c = ap₂ (λ (x y : ℕ). x - y) c.all_drivers.ensures c.bit_word.ensures
