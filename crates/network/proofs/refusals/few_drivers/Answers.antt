use Rattle.std.proofs.Common.{◌∙◌, sym, ap, ℕ, leb}
use Rattle.words.proofs.Classes.{ones_counted}
use Rattle.network.specs.States.{few_drivers}
use Rattle.network.proofs.refusals.few_drivers.Goals as goal

pub returns : goal.returns
unfolding few_drivers
returns c =
    let a = c.args in
    ap (λ (x : ℕ). leb x a.class) (c.count_of_ones.ensures ∙ sym (ones_counted a.net.nets a.set c.requires))
