use Rattle.std.proofs.Common.{ℕ, ap₂, Bool, ◌&&◌, eqb}
use Rattle.network.proofs.admitting.Nets.is_extra.Goals as goal

pub returns : goal.returns
returns c =
    ap₂ (λ (needed : Bool) (extra : ℕ). needed && eqb c.args.vector extra) c.needs_extra-needed.ensures
    c.extra_vector-extra.ensures
