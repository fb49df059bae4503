use Rattle.std.proofs.Common.{sym, ◌∙◌}
use Rattle.network.proofs.Reading.{extra_one, extra_none}
use Rattle.steps.proofs.second.extra_alone.Goals as goal

pub returns-then-needs_extra : goal.returns-then-needs_extra
returns-then-needs_extra c =
    rw (
      c.push.ensures.items,
      c.new-vectors.ensures,
      extra_one c.args.nets.network (sym c.needs_extra.ensures ∙ c.if-needs_extra.true),
      c.extra_vector.ensures,
    )

pub returns-else-needs_extra : goal.returns-else-needs_extra
returns-else-needs_extra c =
    rw (c.new-vectors.ensures, extra_none c.args.nets.network (sym c.needs_extra.ensures ∙ c.if-needs_extra.false))
