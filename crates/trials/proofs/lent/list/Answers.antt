use Rattle.std.proofs.Common.{◌∙◌, ap, take, arith}
use Rattle.std.proofs.lemmas.List.{take-replicate}
use Rattle.trials.proofs.lent.list.Goals as goal

pub returns : goal.returns
returns c =
    c.truncate.ensures.items ∙ (ap (take c.args.room) c.from-list.ensures.0 ∙ take-replicate c.args.room 64 99 (omega arith))
