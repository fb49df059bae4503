use Rattle.chains.proofs.Adding.{chains_first}
use Rattle.chains.proofs.Table.new.Goals as goal

pub invariant_of-result : goal.invariant_of-result
invariant_of-result g c = chains_first _ _ g.row.SLOTS c.requires
