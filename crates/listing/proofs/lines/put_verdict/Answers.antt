use Rattle.listing.specs.Report.{verdict_line}
use Rattle.listing.proofs.lines.put_verdict.Goals as goal

pub append_line-requires : goal.append_line-requires
unfolding verdict_line
append_line-requires c = rw c.in-Pass.is at c.requires

pub append_line-requires-in-Pair : goal.append_line-requires-in-Pair
unfolding verdict_line
append_line-requires-in-Pair c = rw c.in-Pair.is at c.requires

pub returns-in-Pass : goal.returns-in-Pass
unfolding verdict_line
returns-in-Pass c = rw c.in-Pass.is c.append_line.ensures

pub returns-in-Pair : goal.returns-in-Pair
unfolding verdict_line
returns-in-Pair c = rw c.in-Pair.is c.append_line-in-Pair.ensures
