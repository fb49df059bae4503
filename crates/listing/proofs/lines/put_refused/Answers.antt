use Rattle.listing.specs.Report.{refused_line}
use Rattle.listing.proofs.lines.put_refused.Goals as goal

pub append_line-requires : goal.append_line-requires
unfolding refused_line
append_line-requires c = c.requires

pub returns : goal.returns
unfolding refused_line
returns c = c.append_line.ensures
