use Rattle.scan_chain.proofs.Filling.{zero_scan}
use Rattle.scan_chain.proofs.cells.Chain.zero_scan.Goals as goal

pub returns-clause-scan : goal.returns-clause-scan
returns-clause-scan c = let chain = c.args.self in rw c.requires (zero_scan chain.cells chain.most chain.some)
