use Rattle.scan_chain.proofs.Filling.{DriversPut}
use Rattle.scan_chain.proofs.cells.Chain.scan_of.Given as goal

abbrev pub invariant-loop-i : goal.invariant-loop-i
invariant-loop-i l = DriversPut l.self.cells l.self.drivers.now l.vector l.bytes l.i
