use Rattle.std.proofs.Common.{◌≡◌}
use Rattle.words.specs.Writing.{written}
use Rattle.scan_chain.specs.Scans.{all_zero}
use Rattle.scan_chain.proofs.Putting.{scans_to}
use Rattle.scan_chain.proofs.clocks.put_clocks.Given as goal

abbrev pub invariant-loop-t : goal.invariant-loop-t
invariant-loop-t l = l.out ≡ written l.initial.out 0 (scans_to l.cells l.drivers all_zero l.vectors l.t)
