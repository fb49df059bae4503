use Rattle.std.proofs.Common.{arith}
use Rattle.words.specs.Bits.{has}
use Rattle.scan_chain.proofs.ChainRows.{drivers_distinct}
use Rattle.scan_chain.proofs.Filling.{no_driver_put, driver_put, drivers_put}
use Rattle.scan_chain.proofs.cells.Chain.scan_of.Goals as goal

pub loop-i-init : goal.loop-i-init
loop-i-init c =
    let chain = c.args.self in
    no_driver_put chain.cells chain.drivers.now c.args.vector c.zero_scan.new.bytes c.zero_scan.ensures.size
    c.zero_scan.ensures.scan

pub loop-i-preserved : goal.loop-i-preserved
unfolding has
loop-i-preserved c =
    let l = c.loop-i in
    let chain = c.args.self in
    driver_put chain.cells chain.drivers.now c.args.vector l.bytes l.i chain.most
    (drivers_distinct chain.cells chain.drivers.now chain.receivers.now chain.distinct) l.invariant c.clock.result
    (omega arith) c.clock.ensures

pub returns-clause-scan : goal.returns-clause-scan
returns-clause-scan c =
    let l = c.loop-i in
    let chain = c.args.self in
    drivers_put chain.cells chain.drivers.now c.args.vector l.bytes _ chain.most
    (drivers_distinct chain.cells chain.drivers.now chain.receivers.now chain.distinct) l.invariant (omega arith)
