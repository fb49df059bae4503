use Rattle.std.proofs.Common.{◌≤◌, length}
use Rattle.network.proofs.NamedNets.{Named}
use Rattle.network.proofs.admitting.Nets.bad_receivers.Given as goal

abbrev pub invariant-loop-owner : goal.invariant-loop-owner
invariant-loop-owner l = (length l.receivers ≤ 64) × Named l.self.network l.receivers l.named l.owner-index
