use Rattle.std.proofs.Common.{◌≡◌, ◌++◌, take, drop}
use Rattle.scan_chain.specs.Responses.{responses}
use Rattle.scan_chain.proofs.tdo.fill_responses.Given as goal

abbrev pub invariant-loop-t : goal.invariant-loop-t
invariant-loop-t l = l.out ≡ take l.t (responses l.cells l.receivers l.count l.tdo) ++ drop l.t l.initial.out
