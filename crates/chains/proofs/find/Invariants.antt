use Rattle.std.proofs.Common.{length}
use Rattle.chains.proofs.Following.{Following}
use Rattle.chains.proofs.find.Given as goal

abbrev pub invariant-loop-place : goal.invariant-loop-place
invariant-loop-place l = Following (length l.heads) l.word l.words l.count l.place l.found

abbrev pub decreases-loop-place : goal.decreases-loop-place
decreases-loop-place l = l.place
