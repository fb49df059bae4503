use Rattle.std.proofs.Common.{◌-◌, ◌+◌, ◌*◌, ◌^◌}
use Rattle.std.specs.Int.Count.{ones}
use Rattle.checker.specs.Seen.{Seen}
use Rattle.checker.proofs.search.Visits.+visit_below_visit_with.Given as goal

abbrev pub decreases-visit_below : goal.decreases-visit_below
decreases-visit_below g l = 2 * (l.self.now.search.class - ones l.set)

abbrev pub decreases-visit_with : goal.decreases-visit_with
decreases-visit_with g l = 2 * l.left - 1

abbrev pub invariant-visit_below-loop-driver : goal.invariant-visit_below-loop-driver
invariant-visit_below-loop-driver g l =
    let s = l.self.search in Seen s.net s.class s.vectors.now l.table (l.set + 2 ^ l.driver)
