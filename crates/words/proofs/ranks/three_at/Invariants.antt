use Rattle.std.proofs.Common.{◌^◌, ◌≡◌, length}
use Rattle.words.specs.Searching.{sets_of_class}
use Rattle.words.proofs.Counting.{Top}
use Rattle.words.proofs.ranks.three_at.Given as goal

abbrev pub invariant-loop-three : goal.invariant-loop-three
invariant-loop-three l =
    Top 2 48 l.index l.driver × (l.two ≡ length (sets_of_class 2 (2 ^ l.driver))) × (l.three ≡ length (sets_of_class 3 (2 ^ l.driver)))

abbrev pub decreases-loop-three : goal.decreases-loop-three
decreases-loop-three l = l.driver
