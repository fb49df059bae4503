use Rattle.std.proofs.Common.{◌^◌, ◌≡◌, length}
use Rattle.words.specs.Searching.{sets_of_class}
use Rattle.words.proofs.Counting.{Top}
use Rattle.words.proofs.ranks.two_at.Given as goal

abbrev pub invariant-loop-two : goal.invariant-loop-two
invariant-loop-two l =
    Top 1 l.drivers l.index l.driver × (l.two ≡ length (sets_of_class 2 (2 ^ l.driver)))

abbrev pub decreases-loop-two : goal.decreases-loop-two
decreases-loop-two l = l.driver
