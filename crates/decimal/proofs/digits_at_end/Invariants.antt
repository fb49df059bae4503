use Rattle.std.proofs.Common.{◌≡◌, ◌<◌, ◌^◌, ◌++◌, drop}
use Rattle.decimal.specs.Decimal.{decimal}
use Rattle.decimal.proofs.digits_at_end.Given as goal

-- the digits from an index on, and before them those of the rest; it is 0 at most before the first turn
abbrev pub invariant-loop-start : goal.invariant-loop-start
invariant-loop-start l =
    (l.rest < 10 ^ l.start) × (l.rest ≡ 0 → l.start ≡ 20) × (decimal l.n ≡ decimal l.rest ++ drop l.start l.buffer)
