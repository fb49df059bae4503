use Rattle.std.proofs.Common.{ℕ, ◌+◌, ◌*◌, ◌^◌, ◌<◌, ◌≡◌, length}
use Rattle.words.specs.Bits.{has, bit_value, at}
use Rattle.words.proofs.turning.add_row.Given as goal

-- each entry, with the bit that the rest still adds to it
abbrev pub invariant-loop-rest : goal.invariant-loop-rest
invariant-loop-rest g l =
    (l.rest < 2 ^ 64) × (length l.columns ≡ 64)
    × ((i : ℕ) → i < 64 → at l.columns i + bit_value (has l.rest i) * 2 ^ l.t
    ≡ at l.initial.columns i + bit_value (has l.initial.rest i) * 2 ^ l.t)

abbrev pub decreases-loop-rest : goal.decreases-loop-rest
decreases-loop-rest g l = l.rest
