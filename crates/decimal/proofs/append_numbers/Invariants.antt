use Rattle.std.proofs.Common.{◌≡◌, ◌++◌, drop}
use Rattle.decimal.specs.Decimal.{numbers_end}
use Rattle.decimal.proofs.append_numbers.Given as goal

-- the rest of the line makes the text whole
abbrev pub invariant-loop-n : goal.invariant-loop-n
invariant-loop-n l = l.text.items ++ numbers_end (drop l.n-index l.numbers) ≡ l.initial.text.items ++ numbers_end l.numbers
