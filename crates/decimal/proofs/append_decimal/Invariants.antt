use Rattle.std.proofs.Common.{◌≡◌, ◌++◌, take}
use Rattle.decimal.proofs.append_decimal.Given as goal

abbrev pub invariant-loop-digit : goal.invariant-loop-digit
invariant-loop-digit l = l.text.items ≡ l.initial.text.items ++ take l.digit-index l.digit-items
