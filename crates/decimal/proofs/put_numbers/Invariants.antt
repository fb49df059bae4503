use Rattle.std.proofs.Common.{◌≡◌, ◌+◌, ◌*◌, ◌≤◌, length, drop}
use Rattle.words.specs.Writing.{written}
use Rattle.decimal.specs.Decimal.{numbers_end}
use Rattle.decimal.proofs.put_numbers.Given as goal

-- the rest of the line, put where the numbers so far end, makes the text whole
abbrev pub invariant-loop-n : goal.invariant-loop-n
invariant-loop-n l = record {
  bound : l.end ≤ l.at + 21 * l.n-index;
  left : l.end + length (numbers_end (drop l.n-index l.numbers)) ≡ l.at + length (numbers_end l.numbers);
  rest : written l.text l.end (numbers_end (drop l.n-index l.numbers)) ≡ written l.initial.text l.at (numbers_end l.numbers);
}
