use Rattle.std.proofs.Common.{ℕ, ◌≡◌, ◌+◌, ◌<◌, ◌≤◌, ◌∙◌, refl, sym, ap, arith, List, [], ◌∷◌, length, drop, set, get_or}
use Rattle.std.proofs.Common.{length-append, drop_of_length-le}
use Rattle.words.specs.Writing.{written}
use Rattle.words.proofs.Writing.{written_one, written_next}
use Rattle.decimal.specs.Decimal.{decimal, newline, space, spaced, numbers_end}
use Rattle.decimal.proofs.Numerals.{decimal_most, numbers_next}
use Rattle.decimal.proofs.put_numbers.Goals as goal

-- the text as far as an index, where the rest of the line goes
module _ (numbers text whole : List ℕ) (end i : ℕ) (inside : end < length text)
    (e : written text end (numbers_end (drop i numbers)) ≡ whole) where
  next : i < length numbers → (after : List ℕ) (to : ℕ)
      → after ≡ written (set text end space) (end + 1) (decimal (get_or numbers i 0)) → to ≡ end + 1 + length (decimal (get_or numbers i 0))
      → written after to (numbers_end (drop (i + 1) numbers)) ≡ whole
  next l after to f g =
      let n = get_or numbers i 0 in
      let first = written_one text end space inside in
      let put : after ≡ written text end (spaced n) =
      written_next text (set text end space) after end (end + 1) (space ∷ []) (decimal n) first f refl (omega arith) in
      let place : to ≡ end + length (spaced n) = omega arith in
      written_next text after _ end to (spaced n) (numbers_end (drop (i + 1) numbers)) put refl place (omega arith)
      ∙ ap (written text end) (sym (numbers_next numbers i l)) ∙ e

  last : length numbers ≤ i → set text end newline ≡ whole
  unfolding numbers_end
  last l =
      written_one text end newline inside
      ∙ ap (λ (ns : List ℕ). written text end (numbers_end ns)) (sym (drop_of_length-le numbers {i = i} l)) ∙ e

-- how long the rest of the line is
next_size : (numbers : List ℕ) (i : ℕ) → i < length numbers
    → length (numbers_end (drop i numbers)) ≡ 1 + length (decimal (get_or numbers i 0)) + length (numbers_end (drop (i + 1) numbers))
next_size numbers i l =
    let same = ap length (numbers_next numbers i l) in
    let both = length-append (spaced (get_or numbers i 0)) (numbers_end (drop (i + 1) numbers)) in
    omega arith

last_size : (numbers : List ℕ) (i : ℕ) → length numbers ≤ i → length (numbers_end (drop i numbers)) ≡ 1
unfolding numbers_end
last_size numbers i l = ap (λ (ns : List ℕ). length (numbers_end ns)) (drop_of_length-le numbers {i = i} l)

pub loop-n-preserved : goal.loop-n-preserved
loop-n-preserved c =
    let l = c.loop-n in
    let numbers = c.args.numbers.now in
    let most = decimal_most (get_or numbers l.n-index 0) in
    let size = next_size numbers l.n-index c.loop-n-test.true in
    let put = c.put_decimal-end.ensures in
    record {
      bound = omega arith;
      left = omega arith;
      rest = next numbers l.text _ l.end l.n-index (omega arith) l.invariant.rest c.loop-n-test.true _ _ put.1 put.0;
    }

pub returns : goal.returns
returns c =
    let l = c.loop-n in
    let numbers = c.args.numbers.now in
    let size = last_size numbers l.n-index c.loop-n-test.false in
    (omega arith, last numbers l.text _ l.end l.n-index (omega arith) l.invariant.rest c.loop-n-test.false)
