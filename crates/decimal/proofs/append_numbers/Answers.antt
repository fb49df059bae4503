use Rattle.std.proofs.Common.{ℕ, ◌≡◌, ◌+◌, ◌<◌, ◌≤◌, ◌∙◌, sym, ap, arith, List, [], ◌∷◌, ◌++◌, length, drop, get_or}
use Rattle.std.proofs.Common.{length-append, append_assoc, drop_of_length-le}
use Rattle.decimal.specs.Decimal.{decimal, newline, space, spaced, numbers_end}
use Rattle.decimal.proofs.Numerals.{numbers_next}
use Rattle.decimal.proofs.append_numbers.Goals as goal

-- The text up to the numbers from an index on; with them it is the whole, which has room.
module _ (numbers text whole : List ℕ) (i : ℕ) (e : text ++ numbers_end (drop i numbers) ≡ whole) where
  sizes : length text + length (numbers_end (drop i numbers)) ≡ length whole
  sizes = sym (length-append text (numbers_end (drop i numbers))) ∙ ap length e

  next_size : i < length numbers → length text + (1 + length (decimal (get_or numbers i 0))) ≤ length whole
  next_size l =
      let next = ap length (numbers_next numbers i l) in
      let both = length-append (spaced (get_or numbers i 0)) (numbers_end (drop (i + 1) numbers)) in
      let all = sizes in
      omega arith

  next : i < length numbers → (spaced_on after : List ℕ) → spaced_on ≡ text ++ space ∷ []
      → after ≡ spaced_on ++ decimal (get_or numbers i 0) → after ++ numbers_end (drop (i + 1) numbers) ≡ whole
  next l spaced_on after f g =
      rw (g, f) (ap (λ (t : List ℕ). t ++ numbers_end (drop (i + 1) numbers))
      (append_assoc text (space ∷ []) (decimal (get_or numbers i 0)))
      ∙ append_assoc text (spaced (get_or numbers i 0)) (numbers_end (drop (i + 1) numbers))
      ∙ ap (λ (rest : List ℕ). text ++ rest) (sym (numbers_next numbers i l)) ∙ e)

  last : length numbers ≤ i → text ++ newline ∷ [] ≡ whole
  unfolding numbers_end
  last l = ap (λ (ns : List ℕ). text ++ numbers_end ns) (sym (drop_of_length-le numbers {i = i} l)) ∙ e

  last_size : length numbers ≤ i → length text + 1 ≡ length whole
  last_size l = sym (length-append text (newline ∷ [])) ∙ ap length (last l)

pub push-requires : goal.push-requires
push-requires c =
    let l = c.loop-n in
    let more = next_size c.args.numbers.now _ _ l.n-index l.invariant c.loop-n-test.true in
    let all = length-append c.args.text.now.items (numbers_end c.args.numbers.now) in
    (omega arith, omega arith)

pub append_decimal-requires : goal.append_decimal-requires
append_decimal-requires c =
    let l = c.loop-n in
    let more = next_size c.args.numbers.now _ _ l.n-index l.invariant c.loop-n-test.true in
    let all = length-append c.args.text.now.items (numbers_end c.args.numbers.now) in
    omega arith

pub loop-n-preserved : goal.loop-n-preserved
loop-n-preserved c =
    let l = c.loop-n in
    next c.args.numbers.now _ _ l.n-index l.invariant c.loop-n-test.true _ _ c.push.ensures.items c.append_decimal.ensures

pub push-requires-2 : goal.push-requires-2
push-requires-2 c =
    let l = c.loop-n in
    let more = last_size c.args.numbers.now _ _ l.n-index l.invariant c.loop-n-test.false in
    let all = length-append c.args.text.now.items (numbers_end c.args.numbers.now) in
    (omega arith, omega arith)

pub returns : goal.returns
returns c =
    let l = c.loop-n in
    c.push-2.ensures.items ∙ last c.args.numbers.now _ _ l.n-index l.invariant c.loop-n-test.false
