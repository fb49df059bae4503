use Rattle.std.proofs.Common.{rules, ℕ, ◌+◌, ◌*◌, ◌≤◌, ◌<◌, arith, length, mul-le-mul, add-mul}
use Rattle.words.specs.Bits.{word}
use Rattle.scan_chain.specs.Responses.{shifted_out}
use Rattle.scan_chain.proofs.Reading.{word_put}
use Rattle.scan_chain.proofs.tdo.read_word.Goals as goal

small : (s n : ℕ) → s ≤ 64 → n ≤ 205 → s * n ≤ 64 * 205
small s n l m = mul-le-mul l m

-- shift clock j of scan s is one of the clocks
within : (s n j size : ℕ) → (s + 1) * n ≤ size → 3 + j < n → s * n + (3 + j) < size
within s n j size l m = omega (arith, add-mul s 1 n)

pub loop-r-init : goal.loop-r-init
unfolding word
loop-r-init c = search rules

pub overflow_add-bit : goal.overflow_add-bit
overflow_add-bit c =
    let inside = c.requires.4 c.loop-r.r c.loop-r-test.true in
    omega arith

pub overflow_add-bit-in-loop-r : goal.overflow_add-bit-in-loop-r
overflow_add-bit-in-loop-r c =
    let inside = c.requires.4 c.loop-r.r c.loop-r-test.true in
    omega (arith, small c.args.scan c.scan_length.result c.requires.2 (omega arith))

pub bounds-tdo-start : goal.bounds-tdo-start
bounds-tdo-start c =
    let inside = c.requires.4 c.loop-r.r c.loop-r-test.true in
    within c.args.scan c.scan_length.result _ (length c.args.tdo.now) (rw c.scan_length.ensures c.requires.3) (omega arith)

pub loop-r-preserved : goal.loop-r-preserved
unfolding shifted_out
loop-r-preserved c =
    let a = c.args in
    let l = c.loop-r in
    rw (c.from.ensures, c.scan_length.ensures)
    (word_put (shifted_out a.cells a.tdo.now a.scan) a.receivers.now l.r l.word l.invariant c.loop-r-test.true
    c.requires.0)
