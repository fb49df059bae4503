use Rattle.std.proofs.Common.{below_more, le-leb, ◌≡◌, sym, true, false, ℕ, ◌≤◌, ◌<◌, ◌-◌, ◌^◌, not-suc-le-zero}
use Rattle.std.proofs.Common.{arith, leb, length, pow_pos}
use borrow.Author.Tests.{lt-leb}
use Rattle.words.specs.Bits.{at}
use Rattle.words.proofs.Searching.{any_at, any_none}
use Rattle.network.specs.Rows.{has_high_bit}
use Rattle.network.proofs.refusals.has_high_bit.Goals as goal

-- the largest word with no bit at or above the width
over : (width word last : ℕ) → last ≡ 2 ^ width - 1 → last < word → leb (2 ^ width) word ≡ true
over width word last e l = le-leb (2 ^ width) word (omega (arith, pow_pos width))

under : (width word last : ℕ) → last ≡ 2 ^ width - 1 → word ≤ last → leb (2 ^ width) word ≡ false
under width word last e l = lt-leb (2 ^ width) word (omega (arith, pow_pos width))

pub loop-word-init : goal.loop-word-init
loop-word-init c z l = absurd (not-suc-le-zero l)

pub returns-then-last-word : goal.returns-then-last-word
unfolding has_high_bit
returns-then-last-word c =
    let a = c.args in
    sym (any_at (λ t. leb (2 ^ a.width) (at a.words.now t)) (length a.words.now) c.loop-word.word-index
    c.loop-word-test.true (over a.width _ _ c.low_ones-last.ensures c.if-last-word.true))

pub loop-word-preserved : goal.loop-word-preserved
loop-word-preserved c =
    let a = c.args in
    below_more (λ z. leb (2 ^ a.width) (at a.words.now z) ≡ false) c.loop-word.word-index c.loop-word.invariant
    (under a.width _ _ c.low_ones-last.ensures (omega arith))

pub returns : goal.returns
unfolding has_high_bit
returns c =
    let a = c.args in
    sym (any_none (λ t. leb (2 ^ a.width) (at a.words.now t)) (length a.words.now)
    (λ z l. c.loop-word.invariant z (omega arith)))
