use Rattle.std.proofs.Common.{suc, ◌+◌, ◌-◌, ◌^◌, ◌≤◌, ◌≡◌, sym, arith, pow_mono, length}
use Rattle.words.specs.Searching.{sets_of_class}
use Rattle.words.proofs.Counting.{sets_of_one, sets_some, sets_less, sets_below, sets_zero}
use Rattle.words.proofs.Counting.{top_first, top_less, top_rest, top_is}
use Rattle.words.proofs.ranks.two_at.Goals as goal

pub returns-then-index-eq0 : goal.returns-then-index-eq0
returns-then-index-eq0 c = rw c.if-index-eq0.true (sym (sets_zero 2 c.args.drivers))

pub loop-two-init : goal.loop-two-init
loop-two-init c = (top_first 1 _ _ (omega arith), c.requires.1)

module _ (c : goal.In-loop-two) where
  here : c.loop-two.driver ≡ suc (c.loop-two.driver - 1)
  here = sets_some c.loop-two.driver 2 c.args.index (omega arith) (omega arith)

  size_less : c.loop-two.two ≡ length (sets_of_class 2 (2 ^ (c.loop-two.driver - 1))) + c.loop-two.driver
  size_less = let d = c.loop-two.driver - 1 in omega (arith, here, sets_less c.loop-two.driver d 1 here, sets_of_one d)

pub overflow_sub-driver : goal.overflow_sub-driver
overflow_sub-driver c = omega (arith, here c)

pub overflow_add-two : goal.overflow_add-two
overflow_add-two c = omega (arith, c.loop-two.invariant.0.low)

pub overflow_sub-two : goal.overflow_sub-two
overflow_sub-two c = omega (arith, here c, size_less c)

pub loop-two-smaller : goal.loop-two-smaller
loop-two-smaller c = omega (arith, here c)

pub loop-two-preserved : goal.loop-two-preserved
loop-two-preserved c = (top_less 1 _ _ _ c.loop-two.invariant.0 _ (here c) (omega arith), omega (arith, here c, size_less c))

pub bit_word-requires : goal.bit_word-requires
bit_word-requires c = omega (arith, c.loop-two.invariant.0.low)

pub one_at-requires : goal.one_at-requires
one_at-requires c =
    let rest = top_rest 1 _ _ _ c.loop-two.invariant.0 _ c.loop-two.invariant.1 (omega arith) in
    omega (arith, rest, sets_of_one c.loop-two.driver, c.loop-two.invariant.0.low)

pub returns : goal.returns
returns c =
    let l = c.loop-two in
    let sets = top_rest 1 _ _ _ l.invariant.0 _ l.invariant.1 (omega arith) in
    let rest : c.args.index - l.two ≤ l.driver = omega (arith, sets, sets_of_one l.driver) in
    omega (
      arith,
      c.bit_word.ensures,
      c.one_at.ensures l.driver rest,
      top_is 1 _ _ _ l.invariant.0 _ l.invariant.1 (omega arith),
    )

pub overflow_add-result : goal.overflow_add-result
overflow_add-result c =
    let below = sets_below 2 (2 ^ c.args.drivers) c.args.index (omega arith) in
    omega (arith, returns c, below, pow_mono {i = c.args.drivers} {j = 48} c.requires.0)
