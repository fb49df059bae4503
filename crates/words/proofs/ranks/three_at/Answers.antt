use Rattle.std.proofs.Common.{suc, ◌+◌, ◌-◌, ◌^◌, ◌≡◌, sym, arith, length}
use Rattle.words.specs.Searching.{sets_of_class}
use Rattle.words.proofs.Counting.{sets_of_one, sets_of_two, sets_of_three, sets_some, sets_less, sets_below, sets_zero}
use Rattle.words.proofs.Counting.{top_first, top_less, top_rest, top_is}
use Rattle.words.proofs.ranks.three_at.Goals as goal

pub returns-then-index-eq0 : goal.returns-then-index-eq0
returns-then-index-eq0 c = rw c.if-index-eq0.true (sym (sets_zero 3 48))

pub loop-three-init : goal.loop-three-init
loop-three-init c = (top_first 2 48 _ c.requires, sym sets_of_two, sym sets_of_three)

module _ (c : goal.In-loop-three) where
  here : c.loop-three.driver ≡ suc (c.loop-three.driver - 1)
  here = sets_some c.loop-three.driver 3 c.args.index (omega arith) (omega arith)

  two_less : c.loop-three.two ≡ length (sets_of_class 2 (2 ^ (c.loop-three.driver - 1))) + c.loop-three.driver
  two_less = let d = c.loop-three.driver - 1 in omega (arith, here, sets_less c.loop-three.driver d 1 here, sets_of_one d)

  three_less : c.loop-three.three
      ≡ length (sets_of_class 3 (2 ^ (c.loop-three.driver - 1))) + length (sets_of_class 2 (2 ^ (c.loop-three.driver - 1)))
  three_less = omega (arith, sets_less c.loop-three.driver (c.loop-three.driver - 1) 2 here)

pub overflow_sub-driver : goal.overflow_sub-driver
overflow_sub-driver c = omega (arith, here c)

pub overflow_add-two : goal.overflow_add-two
overflow_add-two c = omega (arith, c.loop-three.invariant.0.low)

pub overflow_sub-two : goal.overflow_sub-two
overflow_sub-two c = omega (arith, here c, two_less c)

pub overflow_sub-three : goal.overflow_sub-three
overflow_sub-three c = omega (arith, here c, two_less c, three_less c)

pub loop-three-smaller : goal.loop-three-smaller
loop-three-smaller c = omega (arith, here c)

pub loop-three-preserved : goal.loop-three-preserved
loop-three-preserved c = (
  top_less 2 _ _ _ c.loop-three.invariant.0 _ (here c) (omega arith),
  omega (arith, here c, two_less c),
  omega (arith, here c, two_less c, three_less c),
)

pub bit_word-requires : goal.bit_word-requires
bit_word-requires c = omega (arith, c.loop-three.invariant.0.low)

pub two_at-requires : goal.two_at-requires
two_at-requires c =
    let i = c.loop-three.invariant in
    let rest = top_rest 2 _ _ _ i.0 _ i.2 (omega arith) in (i.0.low, i.1, omega (arith, rest))

pub returns : goal.returns
returns c =
    let i = c.loop-three.invariant in
    omega (arith, c.bit_word.ensures, c.two_at.ensures, top_is 2 _ _ _ i.0 _ i.2 (omega arith))

pub overflow_add-result : goal.overflow_add-result
overflow_add-result c =
    omega (arith, returns c, sets_below 3 (2 ^ 48) c.args.index c.requires)
