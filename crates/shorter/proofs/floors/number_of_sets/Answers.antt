use Rattle.std.proofs.Common.{◌≡◌, ◌+◌, ◌≤◌, suc, add-one, arith, refl}
use Rattle.words.specs.Counting.{class_size}
use Rattle.words.proofs.Counting.{class_size_grows, class_size_largest}
use Rattle.shorter.proofs.floors.number_of_sets.Goals as goal

pub loop-i-init : goal.loop-i-init
unfolding class_size
loop-i-init c = (refl, refl, refl)

-- the numbers stay small
module _ (c : goal.In-loop-i) where
  bounds : (c.loop-i.one ≤ 18473) × (c.loop-i.two ≤ 18473) × (c.loop-i.three ≤ 18473)
  bounds =
      let l = c.loop-i in
      let i : l._i ≤ 48 = omega arith in
      let largest = class_size_largest in (
        omega (arith, l.invariant.0, class_size_grows l._i 1 48 3 i (omega arith)),
        omega (arith, l.invariant.1, class_size_grows l._i 2 48 3 i (omega arith)),
        omega (arith, l.invariant.2, class_size_grows l._i 3 48 3 i (omega arith)),
      )

pub overflow_add-three : goal.overflow_add-three
overflow_add-three c = let b = bounds c in omega arith

pub overflow_add-two : goal.overflow_add-two
overflow_add-two c = let b = bounds c in omega arith

pub overflow_add-one : goal.overflow_add-one
overflow_add-one c = let b = bounds c in omega arith

pub loop-i-preserved : goal.loop-i-preserved
unfolding class_size
loop-i-preserved c =
    let l = c.loop-i in
    let up : l._i + 1 ≡ suc l._i = add-one l._i in
    rw (up, l.invariant.0, l.invariant.1, l.invariant.2) (refl, refl, refl)
