use Rattle.std.proofs.Common.{◌≡◌, ◌≤◌, ◌<◌, ℕ, suc, ◌^◌, false, leb, le-leb, sym, ap, arith}
use Rattle.words.specs.Counting.{class_size}
use Rattle.words.specs.Searching.{or_zero}
use Rattle.words.proofs.Searching.{least_found}
use Rattle.network.specs.declared.Network.{Network}
use Rattle.shorter.specs.Shorter.{floor}
use Rattle.shorter.proofs.FloorLaws.{sets_fit}
use Rattle.shorter.proofs.floors.floor.Goals as goal

-- the first power that is not below the number of sets
first_enough : (net : Network) (k count q : ℕ) → count ≡ class_size net.nets k → q ≤ net.nets
    → ((z : ℕ) → z < q → leb count (2 ^ z) ≡ false) → count ≤ 2 ^ q → q ≡ floor net k
unfolding floor
first_enough net k count q e inside below enough =
    sym (ap or_zero (least_found (λ z. leb (class_size net.nets k) (2 ^ z)) (suc net.nets) q (omega (arith, inside))
    (λ z l. rw (sym e) (below z l)) (le-leb _ _ (rw (sym e) enough))))

pub returns-then-count-bit_word : goal.returns-then-count-bit_word
returns-then-count-bit_word c =
    let a = c.args in
    first_enough a.nets.network a.class _ c.loop-q.q c.number_of_sets-count.ensures (omega arith) c.loop-q.invariant (omega arith)

pub returns : goal.returns
returns c =
    let a = c.args in
    let n = a.nets.network.nets in
    first_enough a.nets.network a.class _ n c.number_of_sets-count.ensures (omega arith)
    (λ z l. c.loop-q.invariant z (omega arith)) (rw c.number_of_sets-count.ensures (sets_fit a.nets.network a.class))
