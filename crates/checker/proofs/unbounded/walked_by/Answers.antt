use Rattle.std.proofs.Common.{ℕ, ◌≡◌, ◌+◌, ◌||◌, sym, subst, length, arith, bit_or, eqb}
use Rattle.words.specs.Bits.{at}
use Rattle.checker.proofs.Walking.{Shown, shown_first, shown_more, shown_all}
use Rattle.checker.proofs.unbounded.walked_by.Goals as goal

pub loop-vector-init : goal.loop-vector-init
loop-vector-init c = shown_first c.args.nets.network c.args.vectors.now

pub loop-vector-preserved : goal.loop-vector-preserved
loop-vector-preserved c =
    let vectors = c.args.vectors.now in
    let l = c.loop-vector in
    subst (λ (x : ℕ). Shown c.args.nets.network vectors (l.vector-index + 1) (l.extra || eqb (at vectors l.vector-index) x)
    (bit_or l.drivers c.walked_driver-drivers.result)) (sym c.extra_vector-none.ensures)
    (shown_more c.args.nets.network vectors l.vector-index l.extra l.drivers _ l.invariant c.walked_driver-drivers.ensures)

pub returns : goal.returns
returns c =
    let end : c.loop-vector.vector-index ≡ length c.args.vectors.now = omega arith in
    shown_all c.args.nets.network c.args.vectors.now c.loop-vector.extra c.loop-vector.drivers
    (subst (λ (x : ℕ). Shown c.args.nets.network c.args.vectors.now x c.loop-vector.extra c.loop-vector.drivers) end
    c.loop-vector.invariant)
