use Rattle.std.proofs.Common.{◌≡◌, rules, arith, bit_and}
use Rattle.std.proofs.Math.ListN.{get_or-replicate}
use Rattle.words.specs.Bits.{word, at}
use Rattle.words.proofs.Adding.{added_small, added_more, added_whole}
use Rattle.words.proofs.turning.columns.Goals as goal

pub loop-t-init : goal.loop-t-init
unfolding word
loop-t-init g c = (search rules, λ i l. get_or-replicate 64 i 0 0 l)

pub add_row-requires : goal.add_row-requires
add_row-requires g c =
    let l = c.loop-t in
    let a = c.args in
    (omega arith, l.invariant.0, added_small a.words.now _ l.t l.columns l.invariant.1 (omega arith))

pub loop-t-preserved : goal.loop-t-preserved
loop-t-preserved g c =
    let l = c.loop-t in
    let a = c.args in
    let added : g.W.Word.bits_of c.of_bits.result ≡ bit_and (at a.words.now l.t) c.low_ones-inside.result =
    omega (arith, c.of_bits.ensures) in (
      c.add_row.ensures.0,
      λ i m. added_more a.words.now _ l.t l.columns l.invariant.1 i m _ (rw (← added) (c.add_row.ensures.1 i m)) (omega arith),
    )

pub returns : goal.returns
returns g c =
    let l = c.loop-t in
    let a = c.args in
    let e = c.low_ones-inside.ensures in
    (l.invariant.0, added_whole a.words.now _ l.t l.columns l.invariant.1 a.n e (omega arith) c.loop-t-test.false)
