use Rattle.std.proofs.Common.{arith, refl, sym, ◌∙◌}
use Rattle.words.specs.Bits.{word}
use Rattle.words.proofs.Making.{word_set, word_keep, word_whole}
use Rattle.network.specs.Reading.{active, reads, response_word}
use Rattle.network.proofs.Reading.{readings_turned}
use Rattle.network.proofs.receivers.response_word.Goals as goal
use Rattle.network.proofs.receivers.response_word.Goals.{else-reads_active, then-reads_active}

pub loop-i-init : goal.loop-i-init
unfolding word
loop-i-init c vector shown = refl

pub reads_active-requires : goal.reads_active-requires
reads_active-requires c =
    (c.requires.1 c.loop-i.i (omega arith), c.needs_extra-extra.ensures)

pub loop-i-preserved : goal.loop-i-preserved
loop-i-preserved c =
    let a = c.args in
    let l = c.loop-i in
    let q = c.reads_active.ensures in
    λ vector shown. elim c.if-reads_active.branch [
      | then-reads_active w ↦ w.w-is ∙ word_set (λ reach. active a.net (reads a.net reach vector)) a.state.now l.i l.w
          (l.invariant vector shown) (omega arith) (omega arith) (sym (q vector shown) ∙ w.if-reads_active.true)
      | else-reads_active w ↦ w.w-is ∙ word_keep (λ reach. active a.net (reads a.net reach vector)) a.state.now l.i l.w
          (l.invariant vector shown) (omega arith) (sym (q vector shown) ∙ w.if-reads_active.false)
    ]

pub returns : goal.returns
unfolding response_word
returns c =
    let l = c.loop-i in
    let a = c.args in
    let vector = a.vector.0 in
    readings_turned a.net (λ reach. reads a.net reach vector) a.state.now l.w c.active_bits.result
    (l.invariant vector c.active_bits-bits.ensures.0
    ∙ word_whole (λ reach. active a.net (reads a.net reach vector)) a.state.now l.i c.loop-i-test.false)
    c.active_bits.ensures
