use Rattle.std.proofs.Common.{rules, arith, sym, ◌∙◌}
use Rattle.words.specs.Bits.{word}
use Rattle.words.proofs.Making.{word_set, word_keep, word_whole}
use Rattle.network.specs.Reading.{active, reads, sequential_response}
use Rattle.network.proofs.Reading.{readings_turned}
use Rattle.network.proofs.receivers.sequential_response.Goals as goal
use Rattle.network.proofs.receivers.sequential_response.Goals.{else-reads_active, then-reads_active}

pub loop-t-init : goal.loop-t-init
unfolding word
loop-t-init c = search rules

pub reads_active-requires : goal.reads_active-requires
reads_active-requires c =
    (c.requires.1, c.needs_extra-extra.ensures)

pub loop-t-preserved : goal.loop-t-preserved
loop-t-preserved c =
    let a = c.args in
    let l = c.loop-t in
    let q = c.reads_active.ensures _ c.active_bits-bits.ensures.0 in
    elim c.if-reads_active.branch [
      | then-reads_active w ↦ w.w-is ∙ word_set (λ vector. active a.net (reads a.net a.reach vector)) a.vectors.now l.t l.w
          l.invariant (omega arith) (omega arith) (sym q ∙ w.if-reads_active.true)
      | else-reads_active w ↦ w.w-is ∙ word_keep (λ vector. active a.net (reads a.net a.reach vector)) a.vectors.now l.t l.w
          l.invariant (omega arith) (sym q ∙ w.if-reads_active.false)
    ]

pub returns : goal.returns
unfolding sequential_response
returns c =
    let l = c.loop-t in
    let a = c.args in
    readings_turned a.net (reads a.net a.reach) a.vectors.now l.w c.active_bits.result
    (l.invariant
    ∙ word_whole (λ vector. active a.net (reads a.net a.reach vector)) a.vectors.now l.t c.loop-t-test.false)
    c.active_bits.ensures
