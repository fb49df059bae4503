use Rattle.std.proofs.Common.{◌≡◌, sym, ◌∙◌, arith}
use Rattle.steps.proofs.StepOneWords.{length_reached, length_last}
use Rattle.steps.proofs.first.word_length.Goals as goal

pub returns-then-nets-words : goal.returns-then-nets-words
returns-then-nets-words c =
    let nets = c.args.nets in
    length_reached nets.network c.requires nets.few c.loop-p.p c.loop-p.invariant c.loop-p-test.true c.if-nets-words.true

pub returns : goal.returns
returns c =
    let nets = c.args.nets in
    let last : c.loop-p.p ≡ 8 = omega arith in
    sym last ∙ length_last nets.network c.requires nets.few c.loop-p.p c.loop-p.invariant last
