use Rattle.std.proofs.Common.{ℕ, arith, List, ap₂, ◌∙◌, set}
use Rattle.words.specs.Answers.{lent_after}
use Rattle.words.proofs.Making.{list_fill, list_filled}
use Rattle.scan_chain.specs.Responses.{responses}
use Rattle.scan_chain.proofs.Reading.{responses_size, responses_at}
use Rattle.scan_chain.proofs.tdo.fill_responses.Goals as goal

pub loop-t-preserved : goal.loop-t-preserved
loop-t-preserved c =
    let a = c.args in
    let t = c.loop-t.t in
    let below = c.loop-t-test.true in
    let size = responses_size a.cells a.receivers.now a.count a.tdo.now in
    ap₂ (λ (m : List ℕ) (x : ℕ). set m t x) c.loop-t.invariant
    (c.read_word.ensures ∙ responses_at a.cells a.receivers.now a.count a.tdo.now t below)
    ∙ list_fill (responses a.cells a.receivers.now a.count a.tdo.now) a.out.now t (omega arith) (omega arith)

pub returns : goal.returns
unfolding lent_after
returns c =
    let a = c.args in
    let l = c.loop-t in
    let size = responses_size a.cells a.receivers.now a.count a.tdo.now in
    l.invariant
    ∙ list_filled (responses a.cells a.receivers.now a.count a.tdo.now) a.out.now l.t (omega arith) (omega arith)
