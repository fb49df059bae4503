use Rattle.std.proofs.Common.{rules, ℕ, arith, ◌∙◌, ap₂, List, set}
use Rattle.words.specs.Answers.{lent_after}
use Rattle.words.proofs.Making.{map_fill, map_filled}
use Rattle.network.specs.Reading.{response_word, response}
use Rattle.network.proofs.receivers.fill_response.Goals as goal

pub loop-written-preserved : goal.loop-written-preserved
loop-written-preserved c =
    let a = c.args in
    let l = c.loop-written in (
      search rules,
      ap₂ (λ (m : List ℕ) (r : ℕ). set m l.written r) l.invariant.1 (omega (arith, c.response_word-word.ensures))
          ∙ map_fill (response_word a.net a.state.now) a.vectors.now a.out.now l.written (omega arith) (omega arith),
    )

pub returns : goal.returns
unfolding response lent_after
returns c =
    let a = c.args in
    let l = c.loop-written in
    l.invariant.1 ∙ map_filled (response_word a.net a.state.now) a.vectors.now a.out.now l.written
    (omega arith) c.loop-written-test.false
