use Rattle.std.proofs.Common.{rules, ℕ, arith, sym, ap₂, ◌∙◌, List, set}
use Rattle.words.specs.Answers.{lent_after}
use Rattle.words.proofs.Making.{list_fill, list_filled}
use Rattle.network.specs.OwnReceivers.{own_receivers}
use Rattle.network.proofs.OwnReceivers.{own_size, own_at}
use Rattle.network.proofs.receivers.fill_own.Goals as goal

pub loop-i-preserved : goal.loop-i-preserved
loop-i-preserved c =
    let a = c.args in
    let l = c.loop-i in
    let size = own_size a.nets in (
      search rules,
      ap₂ (λ (m : List ℕ) (x : ℕ). set m l.i x) l.invariant.1 (sym (own_at a.nets l.i c.loop-i-test.true))
          ∙ list_fill (own_receivers a.nets) a.out.now l.i (omega (arith, size)) (omega arith),
    )

pub returns : goal.returns
unfolding lent_after
returns c =
    let a = c.args in
    let l = c.loop-i in
    let size = own_size a.nets in
    l.invariant.1 ∙ list_filled (own_receivers a.nets) a.out.now l.i (omega (arith, size)) (omega (arith, size))
