use Rattle.std.proofs.Common.{suc, ◌-◌, ◌≡◌, sym, ◌∙◌, arith}
use Rattle.words.proofs.Counting.{sets_zero, sets_single}
use Rattle.words.proofs.ranks.one_at.Goals as goal

pub returns-then-index-eq0 : goal.returns-then-index-eq0
returns-then-index-eq0 c n l = rw c.if-index-eq0.true (sym (sets_zero 1 n))

pub returns-else-index-eq0 : goal.returns-else-index-eq0
returns-else-index-eq0 c n l =
    let i = c.args.index in
    let e : i ≡ suc (i - 1) = omega arith in
    c.bit_word.ensures ∙ sym (rw (sym e) at (sets_single n (i - 1) (omega arith)))
