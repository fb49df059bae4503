use Rattle.std.proofs.Common.{List, ap, ◌++◌, drop, length}
use Rattle.words.specs.Answers.{lent_after}
use Rattle.words.proofs.lists.copy_words.Goals as goal

pub returns : goal.returns
unfolding lent_after
returns g c = ap (λ (front : List _). front ++ drop (length c.args.from.now) c.args.out.now) c.copy_from_slice.ensures.after
