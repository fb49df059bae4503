use Rattle.std.proofs.Common.{sym, ◌∙◌, arith}
use Rattle.words.proofs.Counting.{sets_of_two, sets_few}
use Rattle.words.proofs.ranks.set_at.Goals as goal

pub three_at-requires : goal.three_at-requires
three_at-requires c = rw c.in-3.is at c.requires.1

pub two_at-requires : goal.two_at-requires
two_at-requires c =
    let inside = rw c.in-2.is at c.requires.1 in (omega arith, sym sets_of_two, omega (arith, inside, sets_of_two))

pub one_at-requires : goal.one_at-requires
one_at-requires c =
    let few = sets_few c.args.class 48 c.args.index (omega arith) c.requires.1 in few.0

pub returns-in-3 : goal.returns-in-3
returns-in-3 c = rw c.in-3.is c.three_at.ensures

pub returns-in-2 : goal.returns-in-2
returns-in-2 c = rw c.in-2.is c.two_at.ensures

pub returns-in_default : goal.returns-in_default
returns-in_default c =
    let few = sets_few c.args.class 48 c.args.index (omega arith) c.requires.1 in c.one_at.ensures 48 few.0 ∙ few.1
