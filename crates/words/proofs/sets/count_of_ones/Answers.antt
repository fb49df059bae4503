use Rattle.std.proofs.Common.{arith}
use lib.Count.{ones-le}
use Rattle.words.proofs.sets.count_of_ones.Goals as goal

pub overflow_cast-result : goal.overflow_cast-result
overflow_cast-result c = omega (arith, ones-le 64 c.args.set (omega arith))
