use Rattle.std.proofs.Common.{◌≡◌, ◌+◌, ◌-◌, length, ap, ◌∙◌, arith}
use Rattle.packing.proofs.Words.{part_written}
use Rattle.packing.proofs.lists.put_at.Goals as goal

pub returns : goal.returns
returns c =
    let a = c.args in
    let count : length a.from.now ≡ a.at + length a.from.now - a.at = omega arith in
    rw c.copy_from_slice.ensures.after (part_written a.at _ a.out.now a.from.now count)
