use Rattle.std.proofs.Common.{◌++◌, length}
use Rattle.scan_chain.proofs.UsedCells.{LookedThrough}
use Rattle.scan_chain.proofs.cells.has_wrong_cell.Given as goal

abbrev pub invariant-loop-cell : goal.invariant-loop-cell
invariant-loop-cell l =
    (goal.iterator-loop-cell).can_next l.cell-iterator × (goal.iterator-loop-cell).is_finite l.cell-iterator
    × LookedThrough l.cells (l.drivers ++ l.receivers) l.used (length l.yielded)
