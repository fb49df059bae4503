use Rattle.std.proofs.Common.{rules, arith, ◌++◌, ◌∙◌}
use Rattle.std.proofs.lemmas.Iterator.Consumers.{YieldsList-turn, YieldsList-end}
use Rattle.std.proofs.lemmas.List.{length_push, get_or_default}
use Rattle.scan_chain.proofs.UsedCells.{gone_through, none_looked, outside_found, twice_found, one_more, all_right}
use Rattle.scan_chain.proofs.cells.has_wrong_cell.Goals as goal
use Rattle.scan_chain.proofs.cells.has_wrong_cell.Goals.{then-cells-cell-via-then-cells-cell, then-cells-cell-via-else-cells-cell+then-used-cell}

pub loop-cell-init : goal.loop-cell-init
loop-cell-init c = (search rules, search rules, none_looked c.args.cells (c.args.drivers.now ++ c.args.receivers.now))

pub returns-then-cells-cell : goal.returns-then-cells-cell
returns-then-cells-cell c =
    let all = c.args.drivers.now ++ c.args.receivers.now in
    let l = c.loop-cell in
    let road = gone_through c.args.drivers.now c.args.receivers.now _ _ c.into_iter-cell-iterator.ensures.into_iter_gives (cc) (cc) (cc) (cc) in
    let turn = YieldsList-turn road l.yielded _ l.yielded_by _ _ c.in-Some.field-0 c.in-Some.is c.next.ensures.steps in
    let here = turn.1 ∙ get_or_default all _ _ 0 turn.0 in
    elim c.then-cells-cell.branch [
      | then-cells-cell-via-then-cells-cell w ↦
          outside_found c.args.cells all l.used _ l.invariant.2 turn.0 _ here w.if-cells-cell.true
      | then-cells-cell-via-else-cells-cell+then-used-cell w ↦
          twice_found c.args.cells all l.used _ l.invariant.2 turn.0 _ here w.if-used-cell.true
    ]

pub loop-cell-preserved : goal.loop-cell-preserved
loop-cell-preserved c =
    let all = c.args.drivers.now ++ c.args.receivers.now in
    let l = c.loop-cell in
    let road = gone_through c.args.drivers.now c.args.receivers.now _ _ c.into_iter-cell-iterator.ensures.into_iter_gives (cc) (cc) (cc) (cc) in
    let turn = YieldsList-turn road l.yielded _ l.yielded_by _ _ c.in-Some.field-0 c.in-Some.is c.next.ensures.steps in (
      search rules,
      search rules,
      rw (length_push l.yielded c.in-Some.field-0)
          (one_more c.args.cells all l.used _ l.invariant.2 turn.0 _ (turn.1 ∙ get_or_default all _ _ 0 turn.0) c.requires
          c.if-cells-cell.false c.if-used-cell.false),
    )

pub returns : goal.returns
returns c =
    let l = c.loop-cell in
    let road = gone_through c.args.drivers.now c.args.receivers.now _ _ c.into_iter-cell-iterator.ensures.into_iter_gives (cc) (cc) (cc) (cc) in
    let end = YieldsList-end road l.yielded _ l.yielded_by _ _ c.in-None.is c.next.ensures.steps in
    all_right c.args.cells (c.args.drivers.now ++ c.args.receivers.now) l.used _ l.invariant.2 (omega arith)
