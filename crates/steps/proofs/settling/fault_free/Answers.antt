use Rattle.std.proofs.Common.{◌∙◌, arith, length, take_all, length-take, ◌<◌}
use Rattle.std.proofs.lemmas.List.{take_more}
use Rattle.network.proofs.Rows.{receivers_of_board}
use Rattle.steps.specs.SecondStep.{fault_free_state}
use Rattle.steps.proofs.BothSteps.{fault_free_size, fault_free_at}
use Rattle.steps.proofs.settling.fault_free.Goals as goal

pub bit_word-requires : goal.bit_word-requires
bit_word-requires c =
    let board = c.args.board in
    omega (
      arith,
      (receivers_of_board board.nets.network board.receivers.now board.admitted).owner c.loop-i.i-index c.loop-i-test.true,
      board.nets.few,
    )

pub push-requires : goal.push-requires
push-requires c =
    let board = c.args.board in (
      omega arith,
      rw c.loop-i.invariant (omega (
        arith,
        length-take c.loop-i.i-index (fault_free_state board.receivers.now),
        c.loop-i-test.true,
        (receivers_of_board board.nets.network board.receivers.now board.admitted).most,
      )),
    )

pub loop-i-preserved : goal.loop-i-preserved
loop-i-preserved c =
    let owners = c.args.board.receivers.now in
    let i = c.loop-i.i-index in
    let inside : i < length owners = c.loop-i-test.true in
    rw (
      c.push.ensures.items,
      c.loop-i.invariant,
      c.bit_word.ensures,
      take_more (fault_free_state owners) i 0 (rw (fault_free_size owners) inside),
      fault_free_at owners i inside,
    )

pub returns : goal.returns
returns c =
    let owners = c.args.board.receivers.now in
    c.loop-i.invariant
    ∙ take_all c.loop-i.i-index (fault_free_state owners) (omega (arith, fault_free_size owners, c.loop-i-test.false))
