use Rattle.std.proofs.Common.{◌≤◌, arith, length, sym, ◌∙◌}
use Rattle.network.proofs.Rows.{receivers_admitted}
use Rattle.scan_chain.proofs.ChainRows.{chain_admitted}
use Rattle.scan_chain.proofs.cells.admit_chain.Goals as goal

pub invariant_of-result : goal.invariant_of-result
invariant_of-result c =
    let board = c.args.board in
    let chain = chain_admitted 200 board.nets.network.nets (length board.receivers.now) c.args.cells c.args.drivers.now
    c.args.receivers.now (sym c.bad_chain.ensures ∙ c.in_ok-refuse_if.ensures.passed) in
    let nets = board.nets.few in
    let receivers = (receivers_admitted board.nets.network board.receivers.now board.admitted.1.0).most in
    let few_drivers : length c.args.drivers.now ≤ 64 = omega arith in
    let few_receivers : length c.args.receivers.now ≤ 64 = omega arith in record {
      some = omega arith;
      most = chain.bound;
      few_drivers = few_drivers;
      few_receivers = few_receivers;
      distinct = chain.distinct;
    }
