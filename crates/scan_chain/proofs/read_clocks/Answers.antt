use Rattle.std.proofs.Common.{arith, sym, ◌∙◌, ltb-false}
use Rattle.scan_chain.proofs.ChainRows.{as_many}
use Rattle.scan_chain.proofs.ReadAnswers.{count_most}
use Rattle.scan_chain.proofs.read_clocks.Goals as goal

pub fill_responses-requires : goal.fill_responses-requires
fill_responses-requires c =
    let size = as_many _ c.args.tdo.now (sym c.bad_tdo.ensures ∙ c.in_ok-refuse_if-2.ensures.passed) in (
      count_most c.args.count (sym c.bad_count.ensures ∙ c.in_ok-refuse_if.ensures.passed),
      omega (arith, size),
      ltb-false _ _ (sym c.no_room.ensures ∙ c.in_ok-refuse_if-3.ensures.passed),
    )
