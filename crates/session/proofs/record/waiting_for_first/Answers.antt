use Rattle.std.proofs.Common.{sym, ◌∙◌}
use Rattle.session.proofs.Records.{awaits_first_parts}
use Rattle.session.proofs.record.waiting_for_first.Goals as goal

pub returns-then-not-is_at_first : goal.returns-then-not-is_at_first
returns-then-not-is_at_first c =
    rw (awaits_first_parts c.args.session.now, sym c.is_at_first.ensures ∙ c.if-not-is_at_first.true)

pub returns : goal.returns
returns c =
    rw (awaits_first_parts c.args.session.now, sym c.is_at_first.ensures ∙ c.if-not-is_at_first.false) c.held_board.ensures
