use Rattle.std.proofs.Common.{refl, rules}
use borrow.Author.Tests.{lt-leb}
use Rattle.session.proofs.Records.{fails_at, zeros_after, held_told}
use Rattle.session.proofs.record.held_board.Goals as goal

pub returns-then-session-gt64 : goal.returns-then-session-gt64
returns-then-session-gt64 c = fails_at 0 _ (lt-leb c.args.session.now.receivers 64 c.if-session-gt64.true)

pub returns-then-not-is_zeros : goal.returns-then-not-is_zeros
returns-then-not-is_zeros c =
    let s = c.args.session.now in
    fails_at 2 _ (zeros_after 64 s.owners s.receivers s.receivers (search rules) refl c.is_zeros.ensures c.if-not-is_zeros.true)

pub returns : goal.returns
returns c =
    let s = c.args.session.now in
    rw c.ok.ensures.value
    (held_told s.network s.receivers s.owners c.if-session-gt64.false (search rules)
    (zeros_after 64 s.owners s.receivers s.receivers (search rules) refl c.is_zeros.ensures c.if-not-is_zeros.false)
    c.admit_board.result c.admit_board.ensures.rows c.admit_board.ensures.admitted)
