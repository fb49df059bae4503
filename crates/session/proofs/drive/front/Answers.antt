use Rattle.std.proofs.Common.{sym, length-take-le, le-leb}
use borrow.Author.Tests.{lt-leb}
use Rattle.session.proofs.drive.front.Goals as goal

pub slice_bounds-result-end : goal.slice_bounds-result-end
slice_bounds-result-end c = sym (length-take-le _ _ c.if-count-words.true)

pub returns-then-count-words : goal.returns-then-count-words
returns-then-count-words c = rw (le-leb _ _ c.if-count-words.true)

pub returns : goal.returns
returns c = rw (lt-leb _ _ c.if-count-words.false)
