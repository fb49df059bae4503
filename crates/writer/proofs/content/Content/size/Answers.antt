use Rattle.std.proofs.Common.{arith}
use Rattle.writer.proofs.ContentLaws.{whole_size}
use Rattle.writer.proofs.content.Content.size.Goals as goal

pub returns : goal.returns
returns c = let whole = whole_size c.args.self.now in omega (arith, c.start.ensures.0, c.vectors_size.ensures.0)
