use Rattle.std.proofs.Common.{ap, ◌∙◌}
use Rattle.reader.specs.Stored.{stored_words}
use Rattle.reader.proofs.StoredWords.{words_chunked}
use Rattle.reader.proofs.stored.words_in.Goals as goal

pub returns : goal.returns
returns c = ap stored_words c.as_chunks.ensures.front ∙ words_chunked _ c.args.bytes.now
