use Rattle.std.proofs.Common.{rules, ◌∙◌}
use Rattle.reader.proofs.StoredWords.{number_read}
use Rattle.reader.proofs.layout.number_at.Goals as goal

pub returns : goal.returns
returns c = (c.from_le_bytes.ensures ∙ number_read c.args.file.now c.args.offset c.requires, search rules)
