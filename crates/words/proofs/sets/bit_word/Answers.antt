use Rattle.words.proofs.Making.{shifted_one}
use Rattle.words.proofs.sets.bit_word.Goals as goal

pub returns : goal.returns
returns c = shifted_one c.args.i c.requires
