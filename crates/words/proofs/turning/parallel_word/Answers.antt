use Rattle.words.proofs.turning.parallel_word.Goals as goal

pub returns : goal.returns
returns c = c.column.ensures
