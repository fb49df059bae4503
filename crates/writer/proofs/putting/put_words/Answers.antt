use Rattle.std.proofs.Common.{rules, arith, refl}
use Rattle.writer.proofs.FileParts.{no_words_put, word_put, part_put}
use Rattle.writer.proofs.putting.put_words.Goals as goal

pub loop-word-init : goal.loop-word-init
loop-word-init c = (omega arith, refl, no_words_put c.args.file.now c.args.words.now)

pub loop-word-preserved : goal.loop-word-preserved
loop-word-preserved c =
    let a = c.args in
    let l = c.loop-word in (
      omega (arith, l.invariant.0),
      search rules,
      word_put a.file.now a.words.now l.file _ l.at l.word-index (omega arith) l.invariant.0 l.invariant.2
          (part_put l.at _ _ _ _ c.put_number.ensures (omega arith)),
    )
