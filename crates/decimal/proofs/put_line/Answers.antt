use Rattle.std.proofs.Common.{◌+◌, ◌∙◌, refl, arith, length, length-append}
use Rattle.std.proofs.lemmas.Slice.{put_mid-paste}
use Rattle.words.proofs.Writing.{written_next}
use Rattle.decimal.specs.Decimal.{numbers_end}
use Rattle.decimal.proofs.Putting.{pasted}
use Rattle.decimal.proofs.put_line.Goals as goal

pub returns : goal.returns
returns c =
    let a = c.args in
    let word = a.word.now in
    let line = numbers_end a.numbers.now in
    let both = length-append word line in (
      omega arith,
      written_next a.text.now _ c.put_numbers.new.text a.at (a.at + length word) word line
          (put_mid-paste a.at _ a.text.now _ word (length word) c.copy_from_slice.ensures.after (omega arith) refl
          ∙ pasted a.text.now a.at word)
          c.put_numbers.ensures.1 refl (omega arith),
    )
