use Rattle.std.proofs.Common.{◌-◌, ◌∙◌, refl, ap, arith, length, drop, length-drop, take_all}
use Rattle.std.proofs.lemmas.Slice.{put_mid-paste}
use Rattle.decimal.specs.Decimal.{decimal}
use Rattle.decimal.proofs.Putting.{pasted}
use Rattle.decimal.proofs.put_decimal.Goals as goal

pub returns : goal.returns
returns c =
    let a = c.args in
    let digits = c.digits_at_end-start in
    let cut = length-drop digits.result digits.new.buffer in
    let same = ap length digits.ensures.1 in
    let whole = take_all (20 - digits.result) (drop digits.result digits.new.buffer) (omega arith) in (
      omega arith,
      put_mid-paste a.at _ a.text.now _ (decimal a.n) (length (decimal a.n))
          (c.copy_from_slice.ensures.after ∙ whole ∙ digits.ensures.1) (omega arith) refl
          ∙ pasted a.text.now a.at (decimal a.n),
    )
