use Rattle.std.proofs.Common.{arith, ◌≡◌, refl, ap₂, ◌∙◌, true, [], ℕ, ◌+◌, ◌*◌, ◌^◌, ◌<◌}
use Rattle.words.specs.Bits.{has}
use Rattle.words.proofs.Bits.{cast_value, cast_below_two}
use Rattle.findings.specs.OneWay.{one_way, is_number, numbers_alone}
use Rattle.findings.proofs.KindSum.{sum_is_kind}
use Rattle.findings.proofs.kind_of.Code as code
use Rattle.findings.proofs.kind_of.Goals as goal

-- bools as numbers, once or twice each, and their sum
once : (x : ℕ) → x < 2 → x < 4
once x l = omega arith

twice : (x : ℕ) → x < 2 → 2 * x < 4
twice x l = omega arith

fits : (x : ℕ) → x < 4 → x < 2 ^ 64
fits x l = omega arith

added : (x y : ℕ) → x < 4 → y < 4 → x + y < 2 ^ 64
added x y l m = omega arith

-- of the function as it is compiled
pub without_branch : one_way [] (code.function).body ≡ true
unfolding one_way
without_branch = refl

pub without_array : numbers_alone (code.function).locals ≡ true
unfolding numbers_alone is_number
without_array = refl

pub overflow_mul-result : goal.overflow_mul-result
overflow_mul-result c = search (fits, twice, cast_below_two)

pub overflow_add-result : goal.overflow_add-result
overflow_add-result c = search (added, once, twice, cast_below_two)

pub returns : goal.returns
unfolding has
returns c =
    ap₂ (λ (opened shorted : ℕ). opened + 2 * shorted) (cast_value _) (cast_value _)
    ∙ sum_is_kind c.args.reach c.args.i c.args.partners
