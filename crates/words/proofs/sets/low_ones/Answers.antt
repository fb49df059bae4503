use Rattle.std.proofs.Common.{ℕ, ◌-◌, ◌^◌, ◌≡◌, refl, sym, ap, ◌∙◌, arith, pow_pos}
use Rattle.words.proofs.sets.low_ones.Goals as goal

all_ones : 18446744073709551615 ≡ 2 ^ 64 - 1
all_ones = refl

pub returns-then-count-eq64 : goal.returns-then-count-eq64
returns-then-count-eq64 c = all_ones ∙ sym (ap (λ (x : ℕ). 2 ^ x - 1) c.if-count-eq64.true)

pub bit_word-requires : goal.bit_word-requires
bit_word-requires c = omega arith

pub overflow_sub-result : goal.overflow_sub-result
overflow_sub-result c = omega (arith, c.bit_word.ensures, pow_pos c.args.count)

pub returns : goal.returns
returns c = ap (λ (x : ℕ). x - 1) c.bit_word.ensures
