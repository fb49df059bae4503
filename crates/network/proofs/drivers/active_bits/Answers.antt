use Rattle.std.proofs.Common.{eq-eqb, ne_eqb, ℕ, ap, ◌∙◌, arith, bit_xor, pow_pos}
use lib.Bits.{xor_lt}
use Rattle.words.specs.Bits.{has}
use Rattle.words.proofs.Bits.{has_others}
use Rattle.network.specs.Reading.{active}
use Rattle.network.proofs.drivers.active_bits.Goals as goal

pub returns-then-net-eq1 : goal.returns-then-net-eq1
unfolding active
returns-then-net-eq1 c =
    let a = c.args in (
      λ i l. rw (eq-eqb _ _ c.if-net-eq1.true)
          (ap (λ (x : ℕ). has (bit_xor a.word x) i) c.low_ones.ensures ∙ has_others a.lowest a.word i l),
      λ l. xor_lt a.lowest a.word _ l
          (let h = pow_pos a.lowest in omega (arith, h, c.low_ones.ensures)),
    )

pub returns : goal.returns
unfolding active
returns c = (λ i l. rw (ne_eqb _ _ c.if-net-eq1.false), λ l. l)
