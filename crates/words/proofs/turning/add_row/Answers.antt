use Rattle.std.proofs.Common.{rules, eqb-true, eq-eqb, ℕ, suc, ◌+◌, ◌-◌, ◌*◌, ◌^◌, ◌≤◌, ◌<◌, le_of_suc-le-suc}
use Rattle.std.proofs.Common.{mul-le-mul_right, arith, ◌≡◌, refl, sym, ap, ap₂, ◌∙◌, subst, Bool, true, false, not}
use Rattle.std.proofs.Common.{◌&&◌, List, ⊎_elim, bit_and, eqb, length, set, pow_pos, pow_mono, get_or-set_same}
use Rattle.std.proofs.Common.{get_or-set_other}
use borrow.Author.Tests.{eqb-false}
use mathlib.Core.Bool.{false≢true}
use Rattle.std.specs.Int.Count.{count_trailing_zeros}
use Rattle.words.specs.Bits.{has, bit_value, at}
use Rattle.words.proofs.Bits.{bit_value_below_two, has_zero, has_inside, has_without}
use Rattle.words.proofs.Classes.{has_lowest_one, lowest_one_out}
use Rattle.words.proofs.Tests.{cases, and_true}
use Rattle.words.proofs.turning.add_row.Goals as goal

-- an entry that bit t is still to be added to
entry_fits : (x row a t : ℕ) (b d : Bool) → x + bit_value b * 2 ^ t ≡ a + bit_value d * 2 ^ t → b ≡ true → row ≡ 2 ^ t
    → t < 64 → a < 2 ^ t → x + row < 2 ^ 64
unfolding bit_value
entry_fits x row a t true d e on q h l =
    let p : 2 ^ suc t ≤ 2 ^ 64 = pow_mono {i = suc t} {j = 64} (omega arith) in
    let b : bit_value d * 2 ^ t ≤ 1 * 2 ^ t = mul-le-mul_right (2 ^ t) (le_of_suc-le-suc (bit_value_below_two d)) in
    omega arith
entry_fits x row a t false d e on q h l = absurd (false≢true on)

-- a bit goes from the rest into its entry: the two together are what they were
module _ (rest row i : ℕ) (columns : List ℕ) (on : has rest i ≡ true) (room : i < length columns) where
  abbrev Moved : ℕ → Type 0
  Moved z =
      at (set columns i (at columns i + row)) z + bit_value (has (rest - 2 ^ i) z) * row ≡ at columns z + bit_value (has rest z) * row

  own : Moved i
  unfolding bit_value
  own =
      let stored : at (set columns i (at columns i + row)) i ≡ at columns i + row = get_or-set_same columns i _ 0 room in
      let out : has (rest - 2 ^ i) i ≡ false = has_without i rest i on ∙ ap₂ (λ (x y : Bool). x && not y) on (eq-eqb i i refl) in
      rw (stored, out, on) (omega arith)

  other : (z : ℕ) → eqb i z ≡ false → Moved z
  other z e =
      ap₂ (λ (x : ℕ) (b : Bool). x + bit_value b * row) (get_or-set_other columns i z _ 0 (λ q. eqb-false i z e (sym q)))
      (has_without i rest z on ∙ ap (λ (b : Bool). has rest z && not b) e ∙ and_true (has rest z))

  moved : (z : ℕ) → Moved z
  moved z = ⊎_elim (λ e. subst (λ (y : ℕ). Moved y) (eqb-true i z e) own) (other z) (cases (eqb i z))

-- no bit is left
settled : (x t rest i : ℕ) → rest ≡ 0 → x ≡ x + bit_value (has rest i) * 2 ^ t
unfolding bit_value
settled x t rest i e = rw (e, has_zero i) (omega arith)

pub loop-rest-init : goal.loop-rest-init
loop-rest-init g c = (search rules, search rules, λ i l. refl)

-- the lowest net of the rest
module _ (rest i : ℕ) (some : 0 < rest) (fits : rest < 2 ^ 64) (lowest : i ≡ count_trailing_zeros 64 rest) where
  net_in : has rest i ≡ true
  net_in = ap (has rest) lowest ∙ has_lowest_one 64 rest some fits

  net_inside : i < 64
  net_inside = has_inside 64 _ _ fits net_in

  rest_next : bit_and rest (rest - 1) ≡ rest - 2 ^ i
  rest_next = lowest_one_out 64 rest some fits ∙ ap (λ (z : ℕ). rest - 2 ^ z) (sym lowest)

pub offset_bounds-columns-i : goal.offset_bounds-columns-i
offset_bounds-columns-i g c =
    omega (arith, net_inside c.loop-rest.rest _ (omega arith) c.loop-rest.invariant.0 c.lowest_net-i.ensures)

pub bounds-columns-i : goal.bounds-columns-i
bounds-columns-i g c = net_inside c.loop-rest.rest _ (omega arith) c.loop-rest.invariant.0 c.lowest_net-i.ensures

pub overflow_add-columns : goal.overflow_add-columns
overflow_add-columns g c =
    let l = c.loop-rest in
    let i = c.lowest_net-i.result in
    let some : 0 < l.rest = omega arith in
    let inside = net_inside l.rest i some l.invariant.0 c.lowest_net-i.ensures in record {
      fits = entry_fits _ _ _ _ _ _ (l.invariant.2 i inside) (net_in l.rest i some l.invariant.0 c.lowest_net-i.ensures)
          c.bit_word-row.ensures (omega arith) (c.requires.2 i inside);
    }

pub bounds-columns-i-in-loop-rest : goal.bounds-columns-i-in-loop-rest
bounds-columns-i-in-loop-rest g c =
    net_inside c.loop-rest.rest _ (omega arith) c.loop-rest.invariant.0 c.lowest_net-i.ensures

pub loop-rest-smaller : goal.loop-rest-smaller
loop-rest-smaller g c =
    let some : 0 < c.loop-rest.rest = omega arith in
    rw (rest_next c.loop-rest.rest _ some c.loop-rest.invariant.0 c.lowest_net-i.ensures)
    (omega (arith, pow_pos c.lowest_net-i.result, some))

pub loop-rest-preserved : goal.loop-rest-preserved
loop-rest-preserved g c =
    let l = c.loop-rest in
    let i = c.lowest_net-i.result in
    let some : 0 < l.rest = omega arith in
    let next = rest_next l.rest i some l.invariant.0 c.lowest_net-i.ensures in
    let inside = net_inside l.rest i some l.invariant.0 c.lowest_net-i.ensures in (
      rw next (omega arith),
      search rules,
      λ z m. rw (next, c.bit_word-row.ensures)
          (moved l.rest (2 ^ c.args.t) i l.columns (net_in l.rest i some l.invariant.0 c.lowest_net-i.ensures)
          (omega (arith, inside)) z ∙ l.invariant.2 z m),
    )

pub returns : goal.returns
returns g c = (
  search rules,
  λ i l. rw (← c.bits-rest.ensures) (settled _ _ _ i c.loop-rest-test.false ∙ c.loop-rest.invariant.2 i l),
)
