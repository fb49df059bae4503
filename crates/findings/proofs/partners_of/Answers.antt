use Rattle.std.proofs.Common.{ℕ, ◌+◌, ◌<◌, ◌^◌, arith, lt_of_le_of_lt, not-suc-le-zero, ◌≡◌, sym, ap, ap₂, ◌∙◌, Bool}
use Rattle.std.proofs.Common.{◌&&◌, ◌||◌, List, bit_and, bit_or, length}
use lib.Bits.{and_le_l}
use Rattle.words.specs.Bits.{has, at}
use Rattle.words.specs.Searching.{any}
use Rattle.words.proofs.Bits.{words_equal, has_zero, has_and, has_or}
use Rattle.words.proofs.Searching.{any_more, any_none}
use Rattle.network.specs.declared.Network.{Network}
use Rattle.network.specs.Reading.{all_but}
use Rattle.network.proofs.Reading.{has_every_but, all_but_less, all_below}
use Rattle.findings.specs.Findings.{net_of, joins_at, is_partner, partners}
use Rattle.findings.proofs.FindingsLaws.{net_below}
use Rattle.findings.proofs.Partners.{partners_below, has_partners}
use Rattle.findings.proofs.partners_of.Goals as goal

-- one receiver more
one_more : (owners state : List ℕ) (r s joined word : ℕ) → ((j : ℕ) → has joined j ≡ any s (joins_at owners state r j))
    → ((j : ℕ) → has word j ≡ joins_at owners state r j s)
    → (j : ℕ) → has (bit_or joined word) j ≡ any (s + 1) (joins_at owners state r j)
one_more owners state r s joined word h here j =
    has_or joined word j ∙ ap₂ (λ (b t : Bool). b || t) (h j) (here j) ∙ sym (any_more (joins_at owners state r j) s)

module _ (net : Network) (owners state : List ℕ) (r joined : ℕ) (l : net_of owners r < net.nets) where
  -- all nets that receivers join to r or whose drivers reach r, but its own
  abbrev all : ℕ
  all = bit_and (all_but net (net_of owners r)) (bit_or joined (at state r))

  all_inside : all < 2 ^ net.nets
  all_inside =
      let i = net_of owners r in
      let less = all_but_less net i l in
      lt_of_le_of_lt (and_le_l (all_but net i) (bit_or joined (at state r))) (omega (arith, less, all_below net))

  all_partners : ((j : ℕ) → has joined j ≡ any (length state) (joins_at owners state r j))
      → all ≡ partners net owners state r
  unfolding is_partner
  all_partners h = words_equal net.nets all (partners net owners state r) all_inside
      (partners_below net owners state r) same
    where
      same : (j : ℕ) → j < net.nets → has all j ≡ has (partners net owners state r) j
      same j m =
          has_and (all_but net (net_of owners r)) (bit_or joined (at state r)) j
          ∙ ap₂ (λ (b t : Bool). b && t) (has_every_but net (net_of owners r) j l m)
          (has_or joined (at state r) j ∙ ap (λ (t : Bool). t || has (at state r) j) (h j))
          ∙ sym (has_partners net owners state r j m)

pub bounds-state-r : goal.bounds-state-r
bounds-state-r c = let p = c.requires in omega (arith, p.0, p.1.size)

pub loop-s-init : goal.loop-s-init
loop-s-init c j = has_zero j ∙ sym (any_none _ 0 (λ z l. absurd (not-suc-le-zero l)))

pub joined_by-joined-requires : goal.joined_by-joined-requires
joined_by-joined-requires c =
    let board = c.args.board in
    let here : c.loop-s.s < length board.receivers.now = omega (arith, c.requires.1.size) in
    let (few, mine) = net_below _ _ board.admitted c.args.r c.requires.0 in
    let its = (net_below _ _ board.admitted c.loop-s.s here).1 in
    (omega (arith, few, mine), omega (arith, few, its))

pub loop-s-preserved : goal.loop-s-preserved
loop-s-preserved c =
    let l = c.loop-s in
    one_more c.args.board.receivers.now c.args.state.now c.args.r l.s l.joined c.joined_by-joined.result l.invariant
    c.joined_by-joined.ensures

pub all_but-requires : goal.all_but-requires
all_but-requires c = (net_below _ _ c.args.board.admitted c.args.r c.requires.0).1

pub returns : goal.returns
returns c =
    let l = c.loop-s in
    let a = c.args in
    let board = a.board in
    let whole : l.s ≡ length a.state.now = omega arith in
    let inside = (net_below _ _ board.admitted a.r c.requires.0).1 in
    ap (λ (w : ℕ). bit_and w (bit_or l.joined (at a.state.now a.r))) c.all_but.ensures
    ∙ all_partners board.nets.network board.receivers.now a.state.now a.r l.joined inside
    (λ j. l.invariant j ∙ ap (λ (n : ℕ). any n (joins_at board.receivers.now a.state.now a.r j)) whole)
