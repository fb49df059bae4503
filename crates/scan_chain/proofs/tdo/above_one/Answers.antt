use Rattle.std.proofs.Common.{◌≡◌, sym, ap, ◌∙◌, ℕ, Bool, ◌||◌, ltb, arith, length, not-suc-le-zero}
use Rattle.words.specs.Bits.{at}
use Rattle.words.specs.Searching.{any}
use Rattle.words.proofs.Searching.{any_none, any_more}
use Rattle.scan_chain.specs.Rows.{above_one}
use Rattle.scan_chain.proofs.tdo.above_one.Goals as goal

pub loop-byte-init : goal.loop-byte-init
loop-byte-init c = sym (any_none (λ z. ltb 1 (at c.args.bytes.now z)) 0 (λ z l. absurd (not-suc-le-zero l)))

pub loop-byte-preserved : goal.loop-byte-preserved
loop-byte-preserved c =
    let l = c.loop-byte in
    let bytes = c.args.bytes.now in
    ap (λ (b : Bool). b || ltb 1 (at bytes l.byte-index)) l.invariant ∙ sym (any_more (λ z. ltb 1 (at bytes z)) l.byte-index)

pub returns : goal.returns
unfolding above_one
returns c =
    let l = c.loop-byte in
    let bytes = c.args.bytes.now in
    let all : l.byte-index ≡ length bytes = omega arith in
    l.invariant ∙ ap (λ (n : ℕ). any n (λ z. ltb 1 (at bytes z))) all
