use Rattle.std.proofs.Common.{◌≡◌, sym, ap, subst, ◌∙◌, ℕ, ◌+◌, ◌<◌, List, [], ◌∷◌, ◌++◌, length, take, arith, length-take-le, take_all}
use Rattle.std.proofs.lemmas.List.{take_more}
use Rattle.words.specs.Bits.{at}
use Rattle.shorter.specs.Shorter.{without}
use Rattle.shorter.proofs.Ordered.{without_kept, without_last, without_most}
use Rattle.shorter.proofs.dropping.without.Goals as goal
use Rattle.shorter.proofs.dropping.without.Goals.{then-t-i, else-t-i}

pub loop-t-init : goal.loop-t-init
unfolding without
loop-t-init c = c.new-less.ensures

-- the words so far, and one more
module _ (i : ℕ) (words : List ℕ) (t : ℕ) (inside : t < length words) where
  size : length (take t words) ≡ t
  size = length-take-le t words (omega arith)

  one_kept : (t ≡ i → ⊥) → without i (take (t + 1) words) ≡ without i (take t words) ++ at words t ∷ []
  one_kept d =
      ap (without i) (take_more words t 0 inside)
      ∙ without_kept i (take t words) (at words t) (λ e. d (sym size ∙ e))

  one_left_out : t ≡ i → without i (take (t + 1) words) ≡ without i (take t words)
  one_left_out e =
      let here : length (take t words) ≡ i = size ∙ e in
      ap (without i) (take_more words t 0 inside)
      ∙ subst (λ (j : ℕ). without j (take t words ++ at words t ∷ []) ≡ without j (take t words)) here
      (without_last (take t words) (at words t))

pub push-requires : goal.push-requires
push-requires c =
    let l = c.loop-t in
    let items = c.as_slice-word-items.result.now in
    let most = without_most c.args.i (take l.t items) in
    let so_far = ap length l.invariant in
    let inside : l.t < length items = c.loop-t-test.true in
    let few = size c.args.i items l.t inside in
    omega (arith, most, so_far, few, inside, c.as_slice-word-items.ensures.fits, ap length c.as_slice-word-items.ensures.value)

pub loop-t-preserved : goal.loop-t-preserved
loop-t-preserved c =
    let i = c.args.i in
    let items = c.as_slice-word-items.result.now in
    let l = c.loop-t in
    let inside : l.t < length items = c.loop-t-test.true in
    elim c.if-t-i.branch [
      | then-t-i w ↦ rw (w.less-is, w.push.ensures.items, l.invariant) (sym (one_kept i items l.t inside w.if-t-i.true))
      | else-t-i w ↦ rw (w.less-is, l.invariant) (sym (one_left_out i items l.t inside w.if-t-i.false))
    ]

pub returns : goal.returns
returns c =
    let l = c.loop-t in
    let items = c.as_slice-word-items.result.now in
    let all : take l.t items ≡ items = take_all l.t items (omega arith) in
    l.invariant ∙ ap (without c.args.i) (all ∙ c.as_slice-word-items.ensures.value)
