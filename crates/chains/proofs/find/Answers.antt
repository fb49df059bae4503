use Rattle.std.proofs.Common.{arith, ℕ, suc, ◌≡◌, ◌-◌, ◌≤◌, ◌<◌, sym, ap, ◌∙◌, subst, length}
use Rattle.chains.specs.Chains.{last, in_slot}
use Rattle.chains.proofs.Following.{Following, following_first, following_hit, following_miss, following_end, falls}
use Rattle.chains.proofs.find.Goals as goal
use Rattle.chains.proofs.find.Goals.{then-words-at, else-words-at}

pub loop-place-init : goal.loop-place-init
loop-place-init c =
    let k = c.requires in
    let s = c.slot_of-chain.ensures in
    let a = c.args in
    following_first (length a.heads.now) a.word a.words.now a.count _ k.words_room
    (k.headed _ s.1 ∙ ap (λ (x : ℕ). last a.count (in_slot (length a.heads.now) a.words.now x)) s.0)

-- the place before this one
before_is : (place : ℕ) → 0 < place → place ≡ suc (place - 1)
before_is place some = omega arith

before_inside : (place count : ℕ) → 0 < place → place ≤ count → place - 1 < count
before_inside place count some l = omega arith

pub loop-place-smaller : goal.loop-place-smaller
loop-place-smaller c =
    let l = c.loop-place in
    let a = c.args in
    let some : 0 < l.place = omega arith in
    falls (length a.heads.now) a.word a.words.now a.count l.place (l.place - 1) (before_is l.place some) l.found l.invariant _
    (c.requires.linked (l.place - 1) (before_inside l.place a.count some l.invariant.inside))

pub loop-place-preserved : goal.loop-place-preserved
loop-place-preserved c =
    let l = c.loop-place in
    let a = c.args in
    let some : 0 < l.place = omega arith in
    let link = c.requires.linked (l.place - 1) (before_inside l.place a.count some l.invariant.inside) in
    let follows = Following (length a.heads.now) a.word a.words.now a.count in
    elim c.if-words-at.branch [
      | then-words-at w ↦ subst (follows _) (sym w.found-is)
          (following_hit (length a.heads.now) a.word a.words.now a.count l.place (l.place - 1) (before_is l.place some) l.found
          l.invariant _ link w.if-words-at.true)
      | else-words-at w ↦ subst (follows _) (sym w.found-is)
          (following_miss (length a.heads.now) a.word a.words.now a.count l.place (l.place - 1) (before_is l.place some) l.found
          l.invariant _ link w.if-words-at.false)
    ]

pub returns : goal.returns
returns c =
    let l = c.loop-place in
    let a = c.args in
    following_end (length a.heads.now) a.word a.words.now a.count l.place l.found c.loop-place-test.false l.invariant
