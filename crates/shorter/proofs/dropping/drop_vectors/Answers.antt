use Rattle.std.proofs.Common.{◌≡◌, ℕ, ◌-◌, ◌≤◌, ◌<◌, Bool, true, false, cond, ◌&&◌, List, length, Result, Ok, Err}
use Rattle.std.proofs.Common.{IfOk, IfErr, arith, refl, sym, ap, ◌∙◌, subst, ltb, ltb-true}
use Rattle.std.specs.Result.{is_ok}
use Rattle.std.proofs.lemmas.Result.{IfOk-weaker}
use Rattle.words.proofs.Tests.{and_left, and_right, contrary}
use Rattle.words.specs.Answers.{NoneHolds}
use Rattle.network.specs.declared.Network.{Network}
use Rattle.network.specs.Rows.{SetRows}
use Rattle.network.proofs.Rows.{admitted_set}
use Rattle.checker.specs.Passed.{passes}
use Rattle.shorter.specs.Shorter.{InOrder, without}
use Rattle.shorter.proofs.Ordered.{in_order_both, in_order_length, without_in_order, without_length}
use Rattle.shorter.proofs.Trying.{Going, going_first, going_on, going_last}
use Rattle.shorter.proofs.Parts.{part_admitted, part_size}
use Rattle.shorter.proofs.dropping.drop_vectors.Goals as goal

pub loop-t-init : goal.loop-t-init
loop-t-init c =
    let p = c.args.passed in
    rw (c.len-t.ensures.value, c.list_of-kept.ensures)
    (going_first (passes p.set.nets.network p.set.class) p.set.vectors.now c.args.allowed p.passed)

-- a turn of the loop: of the set given, `kept` is left so far
module _ (net : Network) (k : ℕ) (vectors : List ℕ) (admitted : NoneHolds (SetRows net k vectors)) (allowed : ℕ)
    (kept : List ℕ) (t left : ℕ) (going : Going (passes net k) vectors allowed kept t left)
    (more : ltb 0 t && ltb 0 left ≡ true) where
  -- a vector is left to be tried, and a check
  more_vectors : 0 < t
  more_vectors = ltb-true 0 t (and_left (ltb 0 t) (ltb 0 left) more)

  more_checks : 0 < left
  more_checks = ltb-true 0 left (and_right (ltb 0 t) (ltb 0 left) more)

  -- the index of the vector to be tried
  tried_inside : t - 1 < length kept
  tried_inside = omega (arith, more_vectors, going.size)

  kept_most : length kept ≤ 64
  kept_most =
      omega (arith, in_order_length kept vectors going.in_order, (admitted_set net k vectors admitted).vectors_most)

  less_in_order : InOrder (without (t - 1) kept) vectors
  less_in_order =
      in_order_both (without (t - 1) kept) kept vectors (without_in_order (t - 1) kept) going.in_order

  -- what is kept so far is passed, so it has two vectors or more, and the trial is not on an empty set
  some_left : 2 ≤ length kept
  some_left = part_size net k vectors admitted kept going.in_order going.passing

  -- the set that is tried
  less_admitted : (less : List ℕ) → less ≡ without (t - 1) kept → NoneHolds (SetRows net k less)
  less_admitted less e =
      subst (λ (set : List ℕ). NoneHolds (SetRows net k set)) (sym e)
      (part_admitted net k vectors admitted (without (t - 1) kept) less_in_order
      (omega (arith, without_length (t - 1) kept tried_inside, some_left)))

  -- what the trial leaves, by its outcome
  goes_on : (less : List ℕ) → less ≡ without (t - 1) kept → (b : Bool) → passes net k less ≡ b
      → Going (passes net k) vectors allowed (cond b (without (t - 1) kept) kept) (t - 1) (left - 1)
  goes_on less e b outcome =
      going_on (passes net k) vectors allowed kept t left b going more_vectors more_checks
      (ap (passes net k) (sym e) ∙ outcome)

-- what the answer on the others tells of the test
refused_fails : {T E : Type 0} (Q : E → Type 0) (b : Bool) (r : Result T E) → IfErr r (λ e. Q e × (b ≡ false))
    → is_ok r ≡ false → b ≡ false
refused_fails Q b (Ok x) h e = contrary refl e
refused_fails Q b (Err y) h e = h.1

passed_holds : {T E : Type 0} (b : Bool) (r : Result T E) → IfOk r (λ _. b ≡ true) → is_ok r ≡ true → b ≡ true
passed_holds b (Ok x) h e = h
passed_holds b (Err y) h e = contrary e refl

-- the others: vector t - 1 is left out of what is kept so far
others : (slice less kept : List ℕ) (i : ℕ) → slice ≡ less → less ≡ without i kept → slice ≡ without i kept
others slice less kept i e f = e ∙ f

pub invariant_of-others : goal.invariant_of-others
invariant_of-others c =
    let p = c.args.passed in
    let l = c.loop-t in
    record {
      admitted = less_admitted p.set.nets.network p.set.class p.set.vectors.now p.set.admitted c.args.allowed l.kept.items l.t l.left
          l.invariant c.loop-t-test.true _
          (others _ _ l.kept.items _ c.as_slice.ensures.value c.without-less.ensures);
    }

pub loop-t-preserved-then-is_ok : goal.loop-t-preserved-then-is_ok
loop-t-preserved-then-is_ok c =
    let p = c.args.passed in
    let net = p.set.nets.network in
    let k = p.set.class in
    let l = c.loop-t in
    let less = others _ _ l.kept.items _ c.as_slice.ensures.value c.without-less.ensures in
    let holds = passed_holds _ c.passed.result (IfOk-weaker c.passed.result _ _ (λ _ h. h.3) c.passed.ensures.passed)
    (sym c.is_ok.ensures.value ∙ c.if-is_ok.true) in
    let dropped : _ ≡ without (l.t - 1) l.kept.items = grind arith in
    subst (λ (kept : List ℕ). Going (passes net k) p.set.vectors.now c.args.allowed kept (l.t - 1) (l.left - 1)) (sym dropped)
    (goes_on net k p.set.vectors.now p.set.admitted c.args.allowed l.kept.items l.t l.left l.invariant
    c.loop-t-test.true _ less true holds)

pub loop-t-preserved : goal.loop-t-preserved
loop-t-preserved c =
    let p = c.args.passed in
    let net = p.set.nets.network in
    let k = p.set.class in
    let l = c.loop-t in
    let less = others _ _ l.kept.items _ c.as_slice.ensures.value c.without-less.ensures in
    let fails = refused_fails _ _ c.passed.result c.passed.ensures.refused (sym c.is_ok.ensures.value ∙ c.if-is_ok.false) in
    goes_on net k p.set.vectors.now p.set.admitted c.args.allowed l.kept.items l.t l.left l.invariant
    c.loop-t-test.true _ less false fails

pub returns-clause-kept : goal.returns-clause-kept
returns-clause-kept c =
    let p = c.args.passed.set in
    let l = c.loop-t in
    (going_last (passes p.nets.network p.class) p.vectors.now c.args.allowed l.kept.items l.t l.left l.invariant
    c.loop-t-test.false).0

pub returns-clause-checks : goal.returns-clause-checks
returns-clause-checks c =
    let p = c.args.passed.set in
    let l = c.loop-t in
    (going_last (passes p.nets.network p.class) p.vectors.now c.args.allowed l.kept.items l.t l.left l.invariant
    c.loop-t-test.false).1
