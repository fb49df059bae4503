use Rattle.std.proofs.Common.{ℕ, ◌+◌, ◌<◌, List, [], ◌∷◌, ◌++◌, length, ◌≡◌, ◌∙◌, ap, arith, sym, subst, below_more}
use Rattle.std.proofs.Math.ListN.{get_or-append}
use Rattle.std.proofs.Math.Seq.{get_or-append_seam}
use Rattle.words.specs.Bits.{at}
use Rattle.network.proofs.Rows.{admitted_set}
use Rattle.checker.specs.Seen.{OnlyAnswer}
use Rattle.checker.proofs.PassedSets.{passed_by}
use Rattle.diagnosis.proofs.Gathering.{walked_only, full_of_rule}
use Rattle.diagnosis.proofs.walking.walking_reaches.Goals as goal

-- what holds of each entry of a list holds with one more
one_more : (P : ℕ → ℕ → Type 0) (xs : List ℕ) (x : ℕ) → ((z : ℕ) → z < length xs → P z (at xs z)) → P (length xs) x
    → (z : ℕ) → z < length xs + 1 → P z (at (xs ++ x ∷ []) z)
one_more P xs x before now =
    below_more (λ z. P z (at (xs ++ x ∷ []) z)) (length xs)
    (λ z l. subst (P z) (sym (get_or-append xs (x ∷ []) 0 z l)) (before z l))
    (subst (P (length xs)) (sym (get_or-append_seam xs x [] 0)) now)

pub walking_reach-requires : goal.walking_reach-requires
walking_reach-requires c =
    let t = c.args.passed.set in
    (admitted_set t.nets.network t.class t.vectors.now t.admitted).vectors_most

pub loop-answered-preserved : goal.loop-answered-preserved
loop-answered-preserved c =
    let t = c.args.passed.set in
    let net = t.nets.network in
    let l = c.loop-answered in
    let only = walked_only net t.vectors.now _ _
    (full_of_rule net t.vectors.now
    (rw c.requires.0 at (passed_by net t.class t.vectors.now t.admitted c.args.passed.passed).1))
    c.walking_reach.ensures in
    let pushed : c.push.new.self.items ≡ l.reaches.items ++ c.walking_reach.result ∷ [] =
    c.push.ensures.items ∙ ap (λ (x : ℕ). l.reaches.items ++ x ∷ []) (omega arith) in (
      omega (arith, c.push.ensures.len, l.invariant.0),
      rw pushed (rw (sym l.invariant.0)
          (one_more (λ z reach. OnlyAnswer net t.class t.vectors.now (at c.args.answers.now z) reach) l.reaches.items _
          (rw l.invariant.0 l.invariant.1) (rw (l.invariant.0, c.requires.0) only))),
    )
