use Rattle.std.proofs.Common.{ℕ, ◌≡◌, ◌≢◌, ◌+◌, ◌≤◌, ◌∙◌, sym, ap, arith, List, ◌++◌, length, length-append}
use Rattle.std.proofs.Common.{append_assoc, append-nil, eqb-true}
use borrow.Author.Tests.{eqb-false}
use Rattle.network.specs.declared.Network.{Network}
use Rattle.network.specs.OwnReceivers.{own_receivers}
use Rattle.checker.specs.declared.Verdict.{Verdict}
use Rattle.checker.specs.Rule.{verdict}
use Rattle.diagnosis.specs.Diagnosis.{diagnosis_answer}
use Rattle.listing.specs.Report.{verdict_line, diagnosis_text, responses_text, content_text}
use Rattle.listing.proofs.Reporting.{nothing_follows, diagnosis_follows}
use Rattle.listing.proofs.put_content.Goals as goal

-- line one, and what follows it
module _ (net : Network) (k : ℕ) (vectors responses : List ℕ) where
  abbrev line : List ℕ
  line = verdict_line net k (length vectors) (verdict net k vectors)

  abbrev found : List ℕ
  found = diagnosis_text net (diagnosis_answer net (own_receivers net.nets) k vectors responses 48)

  alone : length responses ≡ 0 → content_text net k vectors responses ≡ line
  unfolding content_text
  alone none = ap (λ (rest : List ℕ). line ++ rest) (nothing_follows net k vectors responses none) ∙ append-nil line

  followed : length responses ≢ 0 → content_text net k vectors responses ≡ line ++ found
  unfolding content_text
  followed some = ap (λ (rest : List ℕ). line ++ rest) (diagnosis_follows net k vectors responses some)

  line_most : length line ≤ length (content_text net k vectors responses)
  unfolding content_text
  line_most = let both = length-append line (responses_text net k vectors responses) in omega arith

  -- line one is put, and the verdict in it is the rule's
  module _ (before put : List ℕ) (said : Verdict) (told : said ≡ verdict net k vectors)
      (e : put ≡ before ++ verdict_line net k (length vectors) said) where
    line_put : put ≡ before ++ line
    line_put = e ∙ ap (λ (v : Verdict). before ++ verdict_line net k (length vectors) v) told

    line_alone : length responses ≡ 0 → put ≡ before ++ content_text net k vectors responses
    line_alone none = line_put ∙ ap (λ (text : List ℕ). before ++ text) (sym (alone none))

    room_left : length responses ≢ 0
        → length put + length found ≡ length before + length (content_text net k vectors responses)
    room_left some =
        let size = ap length line_put ∙ length-append before line in
        let both = ap length (followed some) ∙ length-append line found in
        omega arith

    line_and_more : length responses ≢ 0 → (after : List ℕ) → after ≡ put ++ found
        → after ≡ before ++ content_text net k vectors responses
    line_and_more some after f =
        f ∙ ap (λ (text : List ℕ). text ++ found) line_put ∙ append_assoc before line found
        ∙ ap (λ (text : List ℕ). before ++ text) (sym (followed some))

pub put_verdict-requires : goal.put_verdict-requires
put_verdict-requires c =
    let set = c.args.set in
    let most = line_most set.nets.network set.class set.vectors.now c.args.responses.now in
    rw c.of-verdict.ensures (omega (arith, c.requires))

pub put_diagnosis-requires : goal.put_diagnosis-requires
put_diagnosis-requires c =
    let set = c.args.set in
    let some : length c.args.responses.now ≢ 0 = eqb-false (length c.args.responses.now) 0 (sym c.is_empty.ensures ∙ c.if-not-is_empty.true) in
    let room = room_left set.nets.network set.class set.vectors.now c.args.responses.now c.args.text.now.items
    c.put_verdict.new.text.items c.of-verdict.result c.of-verdict.ensures c.put_verdict.ensures some in
    omega (arith, c.requires)

pub returns-then-not-is_empty : goal.returns-then-not-is_empty
returns-then-not-is_empty c =
    let set = c.args.set in
    let some : length c.args.responses.now ≢ 0 = eqb-false (length c.args.responses.now) 0 (sym c.is_empty.ensures ∙ c.if-not-is_empty.true) in
    line_and_more set.nets.network set.class set.vectors.now c.args.responses.now c.args.text.now.items
    c.put_verdict.new.text.items c.of-verdict.result c.of-verdict.ensures c.put_verdict.ensures some _ c.put_diagnosis.ensures

pub returns-else-not-is_empty : goal.returns-else-not-is_empty
returns-else-not-is_empty c =
    let set = c.args.set in
    let none : length c.args.responses.now ≡ 0 = eqb-true (length c.args.responses.now) 0 (sym c.is_empty.ensures ∙ c.if-not-is_empty.false) in
    line_alone set.nets.network set.class set.vectors.now c.args.responses.now c.args.text.now.items
    c.put_verdict.new.text.items c.of-verdict.result c.of-verdict.ensures c.put_verdict.ensures none
