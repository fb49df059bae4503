use Rattle.std.proofs.Common.{◌≡◌, ℕ, ◌%◌, false, not, ltb, sym, ap, ◌∙◌, arith, below_more, eq-eqb, ne_eqb, lt-ltb}
use Rattle.words.proofs.Tests.{and_both, and_false}
use Rattle.words.proofs.Searching.{any_at, any_none}
use Rattle.jobfile.specs.VectorsBody.{lead}
use Rattle.jobfile.specs.Layout.{entry_count, entry_kind, body_length, nets_size, bad_bodies}
use Rattle.reader.proofs.layout.LaidOut.bad_bodies.Invariants.{bad_words}
use Rattle.reader.proofs.layout.LaidOut.bad_bodies.Goals as goal

pub returns-then-entry-ne-NETS_SIZE : goal.returns-then-entry-ne-NETS_SIZE
unfolding bad_bodies
returns-then-entry-ne-NETS_SIZE c =
    rw (ne_eqb (body_length c.args.self.file.now 0) nets_size (λ e. c.if-entry-ne-NETS_SIZE.true (c.entry.ensures.2 ∙ e)))

pub returns-then-entry-lead : goal.returns-then-entry-lead
unfolding bad_bodies
returns-then-entry-lead c =
    let file = c.args.self.file.now in
    let i = c.loop-i.i in
    let e = c.entry-entry.ensures in
    let lead_is = c.lead.ensures ∙ ap (λ (kind : ℕ). lead kind) e.0 in
    let broken = and_both (lt-ltb 0 i c.loop-i.auto.i) (ap not (ne_eqb (body_length file i % 8) (lead (entry_kind file i))
    (λ q. c.if-entry-lead.true (ap (λ (n : ℕ). n % 8) e.2 ∙ q ∙ sym lead_is)))) in
    rw (eq-eqb (body_length file 0) nets_size (sym c.entry.ensures.2 ∙ c.if-entry-ne-NETS_SIZE.false))
    (sym (any_at (bad_words file) (entry_count file) i (omega (arith, c.entry_count-i-end.ensures)) broken))

pub loop-i-preserved : goal.loop-i-preserved
loop-i-preserved c =
    let file = c.args.self.file.now in
    let i = c.loop-i.i in
    let e = c.entry-entry.ensures in
    let lead_is = c.lead.ensures ∙ ap (λ (kind : ℕ). lead kind) e.0 in
    let complete : bad_words file i ≡ false = rw (eq-eqb (body_length file i % 8) (lead (entry_kind file i))
    (ap (λ (n : ℕ). n % 8) (sym e.2) ∙ c.if-entry-lead.false ∙ lead_is))
    (and_false (ltb 0 i)) in
    below_more (λ z. bad_words file z ≡ false) i c.loop-i.invariant complete

pub returns : goal.returns
unfolding bad_bodies
returns c =
    let file = c.args.self.file.now in
    rw (eq-eqb (body_length file 0) nets_size (sym c.entry.ensures.2 ∙ c.if-entry-ne-NETS_SIZE.false))
    (sym (any_none (bad_words file) (entry_count file)
    (λ z m. c.loop-i.invariant z (omega (arith, c.entry_count-i-end.ensures)))))
