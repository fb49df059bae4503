use Rattle.std.proofs.Common.{ℕ, ◌≡◌, List, length, take, drop, ◌++◌, arith, sym, ap, ◌∙◌}
use Rattle.std.proofs.Math.Seq.{take-append_seam}
use Rattle.std.specs.List.{refill}
use Rattle.network.proofs.Rows.{admitted_set, small_board}
use Rattle.checker.proofs.PassedSets.{passed_by, passed_search}
use Rattle.diagnosis.proofs.classes.class_reaches.Goals as goal

-- a list as long as another takes its place
refilled : (words old : List ℕ) → length words ≡ length old → refill (length old) old words ≡ words
refilled words old e =
    ap (λ (n : ℕ). take n (words ++ drop (length words) old)) (sym e) ∙ take-append_seam words (drop (length words) old)

pub note_all-requires : goal.note_all-requires
note_all-requires c =
    let t = c.args.passed.set in (
      small_board (admitted_set t.nets.network t.class t.vectors.now t.admitted) c.requires.0 c.in_default.ensures.large,
      omega (arith, ap length c.as_mut_slice.ensures.value),
    )

pub returns-in_default : goal.returns-in_default
returns-in_default c =
    let e = refilled c.note_all.new.reaches c.no_reaches-reaches.result.items
    (c.note_all.auto.reaches ∙ ap length c.as_mut_slice.ensures.value) in record {
      size = rw e (c.note_all.auto.reaches ∙ ap length c.as_mut_slice.ensures.value ∙ c.no_reaches-reaches.ensures);
      only = rw e c.note_all.ensures;
    }

pub sets_read-requires : goal.sets_read-requires
sets_read-requires c = omega (arith, ap length c.as_mut_slice-2.ensures.value)

pub returns : goal.returns
returns c =
    let t = c.args.passed.set in
    let r = c.sets_read in
    let e = refilled r.new.reaches c.no_reaches-reaches.result.items
    (r.auto.reaches ∙ ap length c.as_mut_slice-2.ensures.value) in
    let same = c.in-Some.ensures.small in
    let passed = passed_by t.nets.network t.class t.vectors.now t.admitted c.args.passed.passed in record {
      size = rw e (r.auto.reaches ∙ ap length c.as_mut_slice-2.ensures.value ∙ c.no_reaches-reaches.ensures);
      only = rw e (rw (← same.0, ← same.1, ← same.2) (r.ensures.sets (r.ensures.rule
          ∙ rw (same.0, same.1, same.2) (passed_search t.nets.network t.class t.vectors.now passed))));
    }
