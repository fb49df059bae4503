use Rattle.std.proofs.Common.{◌≡◌, ℕ, true, false, List, length, arith, sym, ap, ◌∙◌, ltb-false}
use Rattle.std.proofs.lemmas.Result.{err_from_is_err_and}
use Rattle.words.specs.Answers.{refused, full, by_tests, lent_after}
use Rattle.words.proofs.Answers.{shared_refuse, shared_pass}
use Rattle.network.specs.declared.Network.{Network}
use Rattle.network.specs.Rows.{no_room}
use Rattle.checker.specs.Passed.{passes}
use Rattle.shorter.specs.Shorter.{tried}
use Rattle.shorter.specs.Shorten.{small_class_tests, own_tests, small_class_admission, shorter, shorten_answer}
use Rattle.shorter.proofs.Ordered.{in_order_length}
use Rattle.shorter.proofs.KeptSets.{tried_in_order}
use Rattle.shorter.proofs.ShortenTable.{owes_refused, owes_full}
use Rattle.shorter.proofs.shorten.Goals as goal

-- the answer where the rows of the test set refuse, and by the call's own rows where they do not
module _ (net : Network) (k : ℕ) (vectors : List ℕ) (allowed : ℕ) (lent : List ℕ) where
  by_set : (number : ℕ) → small_class_admission net k vectors ≡ refused number
      → shorten_answer net k vectors allowed (length lent) ≡ refused number
  unfolding shorten_answer
  by_set number e =
      shared_refuse tt (shorter net k vectors allowed) (small_class_tests net k vectors)
      (own_tests net k vectors (length lent)) number e

  module _ (admitted : small_class_admission net k vectors ≡ full tt) where
    by_own : shorten_answer net k vectors allowed (length lent)
        ≡ by_tests (own_tests net k vectors (length lent)) (shorter net k vectors allowed)
    unfolding shorten_answer
    by_own =
        shared_pass tt (shorter net k vectors allowed) (small_class_tests net k vectors)
        (own_tests net k vectors (length lent)) tt admitted

    by_row_12 : no_room (length vectors) (length lent) ≡ true
        → shorten_answer net k vectors allowed (length lent) ≡ refused 12
    unfolding by_tests
    by_row_12 e = by_own ∙ rw e

    module _ (room : no_room (length vectors) (length lent) ≡ false) where
      by_row_13 : passes net k vectors ≡ false → shorten_answer net k vectors allowed (length lent) ≡ refused 13
      unfolding by_tests
      by_row_13 e = by_own ∙ rw (room, e)

      by_rule : passes net k vectors ≡ true
          → shorten_answer net k vectors allowed (length lent) ≡ full (shorter net k vectors allowed)
      unfolding by_tests
      by_rule e = by_own ∙ rw (room, e)

pub returns-in_err-set : goal.returns-in_err-set
returns-in_err-set c =
    let a = c.args in
    let p = err_from_is_err_and c.from_residual.result c.from_residual.ensures.1 in
    let owed = owes_refused _ _ a.out.now (by_set _ _ _ a.allowed a.out.now _ (sym c.in_err-set.ensures.rows)) in
    record { answer = rw (p.1, p.2) owed.0; list = owed.1 }

pub returns-in_err-refuse_if : goal.returns-in_err-refuse_if
returns-in_err-refuse_if c =
    let a = c.args in
    let p = err_from_is_err_and c.from_residual-in_err-refuse_if.result c.from_residual-in_err-refuse_if.ensures.1 in
    let refused = c.in_err-refuse_if.ensures.refused in
    let owed = owes_refused _ 12 a.out.now
    (by_row_12 _ _ _ a.allowed a.out.now (sym c.in_ok-set.ensures.rows) (sym c.no_room.ensures ∙ refused.1)) in
    record { answer = rw (p.1, p.2, refused.0) owed.0; list = owed.1 }

pub returns-in_err-passed : goal.returns-in_err-passed
returns-in_err-passed c =
    let a = c.args in
    let p = err_from_is_err_and c.from_residual-in_err-passed.result c.from_residual-in_err-passed.ensures.1 in
    let set = c.in_ok-set.ensures.admitted in
    let refused = c.in_err-passed.ensures.refused in
    let owed = owes_refused _ 13 a.out.now
    (by_row_13 _ _ _ a.allowed a.out.now (sym c.in_ok-set.ensures.rows) (sym c.no_room.ensures ∙ c.in_ok-refuse_if.ensures.passed)
    (rw (set.0, set.1, set.2) at refused.1)) in
    record { answer = rw (p.1, p.2, refused.0) owed.0; list = owed.1 }

-- what is kept is a part of what is given, and there is room for that
pub copy_words-requires : goal.copy_words-requires
copy_words-requires c =
    let a = c.args in
    let set = c.in_ok-set.ensures.admitted in
    let passed = c.in_ok-passed.ensures.passed in
    let kept = rw (passed.0, passed.1, passed.2, set.0, set.1, set.2) at c.drop_vectors-left.ensures.kept in
    omega (
      arith,
      ltb-false (length a.out.now) (length a.vectors.now) (sym c.no_room.ensures ∙ c.in_ok-refuse_if.ensures.passed),
      in_order_length (tried a.net a.class a.vectors.now a.allowed).kept a.vectors.now
          (tried_in_order a.net a.class a.vectors.now a.allowed),
      ap length (c.as_slice.ensures.value ∙ kept),
    )

pub returns : goal.returns
returns c =
    let a = c.args in
    let left = c.drop_vectors-left in
    let set = c.in_ok-set.ensures.admitted in
    let passed = c.in_ok-passed.ensures.passed in
    let kept = rw (passed.0, passed.1, passed.2, set.0, set.1, set.2) at left.ensures.kept in
    let checks = rw (passed.0, passed.1, passed.2, set.0, set.1, set.2) at left.ensures.checks in
    let owed = owes_full _ (shorter a.net a.class a.vectors.now a.allowed) c.len.result left.result.checks
    c.floor.result a.out.now _
    (by_rule _ _ _ a.allowed a.out.now (sym c.in_ok-set.ensures.rows)
    (sym c.no_room.ensures ∙ c.in_ok-refuse_if.ensures.passed) (rw (set.0, set.1, set.2) at passed.3))
    (c.len.ensures.value ∙ ap length kept) checks (rw set.0 at c.floor.ensures)
    (c.copy_words.ensures ∙ ap (λ (xs : List ℕ). lent_after (full xs) a.out.now) (c.as_slice.ensures.value ∙ kept)) in
    record { answer = owed.0; list = owed.1 }
