use Rattle.std.proofs.Common.{ℕ, ◌≡◌, ◌<◌, List, length, arith, sym, ap, ◌∙◌}
use Rattle.std.proofs.lemmas.Result.{err_from_is_err_and}
use Rattle.std.proofs.lemmas.Bool.{not-true, not-false}
use Rattle.words.specs.Answers.{refused, full, by_tests}
use Rattle.words.specs.Bits.{at}
use Rattle.words.specs.Turning.{column}
use Rattle.words.proofs.Tests.{contrary}
use Rattle.words.proofs.Answers.{owed_refused, owed_full}
use Rattle.network.specs.declared.Network.{Network}
use Rattle.network.specs.States.{Fits}
use Rattle.network.specs.Rows.{HighBit}
use Rattle.network.proofs.States.{test→state, state→test}
use Rattle.network.proofs.Rows.{no_high_bit}
use Rattle.checker.specs.Seen.{OnlyAnswer}
use Rattle.checker.specs.Passed.{Passed}
use Rattle.checker.proofs.PassedSets.{passed_by, passed_sets_apart}
use Rattle.diagnosis.specs.Diagnosis.{fit_answer}
use Rattle.diagnosis.proofs.ReadingBack.{only_answers_fit, candidate_fails, fits_read_back}
use Rattle.diagnosis.proofs.read_back.Goals as goal

-- whether the only reaches that can have answered so fit decides the answer
module _ (net : Network) (m k : ℕ) (vectors responses found state : List ℕ) (same : state ≡ found)
    (passed : Passed net k vectors) (size : length responses ≡ length vectors) (narrow : HighBit m responses → ⊥)
    (all : length found ≡ m) (only : (i : ℕ) → i < m → OnlyAnswer net k vectors (column responses i) (at found i)) where
  fits_alone : (other : List ℕ) → Fits net m k vectors responses other → state ≡ other
  fits_alone other h = same ∙ only_answers_fit net m k vectors responses size found all only other h

  refuses : ¬ (Fits net m k vectors responses state) → fit_answer net m k vectors responses ≡ refused 14
  unfolding fit_answer by_tests
  refuses h = rw (candidate_fails net m k vectors responses size (no_high_bit m responses narrow) state fits_alone h)

  accepts : Fits net m k vectors responses state → fit_answer net m k vectors responses ≡ full state
  unfolding fit_answer by_tests
  accepts h =
      let r = fits_read_back net m k vectors responses size (passed_sets_apart net k vectors passed) state h in
      rw r.0 (ap full r.1)

pub returns-in_err-refuse_if : goal.returns-in_err-refuse_if
returns-in_err-refuse_if c =
    let a = c.args in
    let t = a.passed.set in
    let p = err_from_is_err_and c.from_residual.result c.from_residual.ensures.1 in
    let refused_if = c.in_err-refuse_if.ensures.refused in
    let owed = owed_refused _ 14 a.out.now
    (refuses _ _ _ _ _ _ _ c.as_slice-state.ensures.value (passed_by _ _ _ t.admitted a.passed.passed) c.requires.1 c.requires.2
    c.candidate-found.ensures.size c.candidate-found.ensures.only
    (λ h. contrary (sym c.not_a_state.ensures ∙ refused_if.1)
    (state→test t.nets.network a.receivers t.class c.as_slice-state.result.now h.of_class))) in
    record { answer = rw (p.1, p.2, refused_if.0) owed.0; list = owed.1 }

pub gives_response-requires : goal.gives_response-requires
gives_response-requires c =
    let t = c.args.passed.set in
    let state = test→state t.nets.network c.args.receivers t.class _ (sym c.not_a_state.ensures ∙ c.in_ok-refuse_if.ensures.passed) in
    (c.requires.1, omega (arith, state.size, c.requires.0), λ i l. (state.reach i l).inside)

pub returns-in_err-refuse_if-2 : goal.returns-in_err-refuse_if-2
returns-in_err-refuse_if-2 c =
    let a = c.args in
    let p = err_from_is_err_and c.from_residual-in_err-refuse_if-2.result c.from_residual-in_err-refuse_if-2.ensures.1 in
    let refused_if = c.in_err-refuse_if-2.ensures.refused in
    let owed = owed_refused _ 14 a.out.now
    (refuses _ _ _ _ _ _ _ c.as_slice-state.ensures.value (passed_by _ _ _ a.passed.set.admitted a.passed.passed)
    c.requires.1 c.requires.2 c.candidate-found.ensures.size c.candidate-found.ensures.only
    (λ h. c.gives_response.ensures.1 (not-true _ refused_if.1) h.gives)) in
    record { answer = rw (p.1, p.2, refused_if.0) owed.0; list = owed.1 }

pub returns : goal.returns
returns c =
    let a = c.args in
    let t = a.passed.set in
    let accepted =
    accepts _ _ _ _ _ _ _ c.as_slice-state.ensures.value (passed_by _ _ _ t.admitted a.passed.passed) c.requires.1 c.requires.2
    c.candidate-found.ensures.size c.candidate-found.ensures.only
    (record {
      of_class = test→state t.nets.network a.receivers t.class _ (sym c.not_a_state.ensures ∙ c.in_ok-refuse_if.ensures.passed);
      gives = c.gives_response.ensures.0 (not-false _ c.in_ok-refuse_if-2.ensures.passed);
    }) in
    let size = sym (ap length c.as_slice-state.ensures.value ∙ c.candidate-found.ensures.size) in
    let owed = owed_full _ a.receivers c.as_slice-state.result.now a.out.now _ accepted size c.copy_words.ensures in
    record { answer = owed.0; list = owed.1 }
