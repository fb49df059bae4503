use Rattle.std.proofs.Common.{◌≡◌, ℕ, List, [], ◌∷◌, true, false, sym, ◌∙◌}
use Rattle.std.proofs.lemmas.Result.{err_from_is_err_and}
use Rattle.words.specs.Answers.{refused, full, by_tests}
use Rattle.words.proofs.Answers.{shared_refuse, shared_pass}
use Rattle.reader.specs.Reader.{file_body_tests}
use Rattle.reader.proofs.ReaderAnswers.{nine, ten, file_admission}
use Rattle.reader.proofs.layout.JobFile.admit_job.Goals as goal

-- a file whose vectors' body is admitted
module _ (file : List ℕ) (admitted : full (tt {0}) ≡ by_tests (file_body_tests file) (tt {0})) where
  by_own : file_admission file ≡ by_tests {A = Unit {0}} ((9, nine file) ∷ (10, ten file) ∷ []) tt
  by_own = shared_pass tt tt (file_body_tests file) ((9, nine file) ∷ (10, ten file) ∷ []) tt (sym admitted)

  by_row_9 : nine file ≡ true → refused 9 ≡ file_admission file
  unfolding by_tests
  by_row_9 e = sym (by_own ∙ rw e)

  by_row_10 : nine file ≡ false → ten file ≡ true → refused 10 ≡ file_admission file
  unfolding by_tests
  by_row_10 e f = sym (by_own ∙ rw (e, f))

  by_none : nine file ≡ false → ten file ≡ false → full tt ≡ file_admission file
  unfolding by_tests
  by_none e f = sym (by_own ∙ rw (e, f))

pub returns-in_err-nets : goal.returns-in_err-nets
returns-in_err-nets c =
    let file = c.args.self.laid_out.file.now in
    let p = err_from_is_err_and c.from_residual.result c.from_residual.ensures.1 in
    rw (p.1, p.2) (sym (shared_refuse tt tt (file_body_tests file) ((9, nine file) ∷ (10, ten file) ∷ []) _ (sym c.in_err-nets.ensures.rows)))

pub returns-in_err-refuse_if : goal.returns-in_err-refuse_if
returns-in_err-refuse_if c =
    let p = err_from_is_err_and c.from_residual-in_err-refuse_if.result c.from_residual-in_err-refuse_if.ensures.1 in
    let refused = c.in_err-refuse_if.ensures.refused in
    rw (p.1, p.2, refused.0)
    (by_row_9 c.args.self.laid_out.file.now c.in_ok-nets.ensures.rows (sym c.bad_responses.ensures ∙ refused.1))

pub returns-in_err-refuse_if-2 : goal.returns-in_err-refuse_if-2
returns-in_err-refuse_if-2 c =
    let p = err_from_is_err_and c.from_residual-in_err-refuse_if-2.result c.from_residual-in_err-refuse_if-2.ensures.1 in
    let refused = c.in_err-refuse_if-2.ensures.refused in
    let row_10 = rw c.in_ok-nets.ensures.admitted at c.wide_response.ensures in
    rw (p.1, p.2, refused.0)
    (by_row_10 c.args.self.laid_out.file.now c.in_ok-nets.ensures.rows
    (sym c.bad_responses.ensures ∙ c.in_ok-refuse_if.ensures.passed) (sym row_10 ∙ refused.1))

pub returns : goal.returns
returns c =
    let row_10 = rw c.in_ok-nets.ensures.admitted at c.wide_response.ensures in
    by_none c.args.self.laid_out.file.now c.in_ok-nets.ensures.rows
    (sym c.bad_responses.ensures ∙ c.in_ok-refuse_if.ensures.passed) (sym row_10 ∙ c.in_ok-refuse_if-2.ensures.passed)
