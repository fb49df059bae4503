-- The call *check*: rows 5, 6, 17, 20, 7, 8, then the verdict.
use Rattle.std.specs.Prelude.{ℕ, List}
use Rattle.words.specs.Answers.{Answer, by_tests}
use Rattle.network.specs.declared.Network.{Network}
use Rattle.network.specs.Rows.{set_tests}
use Rattle.checker.specs.declared.Verdict.{Verdict}
use Rattle.checker.specs.Rule.{verdict}

-- the call's answer, computed
unfoldable pub check_answer : Network → ℕ → List ℕ → Answer Verdict
check_answer net k vectors = by_tests (set_tests net k vectors) (verdict net k vectors)
