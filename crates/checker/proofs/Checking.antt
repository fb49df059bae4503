-- The call *check* answers as its rows and the rule say, and nothing is left open.
use Rattle.std.proofs.Common.{◌≡◌, ap, List, [], ℕ}
use Rattle.words.specs.Answers.{Answer, refused, full, ByTable, NoneHolds, by_tests}
use Rattle.words.proofs.Answers.{tests_by_table, table_determined, table_full, table_not_refused}
use Rattle.network.specs.declared.Network.{Network}
use Rattle.network.specs.Rows.{SetRows, set_tests, set_admission}
use Rattle.network.proofs.Rows.{decides_set, set_refuses, set_admits}
use Rattle.checker.specs.declared.Verdict.{Verdict}
use Rattle.checker.specs.Rule.{Rule, verdict}
use Rattle.checker.specs.Check.{check_answer}
use Rattle.checker.proofs.Verdicts.{verdict_rule, rule_determined}

module _ (net : Network) (k : ℕ) (vectors : List ℕ) where
  -- the answer where the rows of a test set refuse, and where they admit it
  pub check_refused : (number : ℕ) → set_admission net k vectors ≡ refused number → check_answer net k vectors ≡ refused number
  unfolding check_answer
  check_refused number e = set_refuses net k vectors [] (verdict net k vectors) number e

  pub check_full : set_admission net k vectors ≡ full tt → check_answer net k vectors ≡ full (verdict net k vectors)
  unfolding check_answer by_tests
  check_full e = set_admits net k vectors [] (verdict net k vectors) e

  pub check_by_table : ByTable (SetRows net k vectors) (Rule net k vectors) (check_answer net k vectors)
  unfolding check_answer
  check_by_table =
      tests_by_table (Rule net k vectors) (SetRows net k vectors) (set_tests net k vectors) (verdict net k vectors)
      (decides_set net k vectors)
      (λ _. verdict_rule net k vectors)

  -- where no row holds, the rule's verdict
  pub check_admitted : NoneHolds (SetRows net k vectors) → check_answer net k vectors ≡ full (verdict net k vectors)
  check_admitted none = go (check_answer net k vectors) check_by_table
    where
      go : (a : Answer Verdict) → ByTable (SetRows net k vectors) (Rule net k vectors) a
          → a ≡ full (verdict net k vectors)
      go (refused number) t = absurd (table_not_refused (Rule net k vectors) (SetRows net k vectors) number none t)
      go (full v) t =
          ap full (rule_determined net k vectors v (verdict net k vectors)
          (table_full (Rule net k vectors) (SetRows net k vectors) v t) (verdict_rule net k vectors))

  pub check_determined : (a b : Answer Verdict) → ByTable (SetRows net k vectors) (Rule net k vectors) a
      → ByTable (SetRows net k vectors) (Rule net k vectors) b
      → a ≡ b
  check_determined a b = table_determined (Rule net k vectors) (SetRows net k vectors) a b (λ _. rule_determined net k vectors)
