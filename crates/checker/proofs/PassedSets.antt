-- Passed test sets: the rule passes a set exactly where the test does; such a set tells the sets of the class apart, so
-- that a search of them passes too; and it stays passed with more vectors.
use Rattle.std.proofs.Common.{◌≡◌, refl, ap, ◌∙◌, subst, true, not, true≢false, List, ℕ, ◌^◌, ◌≤◌, ◌<◌, length}
use mathlib.Core.Bool.{false≢true}
use borrow.Author.Tests.{not-false}
use Rattle.words.specs.Answers.{full, ByTable, Decides, NoneHolds}
use Rattle.words.specs.Bits.{at}
use Rattle.words.proofs.Tests.{decides_not, test_fails}
use Rattle.words.proofs.Answers.{table_full, table_none_holds}
use Rattle.network.specs.declared.Network.{Network}
use Rattle.network.specs.Reading.{reads}
use Rattle.network.specs.Rows.{SetRows}
use Rattle.network.proofs.Rows.{AdmittedSet, admitted_set}
use Rattle.checker.specs.declared.Verdict.{Verdict}
use Rattle.checker.specs.declared.Verdict.TheVariants.{Pass, Pair}
use Rattle.checker.specs.Rule.{Rule, bounded_verdict, verdict}
use Rattle.checker.specs.Check.{check_answer}
use Rattle.checker.specs.Passed.{Passed, Row13, is_pass, passes, Within}
use Rattle.checker.proofs.Agreement.{pass_together, search_shows}
use Rattle.checker.proofs.Checking.{check_by_table, check_admitted}
use Rattle.checker.proofs.Separation.{SetsApart, rule_shows}
use Rattle.checker.proofs.Verdicts.{verdict_rule, rule_determined, pair_not_pass}

module _ (net : Network) (k : ℕ) (vectors : List ℕ) where
  pub decides_pass : Decides (passes net k vectors) (Rule net k vectors Pass)
  decides_pass = go (verdict net k vectors) (verdict_rule net k vectors)
    where
      go : (v : Verdict) → Rule net k vectors v → Decides (is_pass v) (Rule net k vectors Pass)
      go Pass r = (λ _. r, λ e _. true≢false e)
      go (Pair a b) r =
          (λ e. absurd (false≢true e), λ _ p. pair_not_pass (rule_determined net k vectors (Pair a b) Pass r p))

  -- what a value of `PassedSet` says of its set
  pub passed_by : NoneHolds (SetRows net k vectors) → passes net k vectors ≡ true → Passed net k vectors
  passed_by none e = (none, decides_pass.0 e)

  pub decides_row_13 : Decides (not (passes net k vectors)) (Row13 net k vectors)
  decides_row_13 = decides_not decides_pass

  -- where row 13 does not hold, the rule passes the set
  pub rule_passes : ¬ (Row13 net k vectors) → Rule net k vectors Pass
  rule_passes h = decides_pass.0 (not-false _ (test_fails decides_row_13 h))

  -- and the sets of the class are told apart
  pub passed_apart : AdmittedSet net k vectors → ¬ (Row13 net k vectors) → SetsApart net k vectors
  passed_apart s h = rule_shows net k vectors Pass s.two s.narrow (rule_passes h)

  pub passed_sets_apart : Passed net k vectors → SetsApart net k vectors
  passed_sets_apart (none, rule) = passed_apart (admitted_set net k vectors none) (λ fails. fails rule)

  -- the search of them passes
  pub passed_search : Passed net k vectors → bounded_verdict net k vectors ≡ Pass
  passed_search p =
      pass_together net k vectors Pass (bounded_verdict net k vectors) (passed_sets_apart p)
      (search_shows net k vectors) refl

  -- the call *check* passes these sets and no others
  pub passed_check : Passed net k vectors → check_answer net k vectors ≡ full Pass
  passed_check (none, rule) =
      check_admitted net k vectors none
      ∙ ap full (rule_determined net k vectors (verdict net k vectors) Pass (verdict_rule net k vectors) rule)

  pub check_passed : check_answer net k vectors ≡ full Pass → Passed net k vectors
  check_passed e =
      let by_table = subst (ByTable (SetRows net k vectors) (Rule net k vectors)) e (check_by_table net k vectors) in (
        table_none_holds (Rule net k vectors) (SetRows net k vectors) Pass by_table,
        table_full (Rule net k vectors) (SetRows net k vectors) Pass by_table,
      )

-- ---- more vectors

abbrev pub Narrow : Network → List ℕ → Type 0
Narrow net vectors = (t : ℕ) → t < length vectors → at vectors t < 2 ^ net.nets

pub narrow_within : (net : Network) (vectors more : List ℕ) → Within vectors more → Narrow net more → Narrow net vectors
narrow_within net vectors more within narrow t l =
    let w = within t l in subst (λ (x : ℕ). x < 2 ^ net.nets) w.2 (narrow w.0 w.1)

-- they tell no fewer sets apart
apart_more : (net : Network) (k : ℕ) (vectors more : List ℕ) → Within vectors more → SetsApart net k vectors
    → SetsApart net k more
apart_more net k vectors more within apart a b p q alike =
    apart a b p q (λ t l. let w = within t l in
    subst (λ (x : ℕ). reads net a x ≡ reads net b x) w.2 (alike w.0 w.1))

-- a set that tells them apart is one that the rule passes
apart_rule : (net : Network) (k : ℕ) (vectors : List ℕ) → 2 ≤ net.nets → Narrow net vectors
    → SetsApart net k vectors → Rule net k vectors Pass
apart_rule net k vectors two narrow apart =
    let shows = rule_shows net k vectors (verdict net k vectors) two narrow (verdict_rule net k vectors) in
    subst (Rule net k vectors) (pass_together net k vectors Pass (verdict net k vectors) apart shows refl)
    (verdict_rule net k vectors)

-- separation is monotone: with more vectors a set stays passed
pub rule_more : (net : Network) (k : ℕ) (vectors more : List ℕ) → 2 ≤ net.nets → Narrow net more → Within vectors more
    → Rule net k vectors Pass → Rule net k more Pass
rule_more net k vectors more two narrow within rule =
    apart_rule net k more two narrow
    (apart_more net k vectors more within
    (rule_shows net k vectors Pass two (narrow_within net vectors more within narrow) rule))
