-- A program whose verdict is document 01's rule keeps demand 3's first half; ours is one, and there is no other.
use Rattle.std.proofs.Common.{◌≡◌, refl, sym, List, ℕ, ◌≤◌, arith, length}
use Rattle.words.specs.Answers.{NoneHolds}
use Rattle.words.proofs.Answers.{table_implies}
use Rattle.network.specs.declared.Network.{Network}
use Rattle.network.specs.States.{AtMostOneFits}
use Rattle.network.specs.Rows.{SetRows, Row21}
use Rattle.network.proofs.Rows.{admitted_set, receivers_admitted}
use Rattle.checker.specs.declared.Verdict.{Verdict}
use Rattle.checker.specs.declared.Verdict.TheVariants.{Pass, Pair}
use Rattle.checker.specs.Rule.{Rule, shown_state}
use Rattle.checker.specs.Check.{check_answer}
use Rattle.checker.proofs.Separation.{SetsAlike, Shows, rule_shows, apart_one_fits, not_one_fits, shown_is_state, shown_differ, shown_alike}
use Rattle.checker.proofs.Checking.{check_by_table, check_determined}
use Rattle.checker.proofs.Verdicts.{pair_not_pass}
use Rattle.demands.specs.Demand3.{CheckProgram, ShownPair, Judged, Checks}
use Rattle.demands.specs.Determined.{ChecksByRule}

-- a pair's two states both fit the response that they give
pub pair_not_one : (net : Network) (m k : ℕ) (vectors : List ℕ) (a b : ℕ) → ShownPair net m k vectors a b
    → ¬ (AtMostOneFits net m k vectors)
pair_not_one net m k vectors a b h =
    not_one_fits net m k vectors (shown_state m a) (shown_state m b) h.first_state h.second_state h.different
    h.equal_responses

module _ (net : Network) (k : ℕ) (vectors : List ℕ) (none : NoneHolds (SetRows net k vectors)) where
  -- there is a receiver, as there is a net
  some_receiver : (owners : List ℕ) → ¬ (Row21 net owners) → 1 ≤ length owners
  some_receiver owners good =
      omega (arith, (admitted_set net k vectors none).two, (receivers_admitted net owners good).least)

  shown_pair : (owners : List ℕ) → ¬ (Row21 net owners) → (a b : ℕ) → SetsAlike net k vectors a b
      → ShownPair net (length owners) k vectors a b
  shown_pair owners good a b h =
      let some = some_receiver owners good in record {
        first_state = shown_is_state net (length owners) k some a h.first_set;
        second_state = shown_is_state net (length owners) k some b h.second_set;
        different = shown_differ net (length owners) k some a b h.differ;
        equal_responses = shown_alike net (length owners) k some vectors a b h.read_alike;
      }

  judged : (v : Verdict) → Shows net k vectors v → Judged net k vectors v
  judged Pass h = record {
    passes = λ owners good. (λ _. apart_one_fits net (length owners) k vectors h, λ _. refl);
    shows = λ owners good a b e. pair_not_pass (sym e);
  }
  judged (Pair a b) h = record {
    passes = λ owners good. (
      λ e. pair_not_pass e,
      λ one. absurd (pair_not_one net (length owners) k vectors a b (shown_pair owners good a b h) one),
    );
    shows = λ owners good c d e. let p : a ≡ c = cc in let q : b ≡ d = cc in
        let both = shown_pair owners good a b h in rw (p, q) at both;
  }

rule_checks : (p : CheckProgram) → ChecksByRule p → Checks p
rule_checks p h net k vectors =
    table_implies (Rule net k vectors) (Judged net k vectors) (SetRows net k vectors) (p net k vectors)
    (λ none v r. let s = admitted_set net k vectors none in
    judged net k vectors none v (rule_shows net k vectors v s.two s.narrow r)) (h net k vectors)

pub checks_by_rule : ChecksByRule check_answer
checks_by_rule net k vectors = check_by_table net k vectors

pub checks : Checks check_answer
checks = rule_checks check_answer checks_by_rule

pub check_determined_program : (p q : CheckProgram) → ChecksByRule p → ChecksByRule q
    → (net : Network) (k : ℕ) (vectors : List ℕ) → p net k vectors ≡ q net k vectors
check_determined_program p q f g net k vectors =
    check_determined net k vectors (p net k vectors) (q net k vectors) (f net k vectors) (g net k vectors)
