-- The plain search and the call *check* agree.
use Rattle.std.proofs.Common.{◌≡◌, sym, ap, ◌∙◌}
use Rattle.words.specs.Answers.{full}
use Rattle.network.proofs.Rows.{admitted_set}
use Rattle.checker.specs.declared.Verdict.TheVariants.{Pass}
use Rattle.checker.specs.Rule.{verdict}
use Rattle.checker.proofs.Agreement.{agree_below, agree_pass}
use Rattle.checker.proofs.Checking.{check_admitted}
use Rattle.demands.specs.PlainSearch.{SearchAgrees}
use Rattle.demands.specs.Programs.{our_check, our_plain_search}

pub search_agrees : SearchAgrees our_check our_plain_search
search_agrees = record {
  below_n = λ net k vectors small none differ.
      check_admitted net k vectors none ∙ ap full (agree_below net k vectors differ);
  at_n = λ net vectors small none.
      let s = admitted_set net net.nets vectors none in
      let agree = agree_pass net net.nets vectors s.two s.narrow in
      let called = check_admitted net net.nets vectors none in (
        λ e. agree.0 (let same : full (verdict net net.nets vectors) ≡ full Pass = sym called ∙ e in cc),
        λ e. called ∙ ap full (agree.1 e),
      );
}
