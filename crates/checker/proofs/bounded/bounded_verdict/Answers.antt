use Rattle.std.proofs.Common.{◌≡◌, ◌^◌, ◌≤◌, length, refl, arith, rules, le_of_suc-le-suc}
use Rattle.words.specs.Counting.{class_size}
use Rattle.words.specs.Searching.{sets_of_class}
use Rattle.words.proofs.Counting.{sets_most}
use Rattle.checker.proofs.bounded.bounded_verdict.Goals as goal
use Rattle.checker.proofs.bounded.bounded_verdict.Goals.{then-search-lt2-via-then-search-lt2}
use Rattle.checker.proofs.bounded.bounded_verdict.Goals.{then-search-lt2-via-else-search-lt2+then-search-lt8}

pub search_with-requires : goal.search_with-requires
unfolding class_size
search_with-requires c =
    let s = c.args.search in
    let one : class_size 48 1 ≡ 49 = refl in
    let three : class_size 7 3 ≡ 64 = refl in
    let fewest : length (sets_of_class s.class (2 ^ s.net.nets)) ≤ 64 = elim c.then-search-lt2.branch [
      | then-search-lt2-via-then-search-lt2 w ↦
          sets_most s.net.nets s.class 48 1 64 s.nets_most (le_of_suc-le-suc w.if-search-lt2.true) (omega arith)
      | then-search-lt2-via-else-search-lt2+then-search-lt8 w ↦
          sets_most s.net.nets s.class 7 3 64 (le_of_suc-le-suc w.if-search-lt8.true) s.class_most (omega arith)
    ] in
    (fewest, search rules, search rules, search rules, search rules)
