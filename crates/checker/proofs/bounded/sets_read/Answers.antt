use Rattle.std.proofs.Common.{◌≡◌, ◌^◌, ◌≤◌, length, refl, arith, rules, le_of_suc-le-suc}
use Rattle.words.specs.Counting.{class_size}
use Rattle.words.specs.Searching.{sets_of_class}
use Rattle.words.proofs.Counting.{sets_most, sets_bound}
use Rattle.checker.proofs.bounded.sets_read.Goals as goal
use Rattle.checker.proofs.bounded.sets_read.Goals.{then-search-lt3-via-then-search-lt3}
use Rattle.checker.proofs.bounded.sets_read.Goals.{then-search-lt3-via-else-search-lt3+then-search-lt20}

pub search_with-requires : goal.search_with-requires
unfolding class_size
search_with-requires c =
    let s = c.args.search in
    let two : class_size 48 2 ≡ 1177 = refl in
    let three : class_size 19 3 ≡ 1160 = refl in
    let few : length (sets_of_class s.class (2 ^ s.net.nets)) ≤ 1177 = elim c.then-search-lt3.branch [
      | then-search-lt3-via-then-search-lt3 w ↦
          sets_most s.net.nets s.class 48 2 1177 s.nets_most (le_of_suc-le-suc w.if-search-lt3.true) (omega arith)
      | then-search-lt3-via-else-search-lt3+then-search-lt20 w ↦
          sets_most s.net.nets s.class 19 3 1177 (le_of_suc-le-suc w.if-search-lt20.true) s.class_most (omega arith)
    ] in
    (few, search rules, search rules, search rules, c.requires)

pub search_with-requires-2 : goal.search_with-requires-2
search_with-requires-2 c =
    let s = c.args.search in
    let many : length (sets_of_class s.class (2 ^ s.net.nets)) ≤ 18473 = sets_bound s.net.nets s.class s.nets_most s.class_most in
    (many, search rules, search rules, search rules, c.requires)
