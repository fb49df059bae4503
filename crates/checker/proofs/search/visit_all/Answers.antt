use Rattle.std.proofs.Common.{◌≡◌, ◌+◌, ◌^◌, ◌≤◌, ◌<◌, sym, ap, ◌∙◌, subst, List, [], ◌∷◌, ◌++◌, length, ℕ, zero-le}
use Rattle.std.proofs.Common.{rules, arith, zero-add, pow_pos, refl, ◌-◌}
use Rattle.std.specs.Int.Count.{ones}
use Rattle.words.specs.Searching.{sets_of_class}
use Rattle.words.proofs.Counting.{sets_fewer}
use Rattle.checker.specs.Seen.{Seen}
use Rattle.checker.proofs.Visits.{seen_empty}
use Rattle.checker.proofs.Branches.{all_branches}
use Rattle.checker.proofs.search.visit_all.Goals as goal

-- there is room for the empty set
some_set : (class nets : ℕ) → 0 < length (sets_of_class class (2 ^ nets))
unfolding ones
some_set class nets = omega (arith, sets_fewer class 0 (2 ^ nets) (pow_pos nets) zero-le)

-- it has no driver yet
none_yet : ones 0 ≡ 0
unfolding ones
none_yet = refl

pub add-requires : goal.add-requires
add-requires g c =
    let s = c.args.search in
    let none : length c.args.table.now ≡ 0 = ap length c.requires.0 in
    let room : length c.args.table.now < g.row.WORDS = omega (arith, none, some_set s.class s.net.nets, c.requires.1) in
    (search rules, (room, omega (arith, none)))

pub visit_below-requires : goal.visit_below-requires
visit_below-requires g c =
    let s = c.args.search in
    let all : length (sets_of_class s.class (0 + 2 ^ s.net.nets)) ≡ length (sets_of_class s.class (2 ^ s.net.nets)) =
    ap (λ (x : ℕ). length (sets_of_class s.class x)) (zero-add (2 ^ s.net.nets)) in
    let whole : s.class - ones 0 ≡ s.class = omega (arith, none_yet) in
    let room : length (sets_of_class s.class (0 + 2 ^ s.net.nets)) ≤ g.row.WORDS = omega (arith, all, c.requires.1) in
    let first = c.add.ensures.added ∙ ap (λ (table : List ℕ). table ++ c.sequential_response-floating.result.0 ∷ []) c.requires.0 in (
      search rules,
      (
        rw whole (all_branches s.net s.class s.vectors.now _ s.class_some c.no_drivers-none.ensures),
        subst (λ (table : List ℕ). Seen s.net s.class s.vectors.now table 1) (sym first)
            (seen_empty s.net s.class s.vectors.now _ c.sequential_response-floating.ensures),
        room,
      ),
    )
