use Rattle.std.proofs.Common.{sym, ◌∙◌}
use Rattle.checker.proofs.Lookups.{found_only, missing_none}
use Rattle.checker.proofs.bounded.set_of.Goals as goal

pub set_at-requires : goal.set_at-requires
set_at-requires g c =
    let s = c.args.search in
    let found = found_only s.net s.class s.vectors.now c.args.table.now c.requires c.args.answered c.in-Some.at _ s.nets_most
    c.find.ensures c.in-Some.is in
    (s.class_most, found.0)

pub returns-in-Some : goal.returns-in-Some
returns-in-Some g c set d e =
    let s = c.args.search in
    let found = found_only s.net s.class s.vectors.now c.args.table.now c.requires c.args.answered c.in-Some.at _ s.nets_most
    c.find.ensures c.in-Some.is in
    found.1 set d e ∙ sym c.set_at.ensures

pub returns-in-None : goal.returns-in-None
returns-in-None g c =
    let s = c.args.search in
    missing_none s.net s.class s.vectors.now c.args.table.now c.requires c.args.answered 0 _ c.find.ensures c.in-None.is
