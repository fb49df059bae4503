use Rattle.std.proofs.Common.{◌≡◌, refl, true, [], ◌∷◌, arith}
use Rattle.findings.specs.Findings.{is_open, finding}
use Rattle.findings.specs.OneWay.{is_among, is_call_of, one_way}
use Rattle.findings.proofs.FindingsLaws.{net_below}
use Rattle.findings.proofs.finding_of.Code as code
use Rattle.findings.proofs.finding_of.Goals as goal

-- of the function as it is compiled
pub one_way_through : one_way ("findings::partners_of" ∷ "findings::kind_of" ∷ []) (code.function).body ≡ true
unfolding one_way is_among is_call_of
one_way_through = refl

pub bounds-state-r : goal.bounds-state-r
bounds-state-r c = let p = c.requires in omega (arith, p.0, p.1.size)

pub kind_of-requires : goal.kind_of-requires
kind_of-requires c =
    let (few, inside) = net_below _ _ c.args.board.admitted c.args.r c.requires.0 in
    omega (arith, few, inside)

pub returns : goal.returns
unfolding finding is_open
returns c = rw (c.kind_of.ensures, c.partners_of-partners.ensures)
