use Rattle.std.proofs.Common.{◌≡◌, sym, ap, ap₂, ◌∙◌, Bool, not, ◌&&◌, List, ℕ, arith}
use Rattle.words.specs.Searching.{among}
use Rattle.network.specs.declared.Network.{Network}
use Rattle.network.specs.Reading.{all_but, extra_vector, needs_extra}
use Rattle.checker.specs.declared.Verdict.TheVariants.{Pair}
use Rattle.checker.specs.Rule.{extra_missing}
use Rattle.checker.proofs.Walking.{no_extra, at_most_all, none_missing, lowest_inside, lowest_missing}
use Rattle.checker.proofs.unbounded.full_verdict.Goals as goal

-- what the code tests: the extra vector is wanted and not there
missing : (net : Network) (vectors : List ℕ) (needed there : Bool) → needed ≡ needs_extra net
    → there ≡ among (extra_vector net) vectors → extra_missing net vectors ≡ needed && not there
unfolding extra_missing
missing net vectors needed there e f = sym (ap₂ (λ (a b : Bool). a && not b) e f)

pub returns-then-needed-there : goal.returns-then-needed-there
returns-then-needed-there c =
    let a = c.args in
    ap (Pair 0) c.all_drivers-all.ensures
    ∙ sym (no_extra a.nets.network a.vectors.now
    (missing a.nets.network a.vectors.now _ _ c.needs_extra-needed.ensures c.walked_by-there.ensures.0 ∙ c.if-needed-there.true))

pub overflow_sub-missing : goal.overflow_sub-missing
overflow_sub-missing c =
    let w = c.walked_by-there in
    at_most_all c.args.nets.network c.args.vectors.now _ w.result.drivers c.all_drivers-all.ensures w.ensures.1 w.ensures.2

pub returns-then-missing-eq0 : goal.returns-then-missing-eq0
returns-then-missing-eq0 c =
    let a = c.args in
    let w = c.walked_by-there in
    sym (none_missing a.nets.network a.vectors.now _ w.result.drivers c.all_drivers-all.ensures w.ensures.1 w.ensures.2
    c.if-missing-eq0.true
    (missing a.nets.network a.vectors.now _ _ c.needs_extra-needed.ensures w.ensures.0 ∙ c.if-needed-there.false))

pub all_but-requires : goal.all_but-requires
all_but-requires c =
    let a = c.args in
    let w = c.walked_by-there in
    rw c.lowest_net-i.ensures
    (lowest_inside a.nets.network a.vectors.now _ w.result.drivers c.all_drivers-all.ensures w.ensures.1 w.ensures.2
    (omega (arith, c.if-missing-eq0.false)))

pub returns : goal.returns
returns c =
    let a = c.args in
    let w = c.walked_by-there in
    ap₂ Pair (c.all_but.ensures ∙ ap (all_but a.nets.network) c.lowest_net-i.ensures) c.all_drivers-all.ensures
    ∙ sym (lowest_missing a.nets.network a.vectors.now _ w.result.drivers c.all_drivers-all.ensures w.ensures.1 w.ensures.2
    (omega (arith, c.if-missing-eq0.false)) a.nets.few
    (missing a.nets.network a.vectors.now _ _ c.needs_extra-needed.ensures w.ensures.0 ∙ c.if-needed-there.false))
