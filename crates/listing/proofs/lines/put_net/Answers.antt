use Rattle.std.proofs.Common.{length, length-append, append_assoc, ap, ◌∙◌, [], ◌∷◌, ◌++◌, List, ℕ, arith}
use Rattle.decimal.specs.Decimal.{decimal, numbers_end}
use Rattle.listing.specs.Report.{net_line}
use Rattle.listing.proofs.lines.put_net.Goals as goal

pub append_decimal-requires : goal.append_decimal-requires
unfolding net_line
append_decimal-requires c =
    let found = c.args.found in
    let both = length-append (decimal c.args.net) (numbers_end (found.kind ∷ found.reach ∷ found.partners ∷ [])) in
    omega (arith, c.requires)

pub append_numbers-requires : goal.append_numbers-requires
unfolding net_line
append_numbers-requires c =
    let found = c.args.found in
    let both = length-append (decimal c.args.net) (numbers_end (found.kind ∷ found.reach ∷ found.partners ∷ [])) in
    let size = ap length c.append_decimal.ensures ∙ length-append c.args.text.now.items (decimal c.args.net) in
    omega (arith, c.requires)

pub returns : goal.returns
unfolding net_line
returns c =
    let found = c.args.found in
    let rest : List ℕ = numbers_end (found.kind ∷ found.reach ∷ found.partners ∷ []) in
    c.append_numbers.ensures ∙ ap (λ (t : List ℕ). t ++ rest) c.append_decimal.ensures
    ∙ append_assoc c.args.text.now.items (decimal c.args.net) rest
