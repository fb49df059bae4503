use Rattle.std.proofs.Common.{sym, ◌^◌, le_refl}
use Rattle.checker.proofs.Visits.{seen_pass}
use Rattle.checker.proofs.bounded.search_with.Goals as goal

pub returns-in-Ok : goal.returns-in-Ok
returns-in-Ok g c =
    let s = c.args.search in record {
      rule = sym (seen_pass s.net s.class s.vectors.now _ (2 ^ s.net.nets) c.in-Ok.ensures.seen (le_refl _));
      sets = λ e. c.look_up.ensures;
    }
