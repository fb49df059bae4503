use Rattle.std.proofs.Common.{rules, ◌<◌, ◌^◌, sym, ap₂, ◌∙◌, Bool, ◌&&◌, ◌||◌, eqb}
use Rattle.network.proofs.Reading.{active_reads}
use Rattle.network.proofs.receivers.reads_active.Goals as goal

pub returns : goal.returns
returns c vector shown =
    let a = c.args in
    let inside : a.reach < 2 ^ 64 = search rules in
    ap₂ (λ (extra some : Bool). (eqb a.reach 0 && extra) || some) c.requires.1 c.meets-some.ensures
    ∙ sym (active_reads a.net a.reach vector a.bits shown inside)
