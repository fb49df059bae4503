use Rattle.std.proofs.Common.{refl}
use Rattle.chains.proofs.Adding.{chains_next}
use Rattle.chains.proofs.add.Goals as goal

pub returns : goal.returns
returns c =
    let a = c.args in
    let p = c.requires in
    let s = c.slot_of-slot.ensures in
    record {
      found = c.find-found.ensures;
      stored = refl;
      chained = chains_next a.words.now a.links.now a.heads.now a.count a.word _ p.0 s.0 s.1 p.1 p.2;
    }
