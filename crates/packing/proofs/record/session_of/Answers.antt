use Rattle.std.proofs.Common.{List, ℕ}
use Rattle.words.specs.Bits.{at}
use Rattle.session.specs.declared.Session.{Session}
use Rattle.network.specs.Reading.{network_with}
use Rattle.packing.specs.Packed.{spent_place, session_of}
use Rattle.packing.proofs.record.session_of.Goals as goal

pub returns-clause-record : goal.returns-clause-record
unfolding session_of
returns-clause-record c =
    let words : List ℕ = c.args.words.now in
    let of : List ℕ → List ℕ → List ℕ → Session = λ owners first reaches. record {
      step = at words 0;
      network = network_with (at words 1) (at words 2) (at words 3);
      receivers = at words 4;
      owners = owners;
      first = first;
      reaches = reaches;
      spent = at words spent_place;
    } in
    λ j. of (c.copy_from_slice.ensures.after j) (c.copy_from_slice-2.ensures.after j) (c.copy_from_slice-3.ensures.after j)
