use Rattle.std.proofs.Common.{rules, ◌≡◌, ℕ, ◌<◌, ◌↔◌, true, length}
use Rattle.words.specs.Bits.{at}
use Rattle.session.proofs.Records.{zeros_told}
use Rattle.session.proofs.record.is_zeros.Goals as goal

pub returns : goal.returns
returns c =
    let words = c.args.words.now in
    let told : c.all.result ≡ true ↔ ((i : ℕ) → i < length words → at words i ≡ 0) = search rules in
    zeros_told words c.all.result told
