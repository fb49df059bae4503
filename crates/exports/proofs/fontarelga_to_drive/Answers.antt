use Rattle.std.proofs.Common.{ap, ◌∙◌, length}
use Rattle.session.specs.declared.Session.{Session}
use Rattle.session.specs.Drive.{to_drive}
use Rattle.exports.proofs.fontarelga_to_drive.Goals as goal

pub returns : goal.returns
returns c =
    let a = c.args in
    ap length c.to_drive-driven.ensures
    ∙ ap (λ (s : Session). length (to_drive s a.first.now a.second.now)) c.session_of-held.ensures.record
