use Rattle.std.proofs.Common.{add-one}
use Rattle.jobfile.specs.Layout.{bad_entry}
use Rattle.reader.proofs.layout.bad_entry.Goals as goal

pub returns : goal.returns
unfolding bad_entry
returns c =
    let e = c.read-entry.ensures in
    rw (c.net_by_net.ensures, e.kind, e.offset.0, e.length.0, c.body_start-start.ensures, c.entry_count.ensures.0, add-one)
