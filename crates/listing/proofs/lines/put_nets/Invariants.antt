use Rattle.std.proofs.Common.{◌≡◌, ◌-◌, ◌++◌}
use Rattle.listing.specs.Report.{net_lines}
use Rattle.listing.proofs.lines.put_nets.Given as goal

-- the lines of the nets that are left make the text whole
abbrev pub invariant-loop-i : goal.invariant-loop-i
invariant-loop-i l =
    let net = l.board.nets.network in
    l.text.items ++ net_lines net l.state l.i (net.nets - l.i) ≡ l.initial.text.items ++ net_lines net l.state 0 net.nets
