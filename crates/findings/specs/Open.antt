-- Names every definition here and below that computes.
use Rattle.std.specs.Prelude.{ℕ}
use Rattle.network.specs.Open.{open_network}
use Rattle.findings.specs.Findings.{is_open, joins, is_partner, partners, kind, finding}
use Rattle.findings.specs.FindingsTable.{findings, findings_answer, table_meaning}
use Rattle.findings.specs.OneWay.{is_among, is_call_of, one_way, is_number, numbers_alone}

unfoldable pub open_findings : ℕ
unfolding open_network is_open joins is_partner partners kind finding findings findings_answer table_meaning
    is_among is_call_of one_way is_number numbers_alone
open_findings = 0
