-- Names every definition here and below that computes.
use Rattle.std.specs.Prelude.{ℕ}
use Rattle.diagnosis.specs.Open.{open_diagnosis}
use Rattle.findings.specs.Open.{open_findings}
use Rattle.reader.specs.Open.{open_reader}
use Rattle.decimal.specs.Decimal.{digits, decimal, numbers_end}
use Rattle.listing.specs.Report.{refused_line, verdict_line, net_line, net_lines, content_text, report}

unfoldable pub open_listing : ℕ
unfolding open_diagnosis open_findings open_reader digits decimal numbers_end refused_line verdict_line net_line
    net_lines content_text report
open_listing = 0
