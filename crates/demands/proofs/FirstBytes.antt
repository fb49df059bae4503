-- What follows the first bytes of a file does not change its report: a file with more is refused by its mark or as too
-- long.
use Rattle.std.proofs.Common.{ℕ, ◌<◌, arith, ◌≡◌, sym, ap, ◌∙◌, ⊎_elim, true, not, cond, List, length, take}
use Rattle.std.proofs.Common.{take-take, take_all, length-take-le}
use Rattle.words.specs.Answers.{Answer, refused, by_tests}
use Rattle.words.proofs.Tests.{less_or_not, test_passes}
use Rattle.jobfile.specs.Layout.{mark, most_bytes, same_bytes, bad_layout}
use Rattle.jobfile.proofs.FileRows.{decides_row_2}
use Rattle.reader.specs.Reader.{JobContent, read_answer}
use Rattle.listing.specs.Report.{job_text, report, deciding_bytes}
use Rattle.demands.specs.Reports.{FirstBytesDecide}
use Rattle.demands.specs.Programs.{our_report}

too_long : (file : List ℕ) → most_bytes < length file → bad_layout file ≡ true
too_long file l = test_passes (decides_row_2 file) (λ layout. omega (arith, layout.size))

-- what the reader says of a file that is too long, by its first 4 bytes
abbrev by_mark : List ℕ → Answer JobContent
by_mark first = cond (not (same_bytes first mark)) (refused 1) (refused 2)

too_long_answer : (file : List ℕ) → most_bytes < length file → read_answer file 64 64 ≡ by_mark (take 4 file)
unfolding read_answer by_tests
too_long_answer file l = rw (too_long file l)

pub first_bytes_decide : FirstBytesDecide our_report
unfolding report
first_bytes_decide file = ⊎_elim long (λ l. ap report (take_all deciding_bytes file l)) (less_or_not deciding_bytes (length file))
  where
    long : deciding_bytes < length file → report (take deciding_bytes file) ≡ report file
    long l =
        let size : length (take deciding_bytes file) ≡ deciding_bytes = length-take-le deciding_bytes file (omega arith) in
        ap job_text
        (too_long_answer (take deciding_bytes file) (omega arith)
        ∙ ap by_mark (take-take 4 deciding_bytes file (omega arith))
        ∙ sym (too_long_answer file (omega arith)))
