-- Names every definition here and below that computes.
use Rattle.std.specs.Prelude.{ℕ}
use Rattle.words.specs.Open.{open_words}
use Rattle.network.specs.Open.{open_network}
use Rattle.scan_chain.specs.Tap.{next, action}
use Rattle.scan_chain.specs.BoundaryRegister.{doing, clocked, updated, latched, keeps_extest, tdo, rising, falling, run}
use Rattle.scan_chain.specs.Scans.{clock, is_empty, shift_clocks, scan, scans, bit_found, cell_bit, cells_by, last_of}
use Rattle.scan_chain.specs.Scans.{scanned, clocks}
use Rattle.scan_chain.specs.Responses.{shifted_out, responses}
use Rattle.scan_chain.specs.Rows.{used_before, has_wrong_cell, bad_chain, above_one, not_bits}
use Rattle.scan_chain.specs.Calls.{write_answer, read_answer}
use Rattle.scan_chain.specs.Board.{word_of, plain_chain}
use Rattle.scan_chain.specs.Playing.{scan_states, states_of_scans}

unfoldable pub open_scan_chain : ℕ
unfolding open_words open_network next action doing clocked updated latched keeps_extest tdo rising falling run clock
    is_empty shift_clocks scan scans bit_found cell_bit cells_by last_of scanned clocks shifted_out responses used_before
    has_wrong_cell bad_chain above_one not_bits write_answer read_answer word_of plain_chain scan_states states_of_scans
open_scan_chain = 0
