-- There is such a chain for every board, so that what is said of one is not said of nothing; and the cases.
use Rattle.std.proofs.Common.{◌≡◌, refl, ◌∙◌, true, List, ℕ, arith, length}
use Rattle.words.proofs.Making.{has_made}
use Rattle.network.specs.declared.Network.{Network}
use Rattle.network.specs.Reading.{reads, response_word}
use Rattle.scan_chain.specs.Tap.{test_logic_reset, run_test_idle, select_dr_scan, capture_dr, shift_dr, exit1_dr, pause_dr}
use Rattle.scan_chain.specs.Tap.{exit2_dr, update_dr, select_ir_scan, capture_ir, shift_ir, exit1_ir, pause_ir, exit2_ir}
use Rattle.scan_chain.specs.Tap.{update_ir, TapState, next}
use Rattle.scan_chain.specs.Scans.{all_zero, cell_bit}
use Rattle.scan_chain.specs.Cells.{Distinct}
use Rattle.scan_chain.specs.Board.{word_of, Wired, plain_chain}
use Rattle.scan_chain.specs.TapCases.{TapCases, start, looped_inputs, looped, played}
use Rattle.scan_chain.specs.ChainCases.{ChainCases, four_cells, described, read_four, four_played, board_run, board_read}
use Rattle.scan_chain.specs.ChainCases.{most_receivers, read_most, most_nets}
use Rattle.scan_chain.specs.Open.{open_scan_chain}
use Rattle.scan_chain.proofs.CellContents.{cells_size, contents_carry}

pub plain_wired : (net : Network) (state : List ℕ) (L : ℕ) (drivers receivers : List ℕ) → Distinct L receivers
    → length state ≡ length receivers → Wired net state L drivers receivers (plain_chain net state L drivers receivers)
unfolding plain_chain response_word
plain_wired net state L drivers receivers d e = record {
  cells = λ t outputs. cells_size L (cell_bit receivers all_zero (response_word net state (word_of drivers outputs)));
  reach_per_receiver = e;
  read = λ t outputs r l.
      (contents_carry L receivers all_zero d (response_word net state (word_of drivers outputs))).driver r l
      ∙ has_made (λ reach. reads net reach (word_of drivers outputs)) state r (omega arith);
}

five_ones : (state : TapState) → next (next (next (next (next state true) true) true) true) true ≡ test_logic_reset
unfolding next
five_ones test_logic_reset = refl
five_ones run_test_idle = refl
five_ones select_dr_scan = refl
five_ones capture_dr = refl
five_ones shift_dr = refl
five_ones exit1_dr = refl
five_ones pause_dr = refl
five_ones exit2_dr = refl
five_ones update_dr = refl
five_ones select_ir_scan = refl
five_ones capture_ir = refl
five_ones shift_ir = refl
five_ones exit1_ir = refl
five_ones pause_ir = refl
five_ones exit2_ir = refl
five_ones update_ir = refl

pub tap_cases : TapCases
unfolding open_scan_chain start looped_inputs looped played
tap_cases = record {
  data_column = refl;
  instruction_column = refl;
  five_ones = five_ones;
  scanned = refl;
  shown = refl;
  paused = refl;
  shown_around_a_pause = refl;
  captured = refl;
  driven = refl;
  reset = refl;
  other_instruction = refl;
}

pub chain_cases : ChainCases
unfolding open_scan_chain start four_cells described read_four four_played board_run board_read most_receivers read_most most_nets
chain_cases = record {
  bytes = refl;
  two_vectors = refl;
  updated = refl;
  ended = refl;
  two_receivers = refl;
  two_receivers_and = refl;
  next_scan_answers = refl;
  no_cell = refl;
  one_cell = refl;
  two_cells = refl;
  three_cells = refl;
  longest = refl;
  too_long = refl;
  driver_outside = refl;
  receiver_outside = refl;
  twice_driving = refl;
  twice_receiving = refl;
  driving_and_receiving = refl;
  driver_missing = refl;
  driver_too_many = refl;
  receiver_missing = refl;
  receiver_too_many = refl;
  cell_per_net = refl;
  cell_per_receiver = refl;
  one_net = refl;
  nets_49 = refl;
  no_receiver = refl;
  no_vector = refl;
  vectors_65 = refl;
  high_bit = refl;
  bad_chain = refl;
  no_room = refl;
  read_one_net = refl;
  read_no_receiver = refl;
  read_no_vector = refl;
  read_65 = refl;
  read_bad_chain = refl;
  tdo_short = refl;
  tdo_long = refl;
  tdo_two = refl;
  tdo_first_two = refl;
  read_no_room = refl;
  read_all = refl;
  last_cell = refl;
  cell_before = refl;
  last_net = refl;
  nets_48 = refl;
  net_48 = refl;
  vectors_64 = refl;
  last_receiver = refl;
  all_receivers = refl;
  reversed = refl;
  early = refl;
  late = refl;
}
