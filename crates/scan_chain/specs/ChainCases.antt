-- Cases of *write clocks* and *read clocks*, computed: the bytes, a board in the loop, each way to be refused, the order of
-- the rows, the far ends, and what wrong bytes would do.
use Rattle.std.specs.Prelude.{ℕ, ◌^◌, ◌-◌, ◌+◌, ◌≡◌, true, false, List, [], ◌∷◌, ◌++◌, replicate}
use Rattle.words.specs.Answers.{Answer, refused, full, count_of}
use Rattle.words.specs.Bits.{at}
use Rattle.words.specs.Turning.{tabulate}
use Rattle.network.specs.Reading.{wired_or}
use Rattle.scan_chain.specs.Tap.{run_test_idle}
use Rattle.scan_chain.specs.BoundaryRegister.{Run, run}
use Rattle.scan_chain.specs.Scans.{all_zero, clocks}
use Rattle.scan_chain.specs.Calls.{write_answer, read_answer}
use Rattle.scan_chain.specs.Board.{plain_chain}
use Rattle.scan_chain.specs.TapCases.{start}

-- two nets on four cells: drivers at 0 and 1, receivers at 2 and 3
unfoldable pub four_cells : (vectors : List ℕ) → (room : ℕ) → Answer (List ℕ)
four_cells vectors room = write_answer 2 (0 ∷ 1 ∷ []) vectors 4 (0 ∷ 1 ∷ []) (2 ∷ 3 ∷ []) room

-- the same for vector 1, on a chain described in some other way
unfoldable pub described : (L : ℕ) → (drivers receivers : List ℕ) → Answer (List ℕ)
described L drivers receivers = write_answer 2 (0 ∷ 1 ∷ []) (1 ∷ []) L drivers receivers 1000

unfoldable pub read_four : (v : ℕ) → (tdo : List ℕ) → (room : ℕ) → Answer (List ℕ)
read_four v tdo room = read_answer 2 (0 ∷ 1 ∷ []) v 4 (0 ∷ 1 ∷ []) (2 ∷ 3 ∷ []) tdo room

-- what bytes do to that chain with a sound board behind it
unfoldable pub four_played : List ℕ → Run
four_played bytes = run (plain_chain (wired_or 2 1) (1 ∷ 2 ∷ []) 4 (0 ∷ 1 ∷ []) (2 ∷ 3 ∷ [])) 0 start bytes

-- two nets, the second with two receivers; five cells in no order: drivers at 4 and 1, receivers at 0, 3 and 2
unfoldable pub board_run : (level gate : ℕ) → Run
board_run level gate =
    run (plain_chain (record { nets = 2; level = level; gate = gate }) (3 ∷ 3 ∷ 0 ∷ []) 5 (4 ∷ 1 ∷ []) (0 ∷ 3 ∷ 2 ∷ [])) 0 start
    (clocks 5 (4 ∷ 1 ∷ []) all_zero (0 ∷ 1 ∷ []))

unfoldable pub board_read : (level gate : ℕ) → Answer (List ℕ)
board_read level gate =
    read_answer 2 (0 ∷ 1 ∷ 1 ∷ []) 2 5 (4 ∷ 1 ∷ []) (0 ∷ 3 ∷ 2 ∷ []) (board_run level gate).tdo 2

-- 2 nets with 64 receivers, 63 of them on net 1, on 66 cells: drivers at 64 and 65
unfoldable pub most_receivers : List ℕ
most_receivers = 0 ∷ replicate 63 1

unfoldable pub read_most : (tdo : List ℕ) → Answer (List ℕ)
read_most tdo = read_answer 2 most_receivers 1 66 (64 ∷ 65 ∷ []) (tabulate 64 (λ r. r)) tdo 1

-- 48 nets on 96 cells, the drivers' first
unfoldable pub most_nets : (vectors : List ℕ) → Answer (List ℕ)
most_nets vectors = write_answer 48 (tabulate 48 (λ i. i)) vectors 96 (tabulate 48 (λ i. i)) (tabulate 48 (λ i. 48 + i)) 202

pub record ChainCases : Type 0 where
  -- two nets on four cells, vector 1: one scan, twice
  pub bytes : four_cells (1 ∷ []) 18
      ≡ full (1 ∷ 0 ∷ 0 ∷ 2 ∷ 0 ∷ 0 ∷ 1 ∷ 1 ∷ 0 ∷ 1 ∷ 0 ∷ 0 ∷ 2 ∷ 0 ∷ 0 ∷ 1 ∷ 1 ∷ 0 ∷ [])
  -- two vectors: three scans
  pub two_vectors : four_cells (1 ∷ 2 ∷ []) 27
      ≡ full (1 ∷ 0 ∷ 0 ∷ 2 ∷ 0 ∷ 0 ∷ 1 ∷ 1 ∷ 0 ∷ 1 ∷ 0 ∷ 0 ∷ 0 ∷ 2 ∷ 0 ∷ 1 ∷ 1 ∷ 0 ∷ 1 ∷ 0 ∷ 0 ∷ 0 ∷ 2 ∷ 0 ∷ 1 ∷ 1 ∷ 0 ∷ [])
  -- two nets and three receivers in state 3 3 0, vectors 0 and 1, the last one updated twice
  pub updated : (board_run 1 0).updates
      ≡ (false ∷ false ∷ false ∷ false ∷ false ∷ []) ∷ (false ∷ false ∷ false ∷ false ∷ true ∷ [])
      ∷ (false ∷ false ∷ false ∷ false ∷ true ∷ []) ∷ []
  pub ended : (board_run 1 0).end.state ≡ run_test_idle
  pub two_receivers : board_read 1 0 ≡ full (4 ∷ 7 ∷ [])
  pub two_receivers_and : board_read 0 1 ≡ full (0 ∷ 0 ∷ [])
  -- the second scan answers the vector of the first: its receivers' cells have 1 and 0, those of the first 0 and 1
  pub next_scan_answers : read_four 1 (0 ∷ 0 ∷ 0 ∷ 0 ∷ 0 ∷ 0 ∷ 1 ∷ 0 ∷ 0 ∷ 0 ∷ 0 ∷ 0 ∷ 0 ∷ 0 ∷ 1 ∷ 0 ∷ 0 ∷ 0 ∷ []) 1 ≡ full (1 ∷ [])
  -- row 18: L, one cell for each, cells outside, and two purposes
  pub no_cell : described 0 (0 ∷ 1 ∷ []) (2 ∷ 3 ∷ []) ≡ refused 18
  pub one_cell : described 1 (0 ∷ 1 ∷ []) (2 ∷ 3 ∷ []) ≡ refused 18
  pub two_cells : described 2 (0 ∷ 1 ∷ []) (2 ∷ 3 ∷ []) ≡ refused 18
  pub three_cells : described 3 (0 ∷ 1 ∷ []) (2 ∷ 3 ∷ []) ≡ refused 18
  pub longest : count_of (described 200 (199 ∷ 0 ∷ []) (198 ∷ 1 ∷ [])) ≡ full 410
  pub too_long : described 201 (199 ∷ 0 ∷ []) (198 ∷ 1 ∷ []) ≡ refused 18
  pub driver_outside : described 200 (200 ∷ 0 ∷ []) (198 ∷ 1 ∷ []) ≡ refused 18
  pub receiver_outside : described 4 (0 ∷ 1 ∷ []) (2 ∷ 4 ∷ []) ≡ refused 18
  pub twice_driving : described 4 (1 ∷ 1 ∷ []) (2 ∷ 3 ∷ []) ≡ refused 18
  pub twice_receiving : described 4 (0 ∷ 1 ∷ []) (2 ∷ 2 ∷ []) ≡ refused 18
  pub driving_and_receiving : described 4 (0 ∷ 1 ∷ []) (1 ∷ 3 ∷ []) ≡ refused 18
  pub driver_missing : described 4 (0 ∷ []) (2 ∷ 3 ∷ []) ≡ refused 18
  pub driver_too_many : described 5 (0 ∷ 1 ∷ 4 ∷ []) (2 ∷ 3 ∷ []) ≡ refused 18
  pub receiver_missing : described 4 (0 ∷ 1 ∷ []) (2 ∷ []) ≡ refused 18
  pub receiver_too_many : described 5 (0 ∷ 1 ∷ []) (2 ∷ 3 ∷ 4 ∷ []) ≡ refused 18
  -- one for each net is not one for each receiver
  pub cell_per_net : write_answer 2 (0 ∷ 1 ∷ 1 ∷ []) (1 ∷ []) 5 (0 ∷ 1 ∷ []) (2 ∷ 3 ∷ []) 20 ≡ refused 18
  pub cell_per_receiver : count_of (write_answer 2 (0 ∷ 1 ∷ 1 ∷ []) (1 ∷ []) 5 (0 ∷ 1 ∷ []) (2 ∷ 3 ∷ 4 ∷ []) 20) ≡ full 20
  -- the other rows of the writer, each before those behind it
  pub one_net : write_answer 1 [] [] 0 [] [] 0 ≡ refused 5
  pub nets_49 : write_answer 49 [] [] 0 [] [] 0 ≡ refused 5
  pub no_receiver : write_answer 2 (0 ∷ 0 ∷ []) [] 0 [] [] 0 ≡ refused 21
  pub no_vector : write_answer 2 (0 ∷ 1 ∷ []) [] 0 [] [] 0 ≡ refused 7
  pub vectors_65 : write_answer 2 (0 ∷ 1 ∷ []) (replicate 65 4) 0 [] [] 0 ≡ refused 7
  pub high_bit : write_answer 2 (0 ∷ 1 ∷ []) (4 ∷ []) 0 [] [] 0 ≡ refused 8
  pub bad_chain : write_answer 2 (0 ∷ 1 ∷ []) (1 ∷ []) 0 [] [] 0 ≡ refused 18
  pub no_room : four_cells (1 ∷ []) 17 ≡ refused 12
  -- and of the reader
  pub read_one_net : read_answer 1 [] 0 0 [] [] [] 0 ≡ refused 5
  pub read_no_receiver : read_answer 2 (0 ∷ 0 ∷ []) 0 0 [] [] [] 0 ≡ refused 21
  pub read_no_vector : read_answer 2 (0 ∷ 1 ∷ []) 0 0 [] [] [] 0 ≡ refused 7
  pub read_65 : read_answer 2 (0 ∷ 1 ∷ []) 65 0 [] [] [] 0 ≡ refused 7
  pub read_bad_chain : read_answer 2 (0 ∷ 1 ∷ []) 1 201 (0 ∷ 1 ∷ []) (2 ∷ 3 ∷ []) [] 0 ≡ refused 18
  pub tdo_short : read_four 1 (replicate 17 0) 0 ≡ refused 19
  pub tdo_long : read_four 1 (replicate 19 0) 0 ≡ refused 19
  pub tdo_two : read_four 1 (replicate 17 0 ++ 2 ∷ []) 0 ≡ refused 19
  pub tdo_first_two : read_four 1 (2 ∷ replicate 17 0) 0 ≡ refused 19
  pub read_no_room : read_four 1 (replicate 18 1) 0 ≡ refused 12
  pub read_all : read_four 1 (replicate 18 1) 1 ≡ full (3 ∷ [])
  -- the far ends: the last shift clock of 200, bit 47 of a vector, 64 vectors, bit 63 of a response
  pub last_cell : at (clocks 200 (199 ∷ 0 ∷ []) all_zero (1 ∷ [])) 202 ≡ 3
  pub cell_before : at (clocks 200 (199 ∷ 0 ∷ []) all_zero (1 ∷ [])) 201 ≡ 0
  pub last_net : at (clocks 96 (tabulate 48 (λ i. i)) all_zero ((2 ^ 47) ∷ [])) 50 ≡ 2
  pub nets_48 : count_of (most_nets ((2 ^ 47) ∷ [])) ≡ full 202
  pub net_48 : most_nets ((2 ^ 48) ∷ []) ≡ refused 8
  pub vectors_64 : count_of (four_cells (replicate 64 1) 585) ≡ full 585
  pub last_receiver : read_most (replicate 137 0 ++ 1 ∷ replicate 4 0) ≡ full ((2 ^ 63) ∷ [])
  pub all_receivers : read_most (replicate 142 1) ≡ full ((2 ^ 64 - 1) ∷ [])
  -- wrong bytes for vector 1: cells in the opposite order drive others; TMS 1 a clock early updates what is not yet shifted
  -- through; a clock late shifts too far
  pub reversed : (four_played (1 ∷ 0 ∷ 0 ∷ 0 ∷ 0 ∷ 0 ∷ 3 ∷ 1 ∷ 0 ∷ [])).updates ≡ (false ∷ false ∷ false ∷ true ∷ []) ∷ []
  pub early : (four_played (1 ∷ 0 ∷ 0 ∷ 2 ∷ 0 ∷ 1 ∷ 1 ∷ 0 ∷ 0 ∷ [])).updates ≡ (false ∷ true ∷ false ∷ false ∷ []) ∷ []
  pub late : (four_played (1 ∷ 0 ∷ 0 ∷ 2 ∷ 0 ∷ 0 ∷ 0 ∷ 1 ∷ 1 ∷ [])).updates ≡ (false ∷ false ∷ false ∷ false ∷ []) ∷ []
