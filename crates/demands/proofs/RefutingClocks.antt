-- Each wrong program for the clocks of a chain fails its promise at one input.
use Rattle.std.proofs.Common.{ℕ, ◌<◌, arith, ◌≡◌, refl, sym, ap, ◌∙◌, List, [], ◌∷◌, ◌++◌, length, replicate, eq-eqb}
use Rattle.words.specs.Answers.{Answer, refused, full, Filled}
use Rattle.words.specs.Bits.{at}
use Rattle.words.proofs.Answers.{refused_not_full}
use Rattle.words.specs.Turning.{tabulate}
use Rattle.words.proofs.Columns.{length_tabulate, tabulate_at}
use Rattle.network.specs.declared.Network.{Network}
use Rattle.network.specs.Open.{open_network}
use Rattle.network.proofs.States.{test→state}
use Rattle.scan_chain.specs.BoundaryRegister.{run}
use Rattle.scan_chain.specs.Cells.{Distinct}
use Rattle.scan_chain.specs.Board.{Wired, plain_chain}
use Rattle.scan_chain.specs.Playing.{Idle}
use Rattle.scan_chain.specs.TapCases.{start}
use Rattle.scan_chain.specs.Open.{open_scan_chain}
use Rattle.scan_chain.proofs.Satisfied.{plain_wired}
use Rattle.demands.specs.ClockCalls.{WriteClocksProgram, WritesClocks, ReadClocksProgram, ReadsClocks}
use Rattle.demands.specs.Played.{PlaysVectors, ReadsBoard, DiagnosesBoard}
use Rattle.demands.specs.Programs.{our_write_clocks, our_read_clocks}
use Rattle.demands.specs.Refuted.{writes_as, no_last_scan, ones_elsewhere, last_cell_first, reads_own_scan, reads_every_byte}
use Rattle.demands.specs.Refuted.{passes_all_sets, writes_but_most, reads_but_most, diagnoses_but_most}
use Rattle.demands.proofs.ClockCalls.{writes_clocks, reads_clocks, write_clocks_determined, read_clocks_determined}

-- ---- two nets on four cells: drivers at 0 and 1, receivers at 2 and 3

wrote : WriteClocksProgram → Filled ℕ
wrote program = program 2 (0 ∷ 1 ∷ []) (1 ∷ []) 4 (0 ∷ 1 ∷ []) (2 ∷ 3 ∷ []) (replicate 18 9)

read : ReadClocksProgram → (tdo : List ℕ) → Filled ℕ
read program tdo = program 2 (0 ∷ 1 ∷ []) 1 4 (0 ∷ 1 ∷ []) (2 ∷ 3 ∷ []) tdo (9 ∷ [])

same_bytes : (program : WriteClocksProgram) → WritesClocks program → (i : ℕ)
    → at (wrote program).list i ≡ at (wrote our_write_clocks).list i
unfolding wrote
same_bytes program claim i =
    ap (λ (did : Filled ℕ). at did.list i) (write_clocks_determined program our_write_clocks claim writes_clocks 2 (0 ∷ 1 ∷ [])
    (1 ∷ []) 4 (0 ∷ 1 ∷ []) (2 ∷ 3 ∷ []) (replicate 18 9))

same_word : (program : ReadClocksProgram) → ReadsClocks program → (tdo : List ℕ)
    → at (read program tdo).list 0 ≡ at (read our_read_clocks tdo).list 0
unfolding read
same_word program claim tdo =
    ap (λ (did : Filled ℕ). at did.list 0) (read_clocks_determined program our_read_clocks claim reads_clocks 2 (0 ∷ 1 ∷ []) 1 4
    (0 ∷ 1 ∷ []) (2 ∷ 3 ∷ []) tdo (9 ∷ []))

-- clock 9 would begin the second scan
pub last_not_repeated : ¬ (WritesClocks (writes_as no_last_scan))
unfolding open_scan_chain wrote
last_not_repeated claim = let z : ◌≡◌ {A = ℕ} 9 1 = same_bytes (writes_as no_last_scan) claim 9 in omega arith

-- cell 2's bit
pub others_driven : ¬ (WritesClocks (writes_as ones_elsewhere))
unfolding open_scan_chain wrote
others_driven claim = let z : ◌≡◌ {A = ℕ} 2 0 = same_bytes (writes_as ones_elsewhere) claim 5 in omega arith

-- cell 0's bit
pub cells_reversed : ¬ (WritesClocks (writes_as last_cell_first))
unfolding open_scan_chain wrote
cells_reversed claim = let z : ◌≡◌ {A = ℕ} 0 2 = same_bytes (writes_as last_cell_first) claim 3 in omega arith

-- receiver 1's cell has 1 in the first scan alone
pub own_scan_read : ¬ (ReadsClocks reads_own_scan)
unfolding open_scan_chain read
own_scan_read claim =
    let z : ◌≡◌ {A = ℕ} 2 0 = same_word reads_own_scan claim (replicate 6 0 ++ 1 ∷ replicate 11 0) in
    omega arith

-- the last byte is 2: refused, so the list is as it was
pub every_byte_read : ¬ (ReadsClocks reads_every_byte)
unfolding open_scan_chain read
every_byte_read claim = let z : ◌≡◌ {A = ℕ} 0 9 = same_word reads_every_byte claim (replicate 17 0 ++ 2 ∷ []) in omega arith

-- ---- 48 nets and 64 receivers on 200 cells, 64 vectors

abbrev net_of : (level gate : ℕ) → Network
net_of level gate = record { nets = 48; level = level; gate = gate }

abbrev cells_of : List ℕ
cells_of = tabulate 64 (λ r. r)

abbrev zeros : List ℕ
zeros = replicate 64 0

idle : Idle start
unfolding start
idle = record { state = refl; extest = refl }

distinct : Distinct 200 cells_of
distinct = record {
  inside = λ i l. let q = tabulate_at 64 (λ r. r) i (below i l) in let m = below i l in omega (arith, q, m);
  apart = λ i j l m e. sym (tabulate_at 64 (λ r. r) i (below i l)) ∙ e ∙ tabulate_at 64 (λ r. r) j (below j m);
}
  where
    below : (i : ℕ) → i < length cells_of → i < 64
    below i l = let n = length_tabulate 64 (λ r. r) in omega (arith, n, l)

wired : (level gate : ℕ) → Wired (net_of level gate) zeros 200 [] cells_of (plain_chain (net_of level gate) zeros 200 [] cells_of)
wired level gate = plain_wired (net_of level gate) zeros 200 [] cells_of distinct (sym (length_tabulate 64 (λ r. r)))

pub most_not_played : ¬ (PlaysVectors writes_but_most)
unfolding run
most_not_played claim =
    let z : ◌≡◌ {A = ℕ} 0 65 = (claim 48 zeros zeros 200 [] cells_of [] 0 refl
    (plain_chain (net_of 1 0) zeros 200 [] cells_of) (wired 1 0).cells 0 start idle).number in
    omega arith

pub most_not_read : ¬ (ReadsBoard writes_but_most reads_but_most)
most_not_read claim =
    let z : ◌≡◌ {A = Answer ℕ} (full 0) (full 64) = (claim (net_of 1 0) zeros zeros 200 [] cells_of [] 0 refl zeros
    (plain_chain (net_of 1 0) zeros 200 [] cells_of) (wired 1 0) 0 start idle zeros (omega arith)).0 in
    let said : ◌≡◌ {A = ℕ} 0 64 = ap count_said z in
    omega arith
  where
    count_said : Answer ℕ → ℕ
    count_said (refused number) = 99
    count_said (full count) = count

refused_there : (level gate : ℕ) (words lent : List ℕ)
    → (diagnoses_but_most level gate (net_of level gate) zeros 48 zeros words lent).returned ≡ refused 14
refused_there level gate words lent = rw (eq-eqb level level refl, eq-eqb gate gate refl)

pub most_not_diagnosed : (level gate : ℕ)
    → ¬ (DiagnosesBoard passes_all_sets writes_but_most reads_but_most (diagnoses_but_most level gate))
unfolding open_network
most_not_diagnosed level gate claim =
    refused_not_full (refused_there level gate _ zeros)
    (claim (net_of level gate) zeros 48 zeros refl 200 [] cells_of [] 0 refl zeros
    (test→state (net_of level gate) 64 48 zeros refl) (plain_chain (net_of level gate) zeros 200 [] cells_of) (wired level gate) 0
    start idle zeros (omega arith) zeros (omega arith)).0
