-- The lines of the nets of a board, one after another, and how long they are.
use Rattle.std.proofs.Common.{ℕ, zero, suc, ◌+◌, ◌*◌, ◌-◌, ◌<◌, ◌≤◌, ◌≡◌, ap, ◌∙◌, arith, List, [], ◌∷◌, ◌++◌, length}
use Rattle.std.proofs.Common.{length-append, zero-le, get_or}
use Rattle.words.specs.Answers.{NoneHolds, lent_after}
use Rattle.words.proofs.Answers.{none_both}
use Rattle.network.specs.declared.Network.{Network}
use Rattle.network.specs.States.{State}
use Rattle.network.specs.Rows.{BoardRows, AdmittedBoard}
use Rattle.network.specs.OwnReceivers.{own_receivers}
use Rattle.network.proofs.Rows.{receivers_of_board}
use Rattle.network.proofs.OwnReceivers.{own_size}
use Rattle.findings.specs.declared.Finding.{Finding}
use Rattle.findings.specs.Findings.{finding}
use Rattle.findings.specs.FindingsTable.{TableRows, findings_answer, blank, blank_table}
use Rattle.findings.proofs.FindingsLaws.{Accepted, none_holds_accepted, record_written}
use Rattle.decimal.specs.Decimal.{decimal, numbers_end}
use Rattle.decimal.proofs.Numerals.{decimal_most, numbers_most}
use Rattle.listing.specs.Report.{net_line, net_lines}

-- what is found at the one receiver of net i
abbrev pub found_at : Network → List ℕ → ℕ → Finding
found_at net state i = finding net (own_receivers net.nets) state i

-- *findings* accepts a state of a board, with a table of 64
accepts : (net : Network) (owners state : List ℕ) → AdmittedBoard net owners
    → State net (length owners) net.nets state → Accepted net owners state 64
accepts net owners state board is_state =
    let most : length owners ≤ 64 = (receivers_of_board net owners board).most in
    let table : NoneHolds (TableRows net (length owners) state 64) =
    (λ eleven. eleven is_state, (λ twelve. omega (arith, most, twelve), tt)) in
    none_holds_accepted net owners state 64
    (none_both (BoardRows net owners) (TableRows net (length owners) state 64) board table)

-- and record i of the table that it has filled is what is found at the one receiver of net i
pub record_at : (net : Network) (owners state : List ℕ) (table : List Finding) → owners ≡ own_receivers net.nets
    → AdmittedBoard net owners → State net (length owners) net.nets state
    → table ≡ lent_after (findings_answer net owners state 64) blank_table
    → (i : ℕ) → i < net.nets → get_or table i blank ≡ found_at net state i
record_at net owners state table own board is_state e i l =
    let size = ap length own ∙ own_size net.nets in
    record_written net owners state blank_table table (accepts net owners state board is_state) e i
    (omega (arith, size, l)) blank
    ∙ ap (λ (list : List ℕ). finding net list state i) own

-- a net's line has at most 84 bytes
line_most : (i : ℕ) (found : Finding) → length (net_line i found) ≤ 84
unfolding net_line
line_most i found =
    let a = decimal_most i in
    let rest = numbers_most (found.kind ∷ found.reach ∷ found.partners ∷ []) in
    let one = length-append (decimal i) (numbers_end (found.kind ∷ found.reach ∷ found.partners ∷ [])) in
    omega arith

module _ (net : Network) (state : List ℕ) where
  pub lines_most : (i count : ℕ) → length (net_lines net state i count) ≤ 84 * count
  unfolding net_lines
  lines_most i zero = zero-le
  lines_most i (suc count) =
      let most = line_most i (found_at net state i) in
      let more = lines_most (suc i) count in
      let both = length-append (net_line i (found_at net state i)) (net_lines net state (suc i) count) in
      omega arith

  -- those from net i on
  pub lines_next : (i : ℕ) → i < net.nets → net_lines net state i (net.nets - i)
      ≡ net_line i (found_at net state i) ++ net_lines net state (i + 1) (net.nets - (i + 1))
  unfolding net_lines
  lines_next i l =
      let one : i + 1 ≡ suc i = omega arith in
      let more : net.nets - i ≡ suc (net.nets - suc i) = omega arith in
      rw (more, one)

  pub lines_end : (i : ℕ) → net.nets ≤ i → net_lines net state i (net.nets - i) ≡ []
  unfolding net_lines
  lines_end i l = let none : net.nets - i ≡ 0 = omega arith in ap (net_lines net state i) none
