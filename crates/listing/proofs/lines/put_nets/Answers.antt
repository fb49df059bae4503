use Rattle.std.proofs.Common.{ℕ, ◌≡◌, ◌+◌, ◌<◌, ◌≤◌, ◌-◌, ◌∙◌, sym, ap, arith, List, ◌++◌, length, length-append}
use Rattle.std.proofs.Common.{append_assoc, append-nil}
use Rattle.std.proofs.Common.{get_or, subst}
use Rattle.arrayvec.specs.ArrayVec.{array_vec_len}
use Rattle.words.specs.Answers.{lent_after}
use Rattle.network.specs.declared.Network.{Network}
use Rattle.network.specs.States.{State}
use Rattle.network.specs.Rows.{AdmittedBoard}
use Rattle.network.specs.OwnReceivers.{own_receivers}
use Rattle.findings.specs.declared.Finding.{Finding}
use Rattle.findings.specs.FindingsTable.{findings_answer, blank, blank_table}
use Rattle.listing.specs.Report.{net_line, net_lines}
use Rattle.listing.proofs.NetsPut.{found_at, record_at, lines_next, lines_end}
use Rattle.listing.proofs.lines.put_nets.Goals as goal

-- The text up to the lines of the nets from net i on; with them it is the whole, which has room.
module _ (net : Network) (state text whole : List ℕ) (i : ℕ)
    (e : text ++ net_lines net state i (net.nets - i) ≡ whole) where
  next_size : i < net.nets → length text + length (net_line i (found_at net state i)) ≤ length whole
  next_size l =
      let next = ap length (lines_next net state i l) in
      let line = length-append (net_line i (found_at net state i)) (net_lines net state (i + 1) (net.nets - (i + 1))) in
      let all = length-append text (net_lines net state i (net.nets - i)) in
      let size = ap length e in
      omega arith

  next : i < net.nets → (after : List ℕ) → after ≡ text ++ net_line i (found_at net state i)
      → after ++ net_lines net state (i + 1) (net.nets - (i + 1)) ≡ whole
  next l after f =
      rw f (append_assoc text (net_line i (found_at net state i)) (net_lines net state (i + 1) (net.nets - (i + 1)))
      ∙ ap (λ (rest : List ℕ). text ++ rest) (sym (lines_next net state i l)) ∙ e)

  last : net.nets ≤ i → text ≡ whole
  last l = sym (append-nil text) ∙ ap (λ (rest : List ℕ). text ++ rest) (sym (lines_end net state i l)) ∙ e

-- the table has what is found on net i
module _ (net : Network) (owners state : List ℕ) (table : List Finding) (own : owners ≡ own_receivers net.nets)
    (board : AdmittedBoard net owners) (is_state : State net (length owners) net.nets state)
    (e : table ≡ lent_after (findings_answer net owners state 64) blank_table) where
  line_of : (i j : ℕ) → j ≡ i → i < net.nets → net_line i (get_or table j blank) ≡ net_line i (found_at net state i)
  line_of i j same l =
      ap (net_line i) (ap (λ (k : ℕ). get_or table k blank) same ∙ record_at net owners state table own board is_state e i l)

pub put_net-requires : goal.put_net-requires
put_net-requires c =
    let b = c.args.board in
    let net = b.nets.network in
    let state = c.args.state.now in
    let l = c.loop-i in
    let f = c.findings-accepted in
    let all = length-append c.args.text.now.items (net_lines net state 0 net.nets) in
    let size = next_size net state _ _ l.i l.invariant c.loop-i-test.true in
    let room : array_vec_len l.text + length (net_line l.i (found_at net state l.i)) ≤ 4142 =
    omega (arith, c.requires.room, all, size) in
    subst (λ (line : List ℕ). array_vec_len l.text + length line ≤ 4142)
    (sym (line_of net b.receivers.now state f.new.table c.requires.own b.admitted c.requires.state f.ensures.table l.i _
    (omega arith) c.loop-i-test.true)) room

pub loop-i-preserved : goal.loop-i-preserved
loop-i-preserved c =
    let b = c.args.board in
    let net = b.nets.network in
    let state = c.args.state.now in
    let l = c.loop-i in
    let f = c.findings-accepted in
    let line = line_of net b.receivers.now state f.new.table c.requires.own b.admitted c.requires.state f.ensures.table l.i _
    (omega arith) c.loop-i-test.true in
    next net state _ _ l.i l.invariant c.loop-i-test.true _
    (c.put_net.ensures ∙ ap (λ (line : List ℕ). l.text.items ++ line) line)

pub returns : goal.returns
returns c =
    let b = c.args.board.nets.network in
    last b c.args.state.now _ _ c.loop-i.i c.loop-i.invariant (omega arith)
