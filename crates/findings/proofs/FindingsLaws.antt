-- The call *findings* answers as its rows and its result say, and nothing is left open. A table of 64 records, and a
-- table as a loop fills it.
use Rattle.std.proofs.Common.{◌≡◌, refl, sym, ap, ◌∙◌, subst, Bool, false, cond, List, [], ◌∷◌, ◌++◌, map, ℕ, ◌+◌}
use Rattle.std.proofs.Common.{◌-◌, ◌≤◌, ◌<◌, arith, length, take, drop, set, get_or, length-append, length-drop}
use Rattle.std.proofs.Common.{ext_get_or, length-take-le, get_or-take}
use lib.ListN.{length-map}
use Rattle.words.specs.Answers.{Answer, refused, full, ByTable, NoneHolds, by_tests, Decided, lent_after, count_of}
use Rattle.words.specs.Bits.{at}
use Rattle.words.specs.Turning.{tabulate}
use Rattle.words.proofs.Answers.{refused_not_full, tests_by_table, table_determined, table_full, table_none_holds}
use Rattle.words.proofs.Answers.{table_skip, none_front, none_rest, decided_append, let_through, none_passed}
use Rattle.words.proofs.Answers.{shared_refuse, shared_pass}
use Rattle.words.proofs.Answers.{front_written, counted_refused, counted_full}
use Rattle.words.proofs.Tests.{test_fails}
use Rattle.words.proofs.Making.{map_at, map_fill, map_filled}
use Rattle.words.proofs.Columns.{length_tabulate, tabulate_at}
use Rattle.network.specs.declared.Network.{Network}
use Rattle.std.specs.Prelude.{Result, Ok, Err}
use Rattle.network.specs.declared.refusal.Refusal.{Refusal}
use Rattle.network.specs.Refusing.{row_number}
use Rattle.network.specs.States.{State, not_a_state}
use Rattle.network.specs.Rows.{BoardRows, AdmittedBoard, board_tests, no_room}
use Rattle.network.proofs.States.{test→state, decides_not_a_state}
use Rattle.network.proofs.Rows.{decides_board, decides_row_21, decides_row_12, nets_admitted, receivers_admitted}
use Rattle.network.proofs.Rows.{receivers_of_board}
use Rattle.findings.specs.declared.Finding.{Finding}
use Rattle.findings.specs.Findings.{net_of, finding}
use Rattle.findings.specs.FindingsTable.{TableRows, FindingsRows, Findings, table_tests, findings_tests, findings, findings_answer}
use Rattle.findings.specs.FindingsTable.{table_meaning, blank}

-- ---- the answer

module _ (net : Network) (owners state : List ℕ) where
  pub findings_size : length (findings net owners state) ≡ length state
  unfolding findings
  findings_size = length-map (tabulate (length state) _) (finding net owners state) ∙ length_tabulate (length state) _

  findings_is : Findings net owners state (findings net owners state)
  unfolding findings
  findings_is = record {
    one_a_receiver = findings_size;
    found = λ r l other.
        map_at (finding net owners state) other (tabulate (length state) (λ s. s)) r
        (rw (length_tabulate (length state) (λ s. s)) l)
        ∙ ap (finding net owners state) (tabulate_at (length state) (λ s. s) r l);
  }

  tables_equal : (s t : List Finding) → Findings net owners state s → Findings net owners state t → s ≡ t
  tables_equal s t p q =
      ext_get_or blank s t (p.one_a_receiver ∙ sym q.one_a_receiver)
      (λ r l. let m : r < length state = rw p.one_a_receiver at l in p.found r m _ ∙ sym (q.found r m _))

module _ (net : Network) (owners state : List ℕ) (room : ℕ) where
  decides_rows : Decided (FindingsRows net owners state room) (findings_tests net owners state room)
  decides_rows =
      decided_append (BoardRows net owners) (TableRows net (length owners) state room)
      (board_tests net owners) (table_tests net (length owners) state room) (decides_board net owners)
      (λ _. (
        refl,
        decides_not_a_state net (length owners) net.nets state,
        λ _. (refl, decides_row_12 (length owners) room, λ _. tt),
      ))

  pub findings_by_table : ByTable (FindingsRows net owners state room) (Findings net owners state)
      (findings_answer net owners state room)
  unfolding findings_answer
  findings_by_table =
      tests_by_table (Findings net owners state) (FindingsRows net owners state room)
      (findings_tests net owners state room)
      (findings net owners state) decides_rows (λ _. findings_is net owners state)

  pub findings_determined : (a b : Answer (List Finding))
      → ByTable (FindingsRows net owners state room) (Findings net owners state) a
      → ByTable (FindingsRows net owners state room) (Findings net owners state) b → a ≡ b
  findings_determined a b =
      table_determined (Findings net owners state) (FindingsRows net owners state room) a b
      (λ _. tables_equal net owners state)

-- ---- what the number returned tells

-- the net of a receiver, on a board that is admitted
pub net_below : (net : Network) (owners : List ℕ) → AdmittedBoard net owners → (r : ℕ) → r < length owners
    → (net.nets ≤ 48) × (net_of owners r < net.nets)
net_below net owners board r l = ((nets_admitted net board.0).1, (receivers_of_board net owners board).owner r l)

-- what an accepted call is given, and its answer
pub record Accepted (net : Network) (owners state : List ℕ) (room : ℕ) : Type 0 where
  pub few : net.nets ≤ 48
  pub board : AdmittedBoard net owners
  pub is_state : State net (length owners) net.nets state
  pub fits : length state ≤ room
  pub answer : findings_answer net owners state room ≡ full (findings net owners state)

module _ (net : Network) (owners state : List ℕ) (room : ℕ) where
  -- where no row holds, the call is accepted
  pub none_holds_accepted : NoneHolds (FindingsRows net owners state room) → Accepted net owners state room
  none_holds_accepted none =
      let result = table_skip (Findings net owners state) (FindingsRows net owners state room) []
      (findings_answer net owners state room)
      none (findings_by_table net owners state room) in
      let own = none_rest (BoardRows net owners) (TableRows net (length owners) state room) none in
      let is_state : State net (length owners) net.nets state =
      test→state net (length owners) net.nets state
      (test_fails (decides_not_a_state net (length owners) net.nets state) own.0) in
      let size = is_state.size in record {
        few = (nets_admitted net none.0).1;
        board = none_front (BoardRows net owners) (TableRows net (length owners) state room) none;
        is_state = is_state;
        fits = omega (arith, own.1.0, size);
        answer = result.1
            ∙ ap full (tables_equal net owners state result.0 (findings net owners state) result.2
            (findings_is net owners state));
      }

  -- and writes no more records than there is room for
  pub records_fit : (records : List Finding) → findings_answer net owners state room ≡ full records
      → length records ≤ room
  records_fit records e =
      let allowed = subst (ByTable (FindingsRows net owners state room) (Findings net owners state)) e
      (findings_by_table net owners state room) in
      let ok = none_holds_accepted
      (table_none_holds (Findings net owners state) (FindingsRows net owners state room) records allowed) in
      let size = (table_full (Findings net owners state)
      (FindingsRows net owners state room) records allowed).one_a_receiver in
      omega (arith, size, ok.fits)

  -- accepted
  pub table_accepted : {A : Type 0} (result : Result A Refusal) (x : A) → result ≡ Ok x
      → table_meaning (length owners) result ≡ count_of (findings_answer net owners state room)
      → Accepted net owners state room
  unfolding table_meaning findings_answer
  table_accepted (Ok x) y e said =
      let counted = counted_full (findings_answer net owners state room) (length owners) (sym said) in
      none_holds_accepted (let_through (FindingsRows net owners state room) (findings_tests net owners state room)
      (findings net owners state) counted.0 (decides_rows net owners state room) counted.1)
  table_accepted (Err refusal) y e said = absurd cc

  -- or the refusal
  pub table_refused : {A : Type 0} (result : Result A Refusal) (refusal : Refusal) → result ≡ Err refusal
      → table_meaning (length owners) result ≡ count_of (findings_answer net owners state room)
      → findings_answer net owners state room ≡ refused (row_number refusal)
  unfolding table_meaning
  table_refused (Ok x) refusal e said = absurd cc
  table_refused (Err other) refusal e said =
      let same : other ≡ refusal = cc in
      counted_refused (findings_answer net owners state room) (row_number refusal) (sym said ∙ ap (λ r. refused (row_number r)) same)

-- ---- a table of 64 records, with room for the receivers of every board

module _ (net : Network) (owners state : List ℕ) where
  -- the records that an accepted call has written
  pub records_written : (lent table : List Finding) → Accepted net owners state 64
      → table ≡ lent_after (findings_answer net owners state 64) lent
      → take (length owners) table ≡ findings net owners state
  records_written lent table ok e =
      let size : length (findings net owners state) ≡ length owners = findings_size net owners state
      ∙ ok.is_state.size in
      ap (take (length owners)) (e ∙ ap (λ (a : Answer (List Finding)). lent_after a lent) ok.answer)
      ∙ ap (λ (n : ℕ). take n (lent_after (full (findings net owners state)) lent)) (sym size)
      ∙ front_written (findings net owners state) lent

  pub record_written : (lent table : List Finding) → Accepted net owners state 64
      → table ≡ lent_after (findings_answer net owners state 64) lent → (r : ℕ) → r < length owners
      → (other : Finding) → get_or table r other ≡ finding net owners state r
  record_written lent table ok e r l other =
      let size = ok.is_state.size in
      sym (get_or-take (length owners) table r other l)
      ∙ ap (λ (t : List Finding). get_or t r other) (records_written lent table ok e)
      ∙ (findings_is net owners state).found r (omega arith) other

  -- the rows before the one of the room
  abbrev other_tests : List (ℕ × Bool)
  other_tests = board_tests net owners ++ (11, not_a_state net (length owners) net.nets state) ∷ []

  abbrev others : Answer (Unit {0})
  others = by_tests other_tests tt

  -- they refuse whatever the room, or the room alone decides
  by_others : (room number : ℕ) → others ≡ refused number → findings_answer net owners state room ≡ refused number
  unfolding findings_answer
  by_others room number e =
      shared_refuse tt (findings net owners state) other_tests ((12, no_room (length owners) room) ∷ []) number e

  by_room : (room : ℕ) → others ≡ full tt → (twelve : Bool) → no_room (length owners) room ≡ twelve
      → findings_answer net owners state room ≡ cond twelve (refused 12) (full (findings net owners state))
  unfolding findings_answer by_tests
  by_room room e twelve f =
      shared_pass tt (findings net owners state) other_tests ((12, no_room (length owners) room) ∷ []) tt e
      ∙ ap (λ (b : Bool). cond b (refused 12) (full (findings net owners state))) f

  -- room for 64 is enough
  by_64 : others ≡ full tt → findings_answer net owners state 64 ≡ full (findings net owners state)
  by_64 e =
      let passed = (none_passed other_tests tt tt e).0 in
      let most = (receivers_admitted net owners ((decides_row_21 net owners).1 passed.1.0)).most in
      by_room 64 e false (test_fails (decides_row_12 (length owners) 64) (λ l. omega (arith, l, most)))

  module _ (room : ℕ) where
    -- a call that is refused with it is refused with any room
    pub refused_in_any_room : (number : ℕ) → findings_answer net owners state 64 ≡ refused number
        → findings_answer net owners state room ≡ refused number
    refused_in_any_room number e = go others refl
      where
        go : (a : Answer (Unit {0})) → others ≡ a → findings_answer net owners state room ≡ refused number
        go (refused other) f = by_others room other f ∙ sym (by_others 64 other f) ∙ e
        go (full tt) f = refused_not_full e (by_64 f)

    -- and for one that is accepted with it, the room alone decides
    pub accepted_by_room : Accepted net owners state 64 → (twelve : Bool) → no_room (length owners) room ≡ twelve
        → findings_answer net owners state room ≡ cond twelve (refused 12) (full (findings net owners state))
    accepted_by_room ok twelve e = go others refl
      where
        go : (a : Answer (Unit {0})) → others ≡ a
            → findings_answer net owners state room ≡ cond twelve (refused 12) (full (findings net owners state))
        go (refused other) f = refused_not_full (by_others 64 other f) ok.answer
        go (full tt) f = by_room room f twelve e

-- ---- the table as a loop fills it

-- the first r records are in place, and the rest is as it was
unfoldable pub filled : Network → (owners state : List ℕ) → ℕ → List Finding → List Finding
filled net owners state r table = map (finding net owners state) (take r (tabulate (length state) (λ s. s)))
    ++ drop r table

module _ (net : Network) (owners state : List ℕ) (table : List Finding) where
  pub filled_none : table ≡ filled net owners state 0 table
  unfolding filled
  filled_none = refl

  pub filled_next : (r : ℕ) → r < length state → r < length table
      → set (filled net owners state r table) r (finding net owners state r) ≡ filled net owners state (r + 1) table
  unfolding filled
  filled_next r l m =
      let place : at (tabulate (length state) (λ s. s)) r ≡ r = tabulate_at (length state) (λ s. s) r l in
      ap (λ (x : ℕ). set (filled net owners state r table) r (finding net owners state x)) (sym place)
      ∙ map_fill (finding net owners state) (tabulate (length state) (λ s. s)) table r
      (rw (length_tabulate (length state) (λ s. s)) l) m

  pub filled_length : (r : ℕ) → r ≤ length state → r ≤ length table
      → length (filled net owners state r table) ≡ length table
  unfolding filled
  filled_length r l m =
      let receivers = tabulate (length state) (λ s. s) in
      let size : length receivers ≡ length state = length_tabulate (length state) (λ s. s) in
      let front : length (map (finding net owners state) (take r receivers)) ≡ r =
      length-map (take r receivers) (finding net owners state)
      ∙ length-take-le r receivers (omega arith) in
      let back : length (drop r table) ≡ length table - r = length-drop r table in
      length-append (map (finding net owners state) (take r receivers)) (drop r table) ∙ omega arith

  pub filled_all : (r : ℕ) → r ≡ length state → filled net owners state r table
      ≡ lent_after (full (findings net owners state)) table
  unfolding filled lent_after findings
  filled_all r e =
      let size : length (tabulate (length state) (λ s. s)) ≡ length state = length_tabulate (length state) (λ s. s) in
      map_filled (finding net owners state) (tabulate (length state) (λ s. s)) table r (omega arith) (omega arith)
