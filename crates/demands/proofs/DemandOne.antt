-- Demand 1, of all our calls.
use Rattle.std.proofs.Common.{ℕ, arith, ◌≡◌, refl, sym, ap, ap₂, ◌∙◌, subst, ◌⊎◌, ◌≢◌, ◌↔◌, inl, inr, ⊎_elim, Bool}
use Rattle.std.proofs.Common.{true, false, cond, List, [], ◌∷◌, ◌++◌, map, eqb, length}
use Rattle.words.specs.Answers.{Answer, refused, full, ByTable, NoneHolds, lent_after, count_of, Filled, FillsByTable}
use Rattle.words.proofs.Tests.{cases, contrary}
use Rattle.words.proofs.Answers.{table_implies, front_written}
use Rattle.network.specs.declared.Network.{Network}
use Rattle.network.specs.Reading.{Response}
use Rattle.network.specs.States.{Fits}
use Rattle.network.specs.OwnReceivers.{OwnReceivers}
use Rattle.network.specs.Rows.{Row9, Row12}
use Rattle.turning.specs.Turn.{Exchanged}
use Rattle.checker.specs.Rule.{Rule}
use Rattle.shorter.specs.Shorten.{Shorter, IsShorter, kept_of, counted as shorter_counted}
use Rattle.findings.specs.FindingsTable.{Findings}
use Rattle.steps.specs.FirstStep.{first_vectors}
use Rattle.steps.specs.SecondStep.{unclear, second_vectors}
use Rattle.session.specs.declared.Session.{Session}
use Rattle.session.specs.Record.{held_owners, held_answers, awaits_first, awaits_second}
use Rattle.session.proofs.Records.{owners_front, held_of}
use Rattle.reader.specs.Reader.{JobContent, content, vectors_read, responses_read, counted}
use Rattle.writer.specs.Writer.{file_of}
use Rattle.demands.specs.SessionCalls.{Call, begin, first, second, lent, History, none, waits_first, waits_second}
use Rattle.demands.specs.SessionCalls.{finished_first, finished_second, after_first, accepted, extended}
use Rattle.demands.specs.SessionCalls.{record_after, history_from, history, LeftBy, Awaits, FitsAnswers}
use Rattle.demands.specs.SessionRecords.{WaitsFor}
use Rattle.demands.specs.Demand3.{BeginRows, Written, second_words}
use Rattle.demands.specs.Demand1.{PublicCall, own, turn, turn_back, check, shorten, respond, diagnose, find}
use Rattle.demands.specs.Demand1.{read, write, advance, drive}
use Rattle.demands.specs.Demand1.{awaited_vectors, SessionHighBit, InSession, SessionRows, Rows, numbers}
use Rattle.demands.specs.Demand1.{RefusedFill, FullFill, Before, RefusedWith, FullResult, FirstRow, RefusedOrFull}
use Rattle.demands.specs.Demand1.{Demand1}
use Rattle.demands.specs.Programs.{our_turn, our_turn_back, our_own_receivers, our_response, our_check, our_diagnosis, our_findings}
use Rattle.demands.specs.Programs.{our_writer, our_answer, our_sessions, ours}
use Rattle.demands.proofs.TurnCalls.{turns, turns_back}
use Rattle.demands.proofs.OwnReceivers.{owns}
use Rattle.demands.proofs.Responding.{responds}
use Rattle.demands.proofs.Diagnosing.{diagnoses}
use Rattle.demands.proofs.Findings.{finds}
use Rattle.demands.proofs.Checking.{checks_by_rule}
use Rattle.demands.proofs.Shortening.{shortens}
use Rattle.demands.proofs.JobFiles.{writes, reads_files}
use Rattle.demands.proofs.Telling.{Tells, first_refused, second_refused, begin_by_table, step_of, is_begun, step_told}
use Rattle.demands.proofs.Sessions.{goes_through, left_tells, row_four, call_by_table, drives}

-- ---- any table

-- an answer by the rows is refused with the number of the first that holds, or full where none holds
pub either : {A : Type 0} (result : A → Type 0) (Refused : ℕ → Type 0) (Full : Type 0) (rows : List (ℕ × Type 0)) (a : Answer A)
    → ((number : ℕ) → a ≡ refused number → Refused number) → ((x : A) → a ≡ full x → result x → Full) → ByTable rows result a
    → ((number : ℕ) × FirstRow rows number × Refused number) ⊎ (NoneHolds rows × Full)
either result Refused Full [] a f g (x, e, r) = inr (tt, g x e r)
either result Refused Full ((number, holds) ∷ rows) a f g (inl (h, e)) = inl (number, inl (h, refl), f number e)
either result Refused Full ((number, holds) ∷ rows) a f g (inr (n, b)) =
    ⊎_elim (λ w. inl (w.0, inr (n, w.1), w.2)) (λ w. inr ((n, w.0), w.1)) (either result Refused Full rows a f g b)

-- a call that fills a list
fills : {A : Type 0} (rows : List (ℕ × Type 0)) (result : List A → Type 0) (lent : List A) (did : Filled A)
    → FillsByTable rows result lent did
    → ((number : ℕ) × FirstRow rows number × RefusedFill lent did number) ⊎ (NoneHolds rows × FullFill result lent did)
unfolding count_of lent_after
fills {A} rows result lent did f =
    either result (RefusedFill lent did) (FullFill result lent did) rows f.answer
    (λ number e. (f.returned ∙ ap count_of e, f.list ∙ ap (λ (a : Answer (List A)). lent_after a lent) e))
    (λ written e r. (written, r, f.returned ∙ ap count_of e, f.list ∙ ap (λ (a : Answer (List A)). lent_after a lent) e)) f.allowed

-- ---- the sessions that a record stands in

-- the session that a record tells, if it is not finished
abbrev history_of : Session → History
history_of session =
    let net = session.network in
    let owners = held_owners session in
    let answers = held_answers session in
    cond (eqb session.step 1) (waits_first net owners (first_vectors net))
    (waits_second net owners (first_vectors net) answers (second_vectors net owners answers))

told_session : (h : History) (session : Session) → h ≢ none → Tells h session → session.step ≢ 3 → h ≡ history_of session
told_session none session begun t d = absurd (begun refl)
told_session (waits_first net owners v1) session begun t d = rw (t.is, t.wrote, owners_front owners)
told_session (waits_second net owners v1 r1 v2) session begun t d =
    rw (t.is, t.wrote, t.wrote_second, owners_front owners, held_of net owners r1 t.sized)
told_session (finished_first net owners v1 r1 v2) session begun t d = absurd (d t.step_three)
told_session (finished_second net owners v1 r1 v2 r2) session begun t d = absurd (d t.step_three)

-- rows that go by the session: in one session, and in some session that leaves the record
abbrev rows_at : History → List (ℕ × (History → Type 0)) → List (ℕ × Type 0)
rows_at h [] = []
rows_at h ((number, holds) ∷ rows) = (number, holds h) ∷ rows_at h rows

abbrev rows_of : Session → List (ℕ × (History → Type 0)) → List (ℕ × Type 0)
rows_of session [] = []
rows_of session ((number, holds) ∷ rows) = (number, InSession our_sessions session holds) ∷ rows_of session rows

-- a record that waits stands in one session only: what its rows say, the rows of all sessions say
in_one : (result : List ℕ → Type 0) (h : History) (session : Session) (a : Answer (List ℕ)) → LeftBy our_sessions h session → step_of h ≢ 3
    → (rows : List (ℕ × (History → Type 0))) → ByTable (rows_at h rows) result a → ByTable (rows_of session rows) result a
in_one result h session a l d [] b = b
in_one result h session a l d ((number, holds) ∷ rows) (inl (y, e)) = inl ((h, l, y), e)
in_one result h session a l d ((number, holds) ∷ rows) (inr (n, b)) =
    inr (λ w. n (subst holds (same w.0 w.1) w.2), in_one result h session a l d rows b)
  where
    not_3 : session.step ≢ 3
    not_3 e = d (sym (step_told h session l.begun (left_tells h session l)) ∙ e)

    same : (other : History) → LeftBy our_sessions other session → other ≡ h
    same other m =
        told_session other session m.begun (left_tells other session m) not_3
        ∙ sym (told_session h session l.begun (left_tells h session l) not_3)

-- ---- the session's calls

-- what an accepted call wrote, and in which session
abbrev Taken : Session → Call → List ℕ → Type 0
Taken session call written = (h : History) × Before our_sessions session call h × Awaits h call × Written h call written

-- if the record stands in this session: it is not finished, and the call is answered by its rows
abbrev ByRowsOf : Session → Call → List (ℕ × (History → Type 0)) → History → Type 0
ByRowsOf session call rows h =
    LeftBy our_sessions h session
    → (step_of h ≢ 3) × Before our_sessions session call h
    × ByTable (rows_at h rows) (Written h call) (our_answer session call)

-- row 4, then those of the session
four_or_later : (session : Session) (call : Call) (test : Bool) (rows : List (ℕ × (History → Type 0)))
    → (test ≡ true) ↔ WaitsFor our_sessions session call
    → (test ≡ false → our_answer session call ≡ refused 4) → ((h : History) → Awaits h call → ByRowsOf session call rows h)
    → ByTable ((4, ¬ (WaitsFor our_sessions session call)) ∷ rows_of session rows) (Taken session call) (our_answer session call)
four_or_later session call test rows tells four later =
    ⊎_elim (λ e. inr (λ no!. no! (tells.0 e), waits (tells.0 e))) (λ e. inl (λ w. contrary (tells.1 w) e, four e)) (cases test)
  where
    waits : WaitsFor our_sessions session call → ByTable (rows_of session rows) (Taken session call) (our_answer session call)
    waits (h, l, y) =
        let b = later h y l in
        in_one (Taken session call) h session (our_answer session call) l b.0 rows
        (table_implies (Written h call) (Taken session call) (rows_at h rows) (our_answer session call)
        (λ _ words w. (h, b.1, y, w)) b.2)

-- by the rows of demand 1
advances : (session : Session) (call : Call)
    → ByTable (SessionRows our_sessions session call) (Taken session call) (our_answer session call)
advances session (begin net owners list) =
    table_implies (λ (words : List ℕ). words ≡ first_vectors net) (Taken session (begin net owners list)) (BeginRows net owners list)
    (our_answer session (begin net owners list))
    (λ _ words w. (none, tt, tt, w)) (begin_by_table session net owners list)
advances session (first answers list) =
    let call : Call = first answers list in
    let rows : List (ℕ × (History → Type 0)) =
    (9, λ h. Row9 (length (awaited_vectors h)) (length answers)) ∷ (10, λ h. SessionHighBit h answers)
    ∷ (12, λ h. Row12 (length (second_words h answers)) (length list)) ∷ [] in
    four_or_later session call (awaits_first session) rows (row_four.first_answers session answers list)
    (first_refused session answers list)
    (λ h y. subst (ByRowsOf session call rows) (sym y.3)
    (λ l. (λ e. omega arith, l, (call_by_table session call).in_session (waits_first y.0 y.1 y.2) l)))
advances session (second answers) =
    let call : Call = second answers in
    let rows : List (ℕ × (History → Type 0)) =
    (9, λ h. Row9 (length (awaited_vectors h)) (length answers)) ∷ (10, λ h. SessionHighBit h answers)
    ∷ (14, λ h. ¬ ((state : List ℕ) × FitsAnswers (accepted h call []) state)) ∷ [] in
    four_or_later session call (awaits_second session) rows (row_four.second_answers session answers) (second_refused session answers)
    (λ h y. subst (ByRowsOf session call rows) (sym y.5)
    (λ l. (
      λ e. omega arith,
      l,
      (call_by_table session call).in_session
          (waits_second y.0 y.1 y.2 y.3 y.4) l,
    )))

-- a list of calls and one more
call_appended : (h : History) (start : Session) (calls : List Call) (call : Call) → let session = record_after our_sessions start calls in
    (record_after our_sessions start (calls ++ call ∷ []) ≡ (our_sessions session call).session)
    × (history_from our_sessions h start (calls ++ call ∷ [])
    ≡ extended (history_from our_sessions h start calls) call (our_sessions session call))
call_appended h start [] call = (refl, refl)
call_appended h start (c ∷ calls) call = call_appended (extended h c (our_sessions start c)) (our_sessions start c).session calls call

-- an accepted call leaves no record outside a session
after_begun : (net : Network) (owners v1 r1 v2 nets : List ℕ) → after_first net owners v1 r1 v2 nets ≢ none
after_begun net owners v1 r1 v2 [] = is_begun (finished_first net owners v1 r1 v2) (λ e. omega arith)
after_begun net owners v1 r1 v2 (i ∷ nets) = is_begun (waits_second net owners v1 r1 v2) (λ e. omega arith)

accepted_begun : (h : History) (call : Call) (written : List ℕ) → Awaits h call → accepted h call written ≢ none
accepted_begun h (begin net owners list) written y = is_begun (waits_first net owners written) (λ e. omega arith)
accepted_begun h (first answers list) written (net, owners, v1, q) =
    rw q (after_begun net owners v1 answers written (unclear net owners answers))
accepted_begun h (second answers) written (net, owners, v1, r1, v2, q) =
    rw q (is_begun (finished_second net owners v1 r1 v2 answers) (λ e. omega arith))

-- an accepted call as the last of a list
goes_on : (h : History) (session : Session) (call : Call) (written : List ℕ) → Awaits h call → our_answer session call ≡ full written
    → (start : Session) (calls : List Call) → record_after our_sessions start calls ≡ session → history our_sessions start calls ≡ h
    → LeftBy our_sessions (accepted h call written) (our_sessions session call).session
goes_on h session call written y e start calls leaves in_session = record {
  start = start;
  calls = calls ++ call ∷ [];
  leaves = (call_appended none start calls call).0 ∙ ap (λ (s : Session). (our_sessions s call).session) leaves;
  in_session =
      (call_appended none start calls call).1
      ∙ ap₂ (λ (x : History) (s : Session). extended x call (our_sessions s call)) in_session leaves
      ∙ (goes_through session call written e).1 h
      ∙ ap (accepted h call) (front_written written (lent call));
  begun = accepted_begun h call written y;
}

-- after the calls that left the record; begin starts a list of its own
accepted_leaves : (session : Session) (call : Call) (h : History) (written : List ℕ)
    → Before our_sessions session call h → Awaits h call → our_answer session call ≡ full written
    → LeftBy our_sessions (accepted h call written) (our_sessions session call).session
accepted_leaves session (begin net owners list) h written b y e =
    goes_on none session (begin net owners list) written y e session [] refl refl
accepted_leaves session (first answers list) h written b y e =
    goes_on h session (first answers list) written y e b.start b.calls b.leaves b.in_session
accepted_leaves session (second answers) h written b y e =
    goes_on h session (second answers) written y e b.start b.calls b.leaves b.in_session

-- ---- demand 1

read_call : (file vectors responses : List ℕ) → RefusedOrFull ours (read file vectors responses)
unfolding lent_after
read_call file vectors responses =
    let call : PublicCall = read file vectors responses in
    let f = reads_files file vectors responses in
    let vectors_after : Answer JobContent → List ℕ = λ a. lent_after (vectors_read a) vectors in
    let responses_after : Answer JobContent → List ℕ = λ a. lent_after (responses_read a) responses in
    either (λ (job : JobContent). job ≡ content file) (RefusedWith ours call) (FullResult ours call) (Rows ours call) f.answer
    (λ number e. (f.returned ∙ ap counted e, f.vectors_after ∙ ap vectors_after e, f.responses_after ∙ ap responses_after e))
    (λ job e r. let q = e ∙ ap full r in (
      f.returned ∙ ap counted q,
      f.vectors_after ∙ ap vectors_after q,
      f.responses_after
          ∙ ap responses_after q,
    )) f.allowed

shorten_call : (net : Network) (k : ℕ) (vectors : List ℕ) (allowed : ℕ) (list : List ℕ)
    → RefusedOrFull ours (shorten net k vectors allowed list)
unfolding lent_after
shorten_call net k vectors allowed list =
    let call : PublicCall = shorten net k vectors allowed list in
    let f = shortens net k vectors allowed list in
    let list_after : Answer Shorter → List ℕ = λ a. lent_after (kept_of a) list in
    either (IsShorter net k vectors allowed) (RefusedWith ours call) (FullResult ours call) (Rows ours call) f.answer
    (λ number e. (f.returned ∙ ap shorter_counted e, f.list ∙ ap list_after e))
    (λ result e is. (result, is, f.returned ∙ ap shorter_counted e, f.list ∙ ap list_after e)) f.by_table

advance_call : (session : Session) (call : Call) → RefusedOrFull ours (advance session call)
unfolding lent_after
advance_call session call =
    let list_after : Answer (List ℕ) → List ℕ = λ a. lent_after a (lent call) in
    either (Taken session call) (RefusedWith ours (advance session call)) (FullResult ours (advance session call))
    (Rows ours (advance session call)) (our_answer session call)
    (λ number e. (e, ap list_after e, (call_by_table session call).record_kept number e))
    (λ written e t. (
      t.0,
      written,
      t.1,
      t.3,
      e,
      ap list_after e,
      accepted_leaves session call t.0 written t.1
          t.2 e,
    )) (advances session call)

each_call : (call : PublicCall) → RefusedOrFull ours call
each_call (turn nets vectors list) = fills (Rows ours (turn nets vectors list)) (Exchanged nets vectors) list
    (our_turn nets vectors list) (turns nets vectors list)
each_call (turn_back nets count words list) = fills (Rows ours (turn_back nets count words list)) (Exchanged count words) list
    (our_turn_back nets count words list) (turns_back nets count words list)
each_call (own nets list) = fills (Rows ours (own nets list)) (OwnReceivers nets) list (our_own_receivers nets list) (owns nets list)
each_call (check net k vectors) =
    let call : PublicCall = check net k vectors in
    either (Rule net k vectors) (RefusedWith ours call) (FullResult ours call) (Rows ours call)
    (our_check net k vectors) (λ number e. e) (λ verdict e r. (verdict, r, e))
    (checks_by_rule net k vectors)
each_call (shorten net k vectors allowed list) = shorten_call net k vectors allowed list
each_call (respond net owners k vectors state list) =
    fills (Rows ours (respond net owners k vectors state list)) (Response net state vectors) list
    (our_response net owners k vectors state list) (responds net owners k vectors state list)
each_call (diagnose net owners k vectors responses list) =
    fills (Rows ours (diagnose net owners k vectors responses list)) (Fits net (length owners) k vectors responses) list
    (our_diagnosis net owners k vectors responses list) (diagnoses net owners k vectors responses list).by_table
each_call (find net owners state table) =
    fills (Rows ours (find net owners state table)) (Findings net owners state) table (our_findings net owners state table)
    (finds net owners state table)
each_call (read file vectors responses) = read_call file vectors responses
each_call (write kind net k vectors responses file) =
    fills (Rows ours (write kind net k vectors responses file)) (λ bytes. bytes ≡ file_of kind net k vectors responses) file
    (our_writer kind net k vectors responses file) (writes kind net k vectors responses file)
each_call (advance session call) = advance_call session call
each_call (drive session one two) = inr (tt, drives session one two)

by_its_rows : (call : PublicCall) → map (λ (row : ℕ × Type 0). row.0) (Rows ours call) ≡ numbers call
by_its_rows (own nets list) = refl
by_its_rows (turn nets vectors list) = refl
by_its_rows (turn_back nets count words list) = refl
by_its_rows (check net k vectors) = refl
by_its_rows (shorten net k vectors allowed list) = refl
by_its_rows (respond net owners k vectors state list) = refl
by_its_rows (diagnose net owners k vectors responses list) = refl
by_its_rows (find net owners state table) = refl
by_its_rows (read file vectors responses) = refl
by_its_rows (write kind net k vectors responses file) = refl
by_its_rows (advance session (begin net owners list)) = refl
by_its_rows (advance session (first answers list)) = refl
by_its_rows (advance session (second answers)) = refl
by_its_rows (drive session one two) = refl

pub demand_1 : Demand1 ours
demand_1 = record { each_call = each_call; by_its_rows = by_its_rows }
