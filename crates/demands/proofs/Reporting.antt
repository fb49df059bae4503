-- What our report says of a file.
use Rattle.std.proofs.Common.{ℕ, ◌≤◌, arith, ◌≡◌, refl, sym, ap, ap₂, ◌∙◌, subst, ◌≢◌, inl, inr, ⊎_elim, Bool, true}
use Rattle.std.proofs.Common.{false, cond, List, [], ◌∷◌, ◌++◌, length}
use Rattle.words.specs.Answers.{Answer, refused, full, ByTable, NoneHolds}
use Rattle.words.proofs.Answers.{table_skip, none_front, none_rest}
use Rattle.network.specs.States.{Fits}
use Rattle.network.specs.OwnReceivers.{own_receivers}
use Rattle.network.specs.Rows.{SetRows, BoardSetRows, Row9, HighBit}
use Rattle.network.proofs.Rows.{admitted_set, admitted_receivers}
use Rattle.network.proofs.OwnReceivers.{own_size, own_admitted}
use Rattle.checker.specs.declared.Verdict.{Verdict}
use Rattle.checker.specs.Rule.{verdict}
use Rattle.checker.proofs.Verdicts.{verdict_rule, rule_determined}
use Rattle.checker.proofs.Separation.{apart_one_fits}
use Rattle.diagnosis.specs.Diagnosis.{OwnRows, diagnosis_answer}
use Rattle.checker.proofs.PassedSets.{passed_apart}
use Rattle.diagnosis.proofs.DiagnosisLaws.{diagnosis_by_table}
use Rattle.jobfile.specs.Layout.{body_words, has_responses, file_responses}
use Rattle.reader.proofs.ReaderLaws.{set_of_file}
use Rattle.reader.specs.Reader.{JobContent, content, FileBodyRows, ListRows, ReaderRows, read_answer}
use Rattle.reader.proofs.ReaderLaws.{read_by_table}
use Rattle.listing.specs.Report.{refused_line, verdict_line, net_lines, diagnosis_text, responses_text, content_text, job_text, report}
use Rattle.demands.specs.Demand1.{FirstRow}
use Rattle.demands.specs.Reports.{ReportProgram, Follows, nothing, a_line_a_net, not_passed, no_state, LineOne, Says, Reports}
use Rattle.demands.specs.Programs.{our_report}
use Rattle.demands.proofs.DemandOne.{either}

-- the rows of the reader on responses do not hold, where there are any
abbrev ResponsesAdmitted : JobContent → Type 0
ResponsesAdmitted job = (¬ (Row9 (length job.vectors) (length job.responses))) × (¬ (HighBit job.network.nets job.responses))

module _ (job : JobContent) (admitted : NoneHolds (SetRows job.network job.class job.vectors)) where
  abbrev owners : List ℕ
  owners = own_receivers job.network.nets

  abbrev answer : Answer (List ℕ)
  answer = diagnosis_answer job.network owners job.class job.vectors job.responses 48

  most : job.network.nets ≤ 48
  most = (admitted_set job.network job.class job.vectors admitted).most

  -- row 21 lets own receivers through
  board_admitted : NoneHolds (BoardSetRows job.network owners job.class job.vectors)
  board_admitted = (admitted.0, (admitted_receivers job.network owners (own_admitted job.network most), admitted.1))

  diagnosed : job.responses ≢ [] → ResponsesAdmitted job → Follows job (diagnosis_text job.network answer)
  diagnosed some fine =
      go (subst (λ (m : ℕ). ByTable (OwnRows job.network m job.class job.vectors job.responses 48)
      (Fits job.network m job.class job.vectors job.responses) answer) (own_size job.network.nets)
      (table_skip (Fits job.network (length owners) job.class job.vectors job.responses)
      (BoardSetRows job.network owners job.class job.vectors)
      (OwnRows job.network (length owners) job.class job.vectors job.responses 48) answer board_admitted
      (diagnosis_by_table job.network owners job.class job.vectors job.responses 48)))
    where
      says : (a : Answer (List ℕ)) → answer ≡ a → Follows job (diagnosis_text job.network a)
          → Follows job (diagnosis_text job.network answer)
      says a e f = subst (λ (b : Answer (List ℕ)). Follows job (diagnosis_text job.network b)) (sym e) f

      go : ByTable (OwnRows job.network job.network.nets job.class job.vectors job.responses 48)
          (Fits job.network job.network.nets job.class job.vectors job.responses) answer
          → Follows job (diagnosis_text job.network answer)
      go (inl (nine, e)) = absurd (fine.0 nine)
      go (inr (_, inl (ten, e))) = absurd (fine.1 ten)
      go (inr (_, inr (_, inl (twelve, e)))) = absurd (omega (arith, most, twelve))
      go (inr (_, inr (_, inr (_, inl (thirteen, e))))) = says (refused 13) e (not_passed some thirteen)
      go (inr (_, inr (_, inr (_, inr (passed, inl (fourteen, e)))))) = says (refused 14) e (no_state some passed fourteen)
      go (inr (_, inr (_, inr (_, inr (passed, inr (_, (state, e, fits))))))) = says (full state) e (a_line_a_net some passed state fits)

  follows : (job.responses ≢ [] → ResponsesAdmitted job)
      → Follows job (responses_text job.network job.class job.vectors job.responses)
  follows fine = go job.responses refl
    where
      go : (responses : List ℕ) → job.responses ≡ responses
          → Follows job (responses_text job.network job.class job.vectors responses)
      go [] e = nothing e
      go (word ∷ words) e =
          let some : job.responses ≢ [] = λ none. let z : ◌≡◌ {A = ℕ} 0 1 = cc in omega arith in
          subst (λ (r : List ℕ). Follows job
          (diagnosis_text job.network (diagnosis_answer job.network owners job.class job.vectors r 48))) e
          (diagnosed some (fine some))

-- a file with responses has a third entry
third_entry : (file : List ℕ) → file_responses file ≢ [] → has_responses file ≡ true
unfolding file_responses
third_entry file some = go (has_responses file) some
  where
    go : (b : Bool) → cond b (body_words file 2) [] ≢ [] → b ≡ true
    go true h = refl
    go false h = absurd (h refl)

-- of the reader's rows, those of the test set and those of the lists
module _ (file : List ℕ) where
  abbrev set_rows : List (ℕ × Type 0)
  set_rows = SetRows (content file).network (content file).class (content file).vectors

  set_passed : NoneHolds (ReaderRows file 64 64) → NoneHolds set_rows
  set_passed (_, (_, (_, none))) = set_of_file file (none_front (FileBodyRows file) (ListRows file (content file) 64 64) none)

  lists_passed : NoneHolds (ReaderRows file 64 64) → NoneHolds (ListRows file (content file) 64 64)
  lists_passed (_, (_, (_, none))) = none_rest (FileBodyRows file) (ListRows file (content file) 64 64) none

reached : (file : List ℕ) → NoneHolds (ReaderRows file 64 64) → read_answer file 64 64 ≡ full (content file)
    → LineOne (content file) (report file)
unfolding report content_text content
reached file none e =
    let job = content file in
    let lists = lists_passed file none in
    let fine : job.responses ≢ [] → ResponsesAdmitted job =
    λ some. let third = third_entry file some in (λ row. lists.0 (third, row), λ row. lists.1.0 (third, row)) in
    record {
      verdict = verdict job.network job.class job.vectors;
      by_rule = verdict_rule job.network job.class job.vectors;
      rest = responses_text job.network job.class job.vectors job.responses;
      follows = follows job (set_passed file none) fine;
      whole = ap job_text e;
    }

pub reports : Reports our_report
unfolding report
reports file =
    ⊎_elim inl (λ w. inr (w.0, reached file w.0 w.1))
    (either (λ job. job ≡ content file) (λ number. report file ≡ refused_line number)
    (read_answer file 64 64 ≡ full (content file)) (ReaderRows file 64 64) (read_answer file 64 64)
    (λ number e. ap job_text e) (λ job e same. e ∙ ap full same) (read_by_table file 64 64))

-- ---- nothing is left open

first_row_determined : (rows : List (ℕ × Type 0)) (a b : ℕ) → FirstRow rows a → FirstRow rows b → a ≡ b
first_row_determined [] a b p q = absurd p
first_row_determined ((number, holds) ∷ rows) a b (inl (h, e)) (inl (k, f)) = e ∙ sym f
first_row_determined ((number, holds) ∷ rows) a b (inl (h, e)) (inr (n, q)) = absurd (n h)
first_row_determined ((number, holds) ∷ rows) a b (inr (n, p)) (inl (k, f)) = absurd (n k)
first_row_determined ((number, holds) ∷ rows) a b (inr (n, p)) (inr (m, q)) = first_row_determined rows a b p q

some_row_holds : (rows : List (ℕ × Type 0)) (number : ℕ) → FirstRow rows number → NoneHolds rows → ⊥
some_row_holds [] number p none = absurd p
some_row_holds ((row, holds) ∷ rows) number (inl (h, e)) (n, none) = n h
some_row_holds ((row, holds) ∷ rows) number (inr (m, p)) (n, none) = some_row_holds rows number p none

module _ (job : JobContent) (admitted : NoneHolds (SetRows job.network job.class job.vectors)) where
  follows_determined : (a b : List ℕ) → Follows job a → Follows job b → a ≡ b
  follows_determined _ _ (nothing e) (nothing f) = refl
  follows_determined _ _ (nothing e) (not_passed some row) = absurd (some e)
  follows_determined _ _ (nothing e) (no_state some passed row) = absurd (some e)
  follows_determined _ _ (nothing e) (a_line_a_net some passed state fits) = absurd (some e)
  follows_determined _ _ (not_passed some row) (nothing f) = absurd (some f)
  follows_determined _ _ (not_passed some row) (not_passed more other) = refl
  follows_determined _ _ (not_passed some row) (no_state more passed other) = absurd (passed row)
  follows_determined _ _ (not_passed some row) (a_line_a_net more passed state fits) = absurd (passed row)
  follows_determined _ _ (no_state some passed row) (nothing f) = absurd (some f)
  follows_determined _ _ (no_state some passed row) (not_passed more other) = absurd (passed other)
  follows_determined _ _ (no_state some passed row) (no_state more again other) = refl
  follows_determined _ _ (no_state some passed row) (a_line_a_net more again state fits) = absurd (row (state, fits))
  follows_determined _ _ (a_line_a_net some passed state fits) (nothing f) = absurd (some f)
  follows_determined _ _ (a_line_a_net some passed state fits) (not_passed more other) = absurd (passed other)
  follows_determined _ _ (a_line_a_net some passed state fits) (no_state more again other) = absurd (other (state, fits))
  follows_determined _ _ (a_line_a_net some passed state fits) (a_line_a_net more again other gives) =
      ap (λ (s : List ℕ). net_lines job.network s 0 job.network.nets)
      (apart_one_fits job.network job.network.nets job.class job.vectors
      (passed_apart job.network job.class job.vectors
      (admitted_set job.network job.class job.vectors admitted) passed)
      job.responses state other fits gives)

  line_one_determined : (a b : List ℕ) → LineOne job a → LineOne job b → a ≡ b
  line_one_determined a b p q =
      p.whole
      ∙ ap₂ (λ (v : Verdict) (rest : List ℕ). verdict_line job.network job.class (length job.vectors) v ++ rest)
      (rule_determined job.network job.class job.vectors p.verdict q.verdict p.by_rule q.by_rule)
      (follows_determined p.rest q.rest p.follows q.follows)
      ∙ sym q.whole

pub report_determined : (p q : ReportProgram) → Reports p → Reports q → (file : List ℕ) → p file ≡ q file
report_determined p q f g file = go (f file) (g file)
  where
    go : Says file (p file) → Says file (q file) → p file ≡ q file
    go (inl (n, first, e)) (inl (m, other, d)) = e ∙ ap refused_line (first_row_determined (ReaderRows file 64 64) n m first other) ∙ sym d
    go (inl (n, first, e)) (inr (none, line)) = absurd (some_row_holds (ReaderRows file 64 64) n first none)
    go (inr (none, line)) (inl (m, other, d)) = absurd (some_row_holds (ReaderRows file 64 64) m other none)
    go (inr (none, line)) (inr (_, other)) =
        line_one_determined (content file) (set_passed file none) (p file) (q file) line other
