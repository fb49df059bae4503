-- What the report's parts say of one another: the reader's answer and the diagnosis, and how long line one is.
use Rattle.std.proofs.Common.{ℕ, ◌≤◌, arith, ◌≡◌, refl, sym, ap, ap₂, ◌∙◌, subst, subst₂, ◌≢◌, List, [], ◌∷◌, length}
use Rattle.std.proofs.Common.{take, replicate, length-append}
use Rattle.words.specs.Answers.{Answer, refused, full, ByTable, NoneHolds, lent_after, count_of}
use Rattle.words.proofs.Classes.{ones_at_most}
use Rattle.words.proofs.Answers.{table_full, front_written, written_fits, counted_refused, counted_full, table_none_holds}
use Rattle.words.proofs.Answers.{none_front}
use Rattle.network.specs.declared.Network.{Network}
use Rattle.network.specs.States.{State, Fits}
use Rattle.network.specs.Rows.{SetRows, BoardSetRows, AdmittedBoard}
use Rattle.network.specs.OwnReceivers.{own_receivers}
use Rattle.network.proofs.OwnReceivers.{own_size}
use Rattle.checker.specs.declared.Verdict.{Verdict}
use Rattle.checker.specs.declared.Verdict.TheVariants.{Pass, Pair}
use Rattle.checker.specs.Rule.{verdict}
use Rattle.diagnosis.specs.Diagnosis.{OwnRows, DiagnosisRows, diagnosis_answer}
use Rattle.diagnosis.proofs.DiagnosisLaws.{diagnosis_by_table}
use Rattle.reader.specs.declared.Job.{Job}
use Rattle.std.specs.Prelude.{Result, Ok, Err}
use Rattle.network.specs.declared.refusal.Refusal.{Refusal}
use Rattle.network.specs.Refusing.{row_number, answer_of}
use Rattle.reader.specs.Reader.{JobContent, content, FileBodyRows, ListRows, ReaderRows, read_answer, vectors_read, responses_read, counted}
use Rattle.reader.proofs.ReaderLaws.{read_by_table, set_of_file}
use Rattle.reader.proofs.ReaderAnswers.{read_counted_refused, read_counted_full}
use Rattle.decimal.proofs.Numerals.{numbers_most}
use Rattle.listing.proofs.NetsPut.{lines_most}
use Rattle.listing.specs.Report.{refused_line, verdict_line, diagnosis_text, responses_text, content_text, job_text, report}

-- ---- the diagnosis

-- a list that own receivers are written into has them at its front
pub own_front : (nets : ℕ) (lent list : List ℕ) → list ≡ lent_after (full (own_receivers nets)) lent
    → take nets list ≡ own_receivers nets
own_front nets lent list e =
    ap (λ (a : List ℕ). take nets a) e
    ∙ ap (λ (n : ℕ). take n (lent_after (full (own_receivers nets)) lent)) (sym (own_size nets))
    ∙ front_written (own_receivers nets) lent

-- a state of any class is one of class n
wider : (net : Network) (m k : ℕ) (state : List ℕ) → State net m k state → State net m net.nets state
wider net m k state s = record {
  size = s.size;
  reach = λ i l. record { inside = (s.reach i l).inside; few = ones_at_most net.nets _ };
  meet_only_if_equal = s.meet_only_if_equal;
}

-- the board of a test set that is admitted
board_of_set : (net : Network) (owners : List ℕ) (k : ℕ) (vectors : List ℕ)
    → NoneHolds (BoardSetRows net owners k vectors)
    → AdmittedBoard net owners
board_of_set net owners k vectors (five, (receivers, (_, (level, (gate, _))))) =
    (five, (receivers, (level, (gate, tt))))

-- the call's answer, for nets with one receiver each
module _ (net : Network) (k : ℕ) (vectors responses lent list : List ℕ) (answer : Result ℕ Refusal) where
  abbrev own : List ℕ
  own = own_receivers net.nets

  abbrev outcome : Answer (List ℕ)
  outcome = diagnosis_answer net own k vectors responses (length lent)

  pub diagnosis_refused : (refusal : Refusal) → answer_of answer ≡ count_of outcome → answer ≡ Err refusal
      → outcome ≡ refused (row_number refusal)
  diagnosis_refused refusal e r = counted_refused outcome (row_number refusal) (sym e ∙ ap answer_of r)

  -- an accepted diagnosis: what was written is a state of the board
  pub diagnosis_wrote : (count : ℕ) → answer_of answer ≡ count_of outcome → list ≡ lent_after outcome lent → answer ≡ Ok count
      → (outcome ≡ full (take net.nets list)) × AdmittedBoard net own × State net (length own) net.nets (take net.nets list)
  diagnosis_wrote count e l w =
      let m = length own in
      let rows = DiagnosisRows net own k vectors responses (length lent) in
      let found = counted_full outcome count (sym e ∙ ap answer_of w) in
      let state : List ℕ = found.0 in
      let allowed : ByTable rows (Fits net m k vectors responses) (full state) =
      subst (ByTable rows (Fits net m k vectors responses)) found.1
      (diagnosis_by_table net own k vectors responses (length lent)) in
      let fits : Fits net m k vectors responses state =
      table_full (Fits net m k vectors responses) rows state allowed in
      let front : take net.nets list ≡ state =
      ap (λ (a : List ℕ). take net.nets a) (l ∙ ap (λ (a : Answer (List ℕ)). lent_after a lent) found.1)
      ∙ ap (λ (n : ℕ). take n (lent_after (full state) lent)) (sym (fits.of_class.size ∙ own_size net.nets))
      ∙ front_written state lent in
      let is_state : State net m net.nets (take net.nets list) =
      subst (State net m net.nets) (sym front) (wider net m k state fits.of_class) in
      let board = board_of_set net own k vectors
      (none_front (BoardSetRows net own k vectors) (OwnRows net m k vectors responses (length lent))
      (table_none_holds (Fits net m k vectors responses) rows state allowed)) in
      (found.1 ∙ ap full (sym front), board, is_state)

-- ---- line one

-- it has at most 110 bytes
verdict_most : (net : Network) (k count : ℕ) (verdict : Verdict) → length (verdict_line net k count verdict) ≤ 110
unfolding verdict_line
verdict_most net k count Pass = let most = numbers_most (net.nets ∷ k ∷ count ∷ []) in omega arith
verdict_most net k count (Pair x y) = let most = numbers_most (net.nets ∷ k ∷ count ∷ x ∷ y ∷ []) in omega arith

-- and a refusal 29
pub refused_most : (number : ℕ) → length (refused_line number) ≤ 29
unfolding refused_line
refused_most number = let most = numbers_most (number ∷ []) in omega arith

-- ---- what follows it

module _ (net : Network) (k : ℕ) (vectors : List ℕ) where
  pub nothing_follows : (responses : List ℕ) → length responses ≡ 0 → responses_text net k vectors responses ≡ []
  nothing_follows [] e = refl
  nothing_follows (word ∷ words) e = absurd (omega arith)

  pub diagnosis_follows : (responses : List ℕ) → length responses ≢ 0
      → responses_text net k vectors responses
      ≡ diagnosis_text net (diagnosis_answer net (own_receivers net.nets) k vectors responses 48)
  diagnosis_follows [] e = absurd (e refl)
  diagnosis_follows (word ∷ words) e = refl

-- ---- all of it

-- the text has room for it: 110 bytes, and 84 for each of 48 nets
module _ (net : Network) (few : net.nets ≤ 48) where
  diagnosis_most : (said : Answer (List ℕ)) → length (diagnosis_text net said) ≤ 4032
  diagnosis_most (refused number) = let most = refused_most number in omega arith
  diagnosis_most (full state) = let most = lines_most net state 0 net.nets in omega arith

  responses_most : (k : ℕ) (vectors responses : List ℕ) → length (responses_text net k vectors responses) ≤ 4032
  responses_most k vectors [] = omega arith
  responses_most k vectors (word ∷ words) =
      diagnosis_most (diagnosis_answer net (own_receivers net.nets) k vectors (word ∷ words) 48)

pub content_most : (net : Network) (k : ℕ) (vectors responses : List ℕ) → net.nets ≤ 48
    → length (content_text net k vectors responses) ≤ 4142
unfolding content_text
content_most net k vectors responses few =
    let line = verdict_most net k (length vectors) (verdict net k vectors) in
    let more = responses_most net few k vectors responses in
    let both = length-append (verdict_line net k (length vectors) (verdict net k vectors)) (responses_text net k vectors responses) in
    omega arith

-- ---- the reader's answer

-- what the report knows of a file that was read, and of the two lists
pub record ReadContent (file : List ℕ) (job : Job) (vectors responses : List ℕ) : Type 0 where
  pub vectors_room : job.vectors ≤ length vectors
  pub responses_room : job.responses ≤ length responses
  pub admitted : NoneHolds (SetRows job.network job.class (take job.vectors vectors))
  pub text : report file ≡ content_text job.network job.class (take job.vectors vectors) (take job.responses responses)

pub read_refused : (file : List ℕ) (answer : Result Job Refusal) (refusal : Refusal) → answer ≡ Err refusal
    → answer_of answer ≡ counted (read_answer file 64 64)
    → report file ≡ refused_line (row_number refusal)
unfolding report
read_refused file answer refusal r e =
    ap job_text (read_counted_refused (read_answer file 64 64) (row_number refusal) (sym e ∙ ap answer_of r))

module _ (file : List ℕ) where
  -- the test set of a file that is read is admitted
  set_admitted : (c : JobContent) → read_answer file 64 64 ≡ full c → NoneHolds (SetRows c.network c.class c.vectors)
  set_admitted c e =
      let by_rows : ByTable (ReaderRows file 64 64) (λ x. x ≡ content file) (full c) =
      subst (ByTable (ReaderRows file 64 64) (λ x. x ≡ content file)) e (read_by_table file 64 64) in
      let set = set_of_file file (none_front (FileBodyRows file) (ListRows file (content file) 64 64)
      (table_none_holds (λ x. x ≡ content file) (ReaderRows file 64 64) c by_rows).1.1.1) in
      subst (λ (x : JobContent). NoneHolds (SetRows x.network x.class x.vectors))
      (sym (table_full (λ x. x ≡ content file) (ReaderRows file 64 64) c by_rows)) set

  content_read : (job : Job) (c : JobContent) → read_answer file 64 64 ≡ full c
      → record {
        network = c.network;
        class = c.class;
        kind = c.kind;
        vectors = length c.vectors;
        responses = length c.responses;
      } ≡ job
      → ReadContent file job (lent_after (full c.vectors) (replicate 64 0)) (lent_after (full c.responses) (replicate 64 0))
  unfolding report
  content_read job c e same =
      let vectors = front_written c.vectors (replicate 64 0) in
      let responses = front_written c.responses (replicate 64 0) in
      subst (λ (j : Job). ReadContent file j (lent_after (full c.vectors) (replicate 64 0))
      (lent_after (full c.responses) (replicate 64 0))) same
      (record {
        vectors_room = written_fits c.vectors (replicate 64 0);
        responses_room = written_fits c.responses (replicate 64 0);
        admitted = subst (λ (v : List ℕ). NoneHolds (SetRows c.network c.class v)) (sym vectors) (set_admitted c e);
        text = ap job_text e ∙ ap₂ (λ (v w : List ℕ). content_text c.network c.class v w) (sym vectors) (sym responses);
      })

pub read_content : (file : List ℕ) (answer : Result Job Refusal) (job : Job) (vectors responses : List ℕ) → answer ≡ Ok job
    → answer_of answer ≡ counted (read_answer file 64 64)
    → vectors ≡ lent_after (vectors_read (read_answer file 64 64)) (replicate 64 0)
    → responses ≡ lent_after (responses_read (read_answer file 64 64)) (replicate 64 0) → ReadContent file job vectors responses
read_content file answer job vectors responses r e v w =
    let c = read_counted_full (read_answer file 64 64) job (sym e ∙ ap answer_of r) in
    subst₂ (λ (a b : List ℕ). ReadContent file job a b)
    (sym (v ∙ ap (λ (a : Answer JobContent). lent_after (vectors_read a) (replicate 64 0)) c.1))
    (sym (w ∙ ap (λ (a : Answer JobContent). lent_after (responses_read a) (replicate 64 0)) c.1))
    (content_read file job c.0 c.1 c.2)
