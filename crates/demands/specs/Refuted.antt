-- Wrong programs that the demands shut out.
use Rattle.std.specs.Prelude.{ℕ, suc, ◌-◌, min, Bool, true, not, cond, ◌&&◌, List, [], ◌∷◌, ◌++◌, map, reverse, eqb, length, take, drop, replicate}
use Rattle.words.specs.Answers.{Answer, refused, full, by_tests, lent_after, count_of, Filled}
use Rattle.words.specs.Bits.{at, word}
use Rattle.words.specs.Turning.{tabulate}
use Rattle.words.specs.Searching.{passing}
use Rattle.network.specs.Respond.{response_answer}
use Rattle.network.specs.declared.Network.{Network}
use Rattle.network.specs.Reading.{network_of}
use Rattle.checker.specs.declared.Verdict.TheVariants.{Pass, Pair}
use Rattle.checker.specs.Passed.{passes}
use Rattle.diagnosis.specs.ReadBack.{read_back}
use Rattle.diagnosis.specs.Diagnosis.{diagnosis_answer}
use Rattle.shorter.specs.Shorter.{without, trials, tried, floor}
use Rattle.shorter.specs.Shorten as Shorten
use Rattle.findings.specs.FindingsTable.{findings_answer, blank}
use Rattle.session.specs.declared.Session.{Session}
use Rattle.session.specs.Record.{awaiting_first, finished, held_owners, held_answers, awaits_second}
use Rattle.session.specs.Calls.{stepped, vectors_driven}
use Rattle.turning.specs.Turn.{turn_tests, turn_back_tests}
use Rattle.scan_chain.specs.Scans.{scans, contents, all_zero, scanned, clocks}
use Rattle.scan_chain.specs.Responses.{shifted_out, responses}
use Rattle.scan_chain.specs.Calls.{write_tests, read_tests}
use Rattle.jobfile.specs.Bytes.{word_bytes}
use Rattle.jobfile.specs.VectorsBody.{lead_bytes}
use Rattle.reader.specs.Reader.{read_answer, vectors_read, responses_read, counted}
use Rattle.writer.specs.Writer.{head_of, bodies_of, file_of, writer_tests}
use Rattle.demands.specs.Demand2.{ResponseProgram, Responds, DiagnosisProgram, Diagnoses}
use Rattle.demands.specs.FindingsCall.{FindingsProgram, Finds}
use Rattle.demands.specs.TurnCalls.{TurnProgram, TurnBackProgram, Turns, TurnsBack, ThereAndBack}
use Rattle.demands.specs.ClockCalls.{WriteClocksProgram, ReadClocksProgram}
use Rattle.demands.specs.JobFiles.{WriterProgram, Writes, ReaderProgram, Reads, Exact, ReadsExchanged, of_kind}
use Rattle.demands.specs.JobFiles.{KindsReadAlike, SizeLimits}
use Rattle.demands.specs.Reports.{ReportProgram, KindsReportAlike}
use Rattle.demands.specs.KindTwo.{KindTwoAsBefore}
use Rattle.demands.specs.SessionCalls.{begin, first, second, lent, SessionProgram}
use Rattle.demands.specs.Demand3.{CheckProgram, Checks, Sessions}
use Rattle.demands.specs.ShortenCall.{ShortenProgram, Shortens}
use Rattle.demands.specs.Demand1.{Programs, Demand1}
use Rattle.demands.specs.Programs.{our_turn, our_turn_back, our_reader, our_writer, our_report, our_answer, our_new}
use Rattle.demands.specs.Programs.{our_write_clocks, our_read_clocks, our_diagnosis, our_sessions, ours}

-- ---- checkers

abbrev pub passes_all_sets : CheckProgram
passes_all_sets net k vectors = full Pass

abbrev pub shows_one_pair : ℕ → ℕ → CheckProgram
shows_one_pair a b net k vectors = full (Pair a b)

abbrev pub refuses_every_set : ℕ → CheckProgram
refuses_every_set number net k vectors = refused number

-- ---- shorter sets: our rows, and another result

-- a result: the vectors kept and the checks made, by the set given and the checks allowed
abbrev pub ShortenRule : Type 0
ShortenRule = Network → (k : ℕ) → (vectors : List ℕ) → (allowed : ℕ) → List ℕ × ℕ

-- a program by a rule, and by what it makes of the floor
abbrev pub shortens_with : ShortenRule → (ℕ → ℕ) → ShortenProgram
shortens_with rule other net k vectors allowed lent =
    let end = rule net k vectors allowed in
    let result : Shorten.Shorter = record { kept = end.0; checks = end.1; floor = other (floor net k) } in
    let rows = Shorten.small_class_tests net k vectors ++ Shorten.own_tests net k vectors (length lent) in
    let answer = by_tests rows result in
    record { returned = Shorten.counted answer; list = lent_after (Shorten.kept_of answer) lent }

abbrev pub shortens_by : ShortenRule → ShortenProgram
shortens_by rule = shortens_with rule (λ q. q)

abbrev pub our_rule : ShortenRule
our_rule net k vectors allowed = let end = tried net k vectors allowed in (end.kept, end.checks)

-- from the first vector to the last
abbrev pub first_to_last : ShortenRule
first_to_last net k vectors allowed = let end = our_rule net k (reverse vectors) allowed in (reverse end.0, end.1)

-- the check of the set given is counted
abbrev pub counts_first_check : ShortenRule
counts_first_check net k vectors allowed = let end = our_rule net k vectors allowed in (end.0, suc end.1)

-- each removal is tried on the set given: every vector without which that set is passed is dropped, whatever the checks
-- allowed
abbrev pub tries_whole_set : ShortenRule
tries_whole_set net k vectors allowed =
    let needed = passing (λ t. not (passes net k (without t vectors))) (length vectors) in
    (map (at vectors) needed, min allowed (length vectors))

-- everything is kept, and no check is made
abbrev pub tries_nothing : ShortenRule
tries_nothing net k vectors allowed = (vectors, 0)

-- each vector that a check is left for is dropped, though the rest is not passed
abbrev pub drops_unchecked : ShortenRule
drops_unchecked net k vectors allowed =
    let end = trials (λ _. true) (length vectors) allowed vectors in (end.kept, end.checks)

-- another floor, one too high or one too low
abbrev pub with_floor : (ℕ → ℕ) → ShortenProgram
with_floor other = shortens_with our_rule other

-- the rest of the list is cleared
abbrev pub kept_and_zeros : Answer (List ℕ) → List ℕ → List ℕ
kept_and_zeros (refused number) lent = lent
kept_and_zeros (full kept) lent = kept ++ map (λ _. 0) (drop (length kept) lent)

abbrev pub clears_rest : ShortenProgram
clears_rest net k vectors allowed lent =
    let answer = Shorten.shorten_answer net k vectors allowed (length lent) in
    record { returned = Shorten.counted answer; list = kept_and_zeros (Shorten.kept_of answer) lent }

-- the set given is written into the list first, and the vectors kept over its front
abbrev pub leaves_given : ShortenProgram
leaves_given net k vectors allowed lent =
    let answer = Shorten.shorten_answer net k vectors allowed (length lent) in
    record {
      returned = Shorten.counted answer;
      list = lent_after (Shorten.kept_of answer) (lent_after (full vectors) lent);
    }

-- ---- responses from a state: a right answer, and the list wrong

-- the list is left as lent
abbrev pub writes_nothing : ResponseProgram
writes_nothing net owners k vectors state lent =
    record { returned = count_of (response_answer net owners k vectors state (length lent)); list = lent }

-- the tail is cut off
abbrev pub drops_tail : ResponseProgram
drops_tail net owners k vectors state lent =
    let answer = response_answer net owners k vectors state (length lent) in
    record { returned = count_of answer; list = take (length vectors) (lent_after answer lent) }

-- a refused call clears the list
abbrev pub clears_list : {A : Type 0} → A → Answer (List A) → List A → List A
clears_list blank (refused number) lent = map (λ _. blank) lent
clears_list blank (full entries) lent = entries ++ drop (length entries) lent

abbrev pub writes_when_refused : ResponseProgram
writes_when_refused net owners k vectors state lent =
    let answer = response_answer net owners k vectors state (length lent) in
    record { returned = count_of answer; list = clears_list 0 answer lent }

abbrev pub refuses_every_state : ℕ → ResponseProgram
refuses_every_state number net owners k vectors state lent = record { returned = refused number; list = lent }

-- ---- diagnoses

-- "no state fits" said before looking
abbrev pub says_14 : DiagnosisProgram
says_14 net owners k vectors responses lent = record { returned = refused 14; list = lent }

-- a right answer, and the list left as lent
abbrev pub reads_nothing_back : DiagnosisProgram
reads_nothing_back net owners k vectors responses lent =
    record { returned = count_of (diagnosis_answer net owners k vectors responses (length lent)); list = lent }

-- reaches that meet and differ are accepted
abbrev pub accepts_conflicts : DiagnosisProgram
accepts_conflicts net owners k vectors responses lent =
    let answer = full (read_back net (length owners) k vectors responses) in
    record { returned = count_of answer; list = lent_after answer lent }

abbrev pub refuses_every_response : ℕ → DiagnosisProgram
refuses_every_response number net owners k vectors responses lent = record { returned = refused number; list = lent }

-- ---- findings: a right answer, and the table wrong

-- the table is left as lent
abbrev pub finds_nothing : FindingsProgram
finds_nothing net owners state lent = record { returned = count_of (findings_answer net owners state (length lent)); list = lent }

-- the last record is not written
abbrev pub but_the_last : {A : Type 0} → Answer (List A) → List A → List A
but_the_last (refused number) lent = lent
but_the_last (full entries) lent = let count = length entries - 1 in take count entries ++ drop count lent

abbrev pub one_record_short : FindingsProgram
one_record_short net owners state lent =
    let answer = findings_answer net owners state (length lent) in
    record { returned = count_of answer; list = but_the_last answer lent }

-- a refused call clears the table
abbrev pub clears_when_refused : FindingsProgram
clears_when_refused net owners state lent =
    let answer = findings_answer net owners state (length lent) in
    record { returned = count_of answer; list = clears_list blank answer lent }

-- ---- sessions

-- the state is guessed from the first answers, whatever the second ones are; what is answered to those is given
abbrev pub guesses_answering : (Session → List ℕ → Answer (List ℕ)) → (Network → List ℕ → List ℕ) → SessionProgram
guesses_answering answer_second guess session (begin net owners list) = our_sessions session (begin net owners list)
guesses_answering answer_second guess session (first answers list) = our_sessions session (first answers list)
guesses_answering answer_second guess session (second answers) = record {
  answer = answer_second session answers;
  list = [];
  session = (stepped (answer_second session answers)
      (finished session.network (held_owners session) (guess session.network (held_answers session))
      (length (vectors_driven session)))
      session).session;
}

-- our answer: it looks at the second answers to refuse
abbrev pub guesses : (Network → List ℕ → List ℕ) → SessionProgram
guesses guess = guesses_answering (λ session answers. our_answer session (second answers)) guess

-- the second answers are not looked at: accepted, whatever they are and however many, where the record waits for them
abbrev pub ignores_second_answers : (Network → List ℕ → List ℕ) → SessionProgram
ignores_second_answers guess = guesses_answering (λ session answers. cond (awaits_second session) (full []) (refused 4)) guess

-- a finished record holds a count of the program's own
abbrev pub recounted : ℕ → Session → Session
recounted count session = record {
  step = session.step;
  network = session.network;
  receivers = session.receivers;
  owners = session.owners;
  first = session.first;
  reaches = session.reaches;
  spent = cond (eqb session.step 3) count session.spent;
}

abbrev pub counts_itself : ℕ → SessionProgram
counts_itself count session call = record {
  answer = our_answer session call;
  list = (our_sessions session call).list;
  session = recounted count (our_sessions session call).session;
}

abbrev pub refuses_every_begin : ℕ → SessionProgram
refuses_every_begin number session (begin net owners list) = record { answer = refused number; list = list; session = session }
refuses_every_begin number session (first answers list) = our_sessions session (first answers list)
refuses_every_begin number session (second answers) = our_sessions session (second answers)

-- a vector is written though no net is unclear, and is not counted
abbrev pub one_more : Answer (List ℕ) → Answer (List ℕ)
one_more (refused number) = refused number
one_more (full []) = full (0 ∷ [])
one_more (full (word ∷ words)) = full (word ∷ words)

abbrev pub writes_uncounted : SessionProgram
writes_uncounted session (begin net owners list) = our_sessions session (begin net owners list)
writes_uncounted session (first answers list) = record {
  answer = one_more (our_answer session (first answers list));
  list = lent_after (one_more (our_answer session (first answers list))) list;
  session = (our_sessions session (first answers list)).session;
}
writes_uncounted session (second answers) = our_sessions session (second answers)

-- the list is left as lent
abbrev pub writes_no_vectors : SessionProgram
writes_no_vectors session call = record { answer = our_answer session call; list = lent call; session = (our_sessions session call).session }

-- ---- turning: our rows, and the words that were given; rows and columns are not exchanged

abbrev pub fills_with : Answer (List ℕ) → List ℕ → Filled ℕ
fills_with answer lent = record { returned = count_of answer; list = lent_after answer lent }

abbrev pub copies_vectors : TurnProgram
copies_vectors nets vectors lent = fills_with (by_tests (turn_tests nets vectors (length lent)) vectors) lent

abbrev pub copies_words : TurnBackProgram
copies_words nets count words lent = fills_with (by_tests (turn_back_tests nets count words (length lent)) words) lent

-- ---- job files

-- the kind is not asked for: every file is of kind 2
abbrev pub ignores_kind : WriterProgram
ignores_kind kind net k vectors responses lent = our_writer 2 net k vectors responses lent

-- the words of a file of kind 4 are the vectors themselves
abbrev pub parallel_body : (kind : ℕ) → List ℕ → List ℕ
parallel_body kind vectors = lead_bytes kind (length vectors) ++ word_bytes vectors

abbrev pub writes_parallel : WriterProgram
writes_parallel kind net k vectors responses lent =
    let body = parallel_body kind vectors in
    let file = head_of kind (length body) responses ++ bodies_of net k body responses in
    fills_with (by_tests (writer_tests kind net k vectors responses (length lent)) file) lent

-- the kind is not named: every file is told to be of kind 2
abbrev pub names_kind_2 : ReaderProgram
names_kind_2 file vectors responses =
    let did = our_reader file vectors responses in
    record { returned = of_kind 2 did.returned; vectors = did.vectors; responses = did.responses }

-- ---- turning and job files: right, but for the most nets and vectors, or the longest files

-- a right answer, and here the list left as lent
abbrev pub left_as_lent : {A : Type 0} → Bool → Filled A → List A → Filled A
left_as_lent here did lent = cond here (record { returned = did.returned; list = lent }) did

-- with 48 nets and 64 vectors nothing is written
abbrev pub turns_but_most : TurnProgram
turns_but_most nets vectors lent =
    left_as_lent (eqb nets 48 && eqb (length vectors) 64) (our_turn nets vectors lent) lent

abbrev pub turns_back_but_most : TurnBackProgram
turns_back_but_most nets count words lent =
    left_as_lent (eqb nets 48 && eqb count 64) (our_turn_back nets count words lent) lent

-- of a file with so many bytes no vectors are read; it is not written; and nothing is reported of it. The most are
-- 1,060 of kind 2 and 933 of kind 4
abbrev pub reads_but : ℕ → ReaderProgram
reads_but size file vectors responses =
    let did = our_reader file vectors responses in
    cond (eqb (length file) size) (record { returned = did.returned; vectors = vectors; responses = did.responses }) did

abbrev pub writes_but : ℕ → WriterProgram
writes_but size kind net k vectors responses lent =
    left_as_lent (eqb (length (file_of kind net k vectors responses)) size) (our_writer kind net k vectors responses lent) lent

abbrev pub reports_but : ℕ → ReportProgram
reports_but size file = cond (eqb (length file) size) [] (our_report file)

-- a file of so many bytes is accepted, as one of this kind, whatever it holds
abbrev pub accepts_longer : (size kind : ℕ) → ReaderProgram
accepts_longer size kind file vectors responses =
    cond (eqb (length file) size)
    (record {
      returned = full (record { network = network_of 2; class = 1; kind = kind; vectors = 0; responses = 0 });
      vectors = vectors;
      responses = responses;
    })
    (our_reader file vectors responses)

-- ---- clocks: our rows, and other bytes or words

-- bytes by the number of cells, the drivers' cells and the vectors
abbrev pub writes_as : (ℕ → (drivers vectors : List ℕ) → List ℕ) → WriteClocksProgram
writes_as bytes nets owners vectors cells drivers receivers lent =
    fills_with (by_tests (write_tests nets owners vectors cells drivers receivers (length lent)) (bytes cells drivers vectors)) lent

-- no scan repeats the last vector
abbrev pub no_last_scan : ℕ → (drivers vectors : List ℕ) → List ℕ
no_last_scan cells drivers vectors = scans (map (contents cells drivers all_zero) vectors)

-- all cells but the drivers' get 1
abbrev pub ones_elsewhere : ℕ → (drivers vectors : List ℕ) → List ℕ
ones_elsewhere cells drivers vectors = clocks cells drivers (replicate cells 1) vectors

-- the last cell's bit is shifted first
abbrev pub last_cell_first : ℕ → (drivers vectors : List ℕ) → List ℕ
last_cell_first cells drivers vectors = scans (map (λ vector. reverse (contents cells drivers all_zero vector)) (scanned vectors))

-- what a scan shifts out is taken for the response to its own vector
abbrev pub reads_own_scan : ReadClocksProgram
reads_own_scan nets owners count cells drivers receivers tdo lent =
    fills_with (by_tests (read_tests nets owners count cells drivers receivers tdo (length lent))
    (tabulate count (λ t. word (map (shifted_out cells tdo t) receivers)))) lent

-- a byte above 1 is read as 0
abbrev pub at_most_one : ℕ → ℕ
at_most_one byte = cond (eqb byte 1) 1 0

abbrev pub reads_every_byte : ReadClocksProgram
reads_every_byte nets owners count cells drivers receivers tdo lent =
    fills_with (by_tests (read_tests nets owners count cells drivers receivers (map at_most_one tdo) (length lent))
    (responses cells receivers count tdo)) lent

-- ---- clocks: right, but for 48 nets, 64 receivers, 64 vectors and 200 cells, where nothing is written, read or found

abbrev pub most : (nets : ℕ) → (owners : List ℕ) → (count : ℕ) → Bool
most nets owners count = eqb nets 48 && (eqb (length owners) 64 && eqb count 64)

abbrev pub writes_but_most : WriteClocksProgram
writes_but_most nets owners vectors cells drivers receivers lent =
    cond (most nets owners (length vectors) && eqb cells 200) (record { returned = full 0; list = lent })
    (our_write_clocks nets owners vectors cells drivers receivers lent)

abbrev pub reads_but_most : ReadClocksProgram
reads_but_most nets owners count cells drivers receivers tdo lent =
    cond (most nets owners count && eqb cells 200) (record { returned = full 0; list = lent })
    (our_read_clocks nets owners count cells drivers receivers tdo lent)

-- at one gate and level
abbrev pub diagnoses_but_most : (level gate : ℕ) → DiagnosisProgram
diagnoses_but_most level gate net owners k vectors responses lent =
    cond (most net.nets owners (length vectors) && (eqb net.level level && eqb net.gate gate))
    (record { returned = refused 14; list = lent }) (our_diagnosis net owners k vectors responses lent)

-- ---- demand 1: our programs, with another reader and other session calls

abbrev pub ours_but : ReaderProgram → SessionProgram → Programs
ours_but reader sessions = record {
  owns = ours.owns;
  turns = ours.turns;
  turns_back = ours.turns_back;
  checks = ours.checks;
  shortens = ours.shortens;
  responds = ours.responds;
  diagnoses = ours.diagnoses;
  finds = ours.finds;
  reads = reader;
  writes = ours.writes;
  advances = sessions;
  drives = ours.drives;
}

-- a refused call clears the first list
abbrev pub clears_vectors : ReaderProgram
clears_vectors file vectors responses =
    let answer = read_answer file (length vectors) (length responses) in
    record {
      returned = counted answer;
      vectors = clears_list 0 (vectors_read answer) vectors;
      responses = lent_after (responses_read answer) responses;
    }

-- a refused call puts the record back to step one
abbrev pub starts_again : SessionProgram
starts_again session call = record {
  answer = our_answer session call;
  list = (our_sessions session call).list;
  session = (stepped (our_answer session call) (our_new session call) (awaiting_first session.network (held_owners session))).session;
}

pub record Refuted : Type 0 where
  pub passes_all : ¬ (Checks passes_all_sets)
  pub one_pair : (a b : ℕ) → ¬ (Checks (shows_one_pair a b))
  pub refuses_sets : (number : ℕ) → ¬ (Checks (refuses_every_set number))
  pub from_the_first : ¬ (Shortens (shortens_by first_to_last))
  pub first_check_counted : ¬ (Shortens (shortens_by counts_first_check))
  pub whole_set_tried : ¬ (Shortens (shortens_by tries_whole_set))
  pub nothing_tried : ¬ (Shortens (shortens_by tries_nothing))
  pub not_passed : ¬ (Shortens (shortens_by drops_unchecked))
  pub floor_too_high : ¬ (Shortens (with_floor suc))
  pub floor_too_low : ¬ (Shortens (with_floor (λ q. q - 1)))
  pub rest_cleared : ¬ (Shortens clears_rest)
  pub given_left : ¬ (Shortens leaves_given)
  pub list_as_lent : ¬ (Responds writes_nothing)
  pub tail_dropped : ¬ (Responds drops_tail)
  pub written_when_refused : ¬ (Responds writes_when_refused)
  pub refuses_states : (number : ℕ) → ¬ (Responds (refuses_every_state number))
  pub said_before_looking : ¬ (Diagnoses says_14)
  pub state_not_written : ¬ (Diagnoses reads_nothing_back)
  pub conflicts_accepted : ¬ (Diagnoses accepts_conflicts)
  pub refuses_responses : (number : ℕ) → ¬ (Diagnoses (refuses_every_response number))
  pub table_as_lent : ¬ (Finds finds_nothing)
  pub record_not_written : ¬ (Finds one_record_short)
  pub table_cleared : ¬ (Finds clears_when_refused)
  pub guessed : (guess : Network → List ℕ → List ℕ) → ¬ (Sessions (guesses guess))
  pub second_ignored : (guess : Network → List ℕ → List ℕ) → ¬ (Sessions (ignores_second_answers guess))
  pub counted_itself : (count : ℕ) → ¬ (Sessions (counts_itself count))
  pub refuses_begins : (number : ℕ) → ¬ (Sessions (refuses_every_begin number))
  pub uncounted : ¬ (Sessions writes_uncounted)
  pub no_vectors : ¬ (Sessions writes_no_vectors)
  pub vectors_copied : ¬ (Turns copies_vectors)
  pub words_copied : ¬ (TurnsBack copies_words)
  pub kind_ignored : ¬ (Writes ignores_kind)
  pub written_parallel : ¬ (Writes writes_parallel)
  pub kind_not_named : ¬ (Reads names_kind_2)
  pub most_not_turned : ¬ (Turns turns_but_most)
  pub most_not_turned_back : ¬ (TurnsBack turns_back_but_most)
  pub there_not_back : ¬ (ThereAndBack our_turn turns_back_but_most)
  pub back_not_there : ¬ (ThereAndBack turns_but_most our_turn_back)
  pub longest_not_read : ¬ (Exact (reads_but 1060) our_writer)
  pub longest_not_read_4 : ¬ (Exact (reads_but 933) our_writer)
  pub longest_not_written : ¬ (Exact our_reader (writes_but 1060))
  pub longest_not_written_4 : ¬ (Exact our_reader (writes_but 933))
  pub longest_not_read_as_before : ¬ (KindTwoAsBefore (reads_but 1060) our_writer)
  pub longest_not_written_as_before : ¬ (KindTwoAsBefore our_reader (writes_but 1060))
  pub longest_not_exchanged : ¬ (ReadsExchanged (reads_but 933))
  pub longest_read_otherwise : ¬ (KindsReadAlike (reads_but 933) our_writer)
  pub longest_reported_otherwise : ¬ (KindsReportAlike (reports_but 933) our_writer)
  pub longer_accepted : ¬ (SizeLimits (accepts_longer 1061 2))
  pub longer_of_kind_4 : ¬ (SizeLimits (accepts_longer 934 4))
  pub vectors_cleared : ¬ (Demand1 (ours_but clears_vectors our_sessions))
  pub started_again : ¬ (Demand1 (ours_but our_reader starts_again))
