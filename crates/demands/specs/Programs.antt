-- The programs that the demands are proved of: what each call's contract says that it returns, and leaves in the memory
-- lent to it.
use Rattle.std.specs.Prelude.{ℕ, List, length}
use Rattle.words.specs.Answers.{Answer, lent_after, count_of}
use Rattle.network.specs.Respond.{response_answer}
use Rattle.network.specs.OwnReceivers.{own_receivers_answer}
use Rattle.turning.specs.Turn.{turn_answer, turn_back_answer}
use Rattle.scan_chain.specs.Calls.{write_answer as clocks_written, read_answer as clocks_read}
use Rattle.checker.specs.Rule.{bounded_verdict}
use Rattle.checker.specs.Check.{check_answer}
use Rattle.diagnosis.specs.ReadBack.{read_back}
use Rattle.diagnosis.specs.Diagnosis.{diagnosis_answer}
use Rattle.shorter.specs.Shorten.{shorten_answer, kept_of, counted as shorter_counted}
use Rattle.findings.specs.FindingsTable.{findings_answer}
use Rattle.steps.specs.SecondStep.{unclear}
use Rattle.session.specs.declared.Session.{Session}
use Rattle.session.specs.Record.{awaiting_first, finished, held_owners}
use Rattle.session.specs.Calls.{stepped, begin_answer, first_answer, answered_by, second_answer, vectors_driven, all_answers}
use Rattle.session.specs.Drive.{to_drive}
use Rattle.reader.specs.Reader.{read_answer, vectors_read, responses_read, counted}
use Rattle.writer.specs.Writer.{write_answer}
use Rattle.listing.specs.Report.{report}
use Rattle.demands.specs.Demand2.{ResponseProgram, DiagnosisProgram}
use Rattle.demands.specs.TurnCalls.{TurnProgram, TurnBackProgram}
use Rattle.demands.specs.ClockCalls.{WriteClocksProgram, ReadClocksProgram}
use Rattle.demands.specs.OwnReceiversCall.{OwnReceiversProgram}
use Rattle.demands.specs.FindingsCall.{FindingsProgram}
use Rattle.demands.specs.JobFiles.{WriterProgram, ReaderProgram}
use Rattle.demands.specs.SessionCalls.{Call, begin, first, second, lent, SessionProgram}
use Rattle.demands.specs.SessionRecords.{DriveProgram}
use Rattle.demands.specs.Demand1.{Programs}
use Rattle.demands.specs.Demand3.{CheckProgram}
use Rattle.demands.specs.PlainSearch.{SearchProgram}
use Rattle.demands.specs.ShortenCall.{ShortenProgram}
use Rattle.demands.specs.Reports.{ReportProgram}

abbrev pub our_response : ResponseProgram
our_response net owners k vectors state lent =
    let answer = response_answer net owners k vectors state (length lent) in
    record { returned = count_of answer; list = lent_after answer lent }

abbrev pub our_turn : TurnProgram
our_turn nets vectors lent =
    let answer = turn_answer nets vectors (length lent) in
    record { returned = count_of answer; list = lent_after answer lent }

abbrev pub our_turn_back : TurnBackProgram
our_turn_back nets count words lent =
    let answer = turn_back_answer nets count words (length lent) in
    record { returned = count_of answer; list = lent_after answer lent }

abbrev pub our_write_clocks : WriteClocksProgram
our_write_clocks nets owners vectors cells drivers receivers lent =
    let answer = clocks_written nets owners vectors cells drivers receivers (length lent) in
    record { returned = count_of answer; list = lent_after answer lent }

abbrev pub our_read_clocks : ReadClocksProgram
our_read_clocks nets owners count cells drivers receivers tdo lent =
    let answer = clocks_read nets owners count cells drivers receivers tdo (length lent) in
    record { returned = count_of answer; list = lent_after answer lent }

abbrev pub our_own_receivers : OwnReceiversProgram
our_own_receivers nets lent =
    let answer = own_receivers_answer nets (length lent) in
    record { returned = count_of answer; list = lent_after answer lent }

abbrev pub our_check : CheckProgram
our_check net k vectors = check_answer net k vectors

-- the plain search is the rule for k below n, whatever the class
abbrev pub our_plain_search : SearchProgram
our_plain_search net k vectors = bounded_verdict net k vectors

abbrev pub our_shorten : ShortenProgram
our_shorten net k vectors allowed lent =
    let answer = shorten_answer net k vectors allowed (length lent) in
    record { returned = shorter_counted answer; list = lent_after (kept_of answer) lent }

abbrev pub our_diagnosis : DiagnosisProgram
our_diagnosis net owners k vectors responses lent =
    let answer = diagnosis_answer net owners k vectors responses (length lent) in
    record { returned = count_of answer; list = lent_after answer lent }

abbrev pub our_findings : FindingsProgram
our_findings net owners state lent =
    let answer = findings_answer net owners state (length lent) in
    record { returned = count_of answer; list = lent_after answer lent }

abbrev pub our_writer : WriterProgram
our_writer kind net k vectors responses lent =
    let answer = write_answer kind net k vectors responses (length lent) in
    record { returned = count_of answer; list = lent_after answer lent }

abbrev pub our_reader : ReaderProgram
our_reader file vectors responses =
    let answer = read_answer file (length vectors) (length responses) in
    record {
      returned = counted answer;
      vectors = lent_after (vectors_read answer) vectors;
      responses = lent_after (responses_read answer) responses;
    }

-- ---- the session's calls

abbrev pub our_answer : Session → Call → Answer (List ℕ)
our_answer session (begin net owners list) = begin_answer net owners (length list)
our_answer session (first answers list) = first_answer session answers (length list)
our_answer session (second answers) = second_answer session answers

-- the record after the call, if it is accepted
abbrev pub our_new : Session → Call → Session
our_new session (begin net owners list) = awaiting_first net owners
our_new session (first answers list) =
    answered_by session.network (held_owners session) answers (unclear session.network (held_owners session) answers)
our_new session (second answers) =
    finished session.network (held_owners session)
    (read_back session.network (length (held_owners session)) session.network.nets (vectors_driven session)
    (all_answers session answers))
    (length (vectors_driven session))

abbrev pub our_sessions : SessionProgram
our_sessions session call = record {
  answer = our_answer session call;
  list = lent_after (our_answer session call) (lent call);
  session = (stepped (our_answer session call) (our_new session call) session).session;
}

abbrev pub our_drive : DriveProgram
our_drive session one two = to_drive session one two

-- ---- the report

abbrev pub our_report : ReportProgram
our_report file = report file

-- ---- all calls of documents 01 and 02

abbrev pub ours : Programs
ours = record {
  owns = our_own_receivers;
  turns = our_turn;
  turns_back = our_turn_back;
  checks = our_check;
  shortens = our_shorten;
  responds = our_response;
  diagnoses = our_diagnosis;
  finds = our_findings;
  reads = our_reader;
  writes = our_writer;
  advances = our_sessions;
  drives = our_drive;
}
