use Rattle.std.proofs.Common.{◌≡◌, ℕ, List, length, Bool, ◌≤◌, ◌||◌, sym, ap, ap₂, ◌∙◌, arith}
use Rattle.std.proofs.lemmas.Result.{err_from_is_err_and}
use Rattle.std.proofs.lemmas.List.{length-map}
use Rattle.words.specs.Answers.{full}
use Rattle.network.specs.Rows.{no_room}
use Rattle.jobfile.specs.Bytes.{number_of}
use Rattle.jobfile.specs.Layout.{file_network, file_class, file_kind, file_count, file_vectors, body_words, file_responses}
use Rattle.jobfile.proofs.StoredVectors.{body_limits}
use Rattle.reader.specs.declared.Job.{Job}
use Rattle.reader.specs.Stored.{stored_words}
use Rattle.reader.proofs.Bodies.{count_of_words}
use Rattle.reader.proofs.ReaderAnswers.{file_admission, file_no_room, body_admitted, rooms, vectors_said}
use Rattle.reader.proofs.ReaderAnswers.{by_file_row, by_content_row, by_row_12, by_none, owed_refused_both, owed_content}
use Rattle.reader.proofs.read_job.Goals as goal

-- row 12 is asked of the numbers that were read
asked : (file : List ℕ) (sent : ℕ) (came : List (List ℕ)) (vectors_room responses_room : ℕ) (result : Bool)
    → result ≡ no_room sent vectors_room || no_room (length came) responses_room → sent ≡ file_count file
    → stored_words came ≡ file_responses file → file_no_room file vectors_room responses_room ≡ result
asked file sent came vectors_room responses_room result e f g =
    let many = sym (length-map came number_of) ∙ ap length g in
    sym (e ∙ ap₂ (λ (x y : ℕ). no_room x vectors_room || no_room y responses_room) f many)

limits : (file : List ℕ) → file_admission file ≡ full tt → (file_count file ≤ 64) × (length (body_words file 1) ≤ 64)
limits file e =
    body_limits (file_network file) (file_class file) (file_kind file) (file_count file) (body_words file 1)
    (count_of_words file) (body_admitted file e)

pub returns-in_err-job : goal.returns-in_err-job
returns-in_err-job c =
    let a = c.args in
    let p = err_from_is_err_and c.from_residual.result c.from_residual.ensures.1 in
    let owed =
    owed_refused_both _ _ a.vectors.now a.responses.now
    (by_file_row a.file.now (length a.vectors.now) (length a.responses.now) _ (sym c.in_err-job.ensures.rows)) in
    record { answer = rw (p.1, p.2) owed.0; vectors = owed.1.0; responses = owed.1.1 }

pub returns-in_err-admit_job : goal.returns-in_err-admit_job
returns-in_err-admit_job c =
    let a = c.args in
    let p = err_from_is_err_and c.from_residual-in_err-admit_job.result c.from_residual-in_err-admit_job.ensures.1 in
    let rows = rw c.in_ok-job.ensures.admitted at c.in_err-admit_job.ensures in
    let owed =
    owed_refused_both _ _ a.vectors.now a.responses.now
    (by_content_row a.file.now (length a.vectors.now) (length a.responses.now) (sym c.in_ok-job.ensures.rows) _ (sym rows)) in
    record { answer = rw (p.1, p.2) owed.0; vectors = owed.1.0; responses = owed.1.1 }

pub returns-in_err-refuse_if : goal.returns-in_err-refuse_if
returns-in_err-refuse_if c =
    let a = c.args in
    let p = err_from_is_err_and c.from_residual-in_err-refuse_if.result c.from_residual-in_err-refuse_if.ensures.1 in
    let refused = c.in_err-refuse_if.ensures.refused in
    let here = c.in_ok-job.ensures.admitted in
    let rows = rw here at c.in_ok-admit_job.ensures in
    let twelve = asked a.file.now _ _ (length a.vectors.now) (length a.responses.now) _ c.no_room.ensures (rw here at c.vectors-sent.ensures.count) (rw here at c.response_words-came.ensures) in
    let owed =
    owed_refused_both _ 12 a.vectors.now a.responses.now
    (by_row_12 a.file.now (length a.vectors.now) (length a.responses.now) (sym c.in_ok-job.ensures.rows) (sym rows) (twelve ∙ refused.1)) in
    record { answer = rw (p.1, p.2, refused.0) owed.0; vectors = owed.1.0; responses = owed.1.1 }

pub put-requires : goal.put-requires
put-requires c =
    let a = c.args in
    let here = c.in_ok-job.ensures.admitted in
    let rows = rw here at c.in_ok-admit_job.ensures in
    let sent = rw here at c.vectors-sent.ensures in
    let twelve = asked a.file.now _ _ (length a.vectors.now) (length a.responses.now) _ c.no_room.ensures sent.count (rw here at c.response_words-came.ensures) in
    let room = rooms a.file.now (length a.vectors.now) (length a.responses.now) (twelve ∙ c.in_ok-refuse_if.ensures.passed) in
    let few = limits a.file.now (sym rows) in (
      omega (arith, sent.count, few.0),
      omega (arith, length-map c.vectors-sent.result.words.now number_of, ap length sent.words, few.1),
      omega (arith, sent.count, room.0),
    )

pub put_words-requires : goal.put_words-requires
put_words-requires c =
    let a = c.args in
    let here = c.in_ok-job.ensures.admitted in
    let came = rw here at c.response_words-came.ensures in
    let twelve = asked a.file.now _ _ (length a.vectors.now) (length a.responses.now) _ c.no_room.ensures (rw here at c.vectors-sent.ensures.count) came in
    let room = rooms a.file.now (length a.vectors.now) (length a.responses.now) (twelve ∙ c.in_ok-refuse_if.ensures.passed) in
    omega (arith, length-map c.response_words-came.result.now number_of, ap length came, room.1)

pub returns : goal.returns
unfolding file_vectors
returns c =
    let a = c.args in
    let here = c.in_ok-job.ensures.admitted in
    let rows = rw here at c.in_ok-admit_job.ensures in
    let sent = rw here at c.vectors-sent.ensures in
    let came = rw here at c.response_words-came.ensures in
    let twelve = asked a.file.now _ _ (length a.vectors.now) (length a.responses.now) _ c.no_room.ensures sent.count came in
    let many : length c.response_words-came.result.now ≡ length (file_responses a.file.now) =
    sym (length-map c.response_words-came.result.now number_of) ∙ ap length came in
    let job : Job =
    record {
      network = c.network.result;
      class = c.class.result;
      kind = c.from-2.result;
      vectors = c.vectors-sent.result.count;
      responses = length c.response_words-came.result.now;
    } in
    let owed =
    owed_content a.file.now _ job a.vectors.now a.responses.now _ _
    (by_none a.file.now (length a.vectors.now) (length a.responses.now) (sym c.in_ok-job.ensures.rows) (sym rows)
    (twelve ∙ c.in_ok-refuse_if.ensures.passed))
    (rw (rw here at c.network.ensures, rw here at c.class.ensures, c.from-2.ensures ∙ c.from.ensures ∙ sent.kind, sent.count, many, vectors_said a.file.now))
    (rw (sent.kind, sent.count, sent.words) at c.put.ensures)
    (rw came at c.put_words.ensures) in
    record { answer = owed.0; vectors = owed.1.0; responses = owed.1.1 }
