use Rattle.std.proofs.Common.{List, ℕ, sym, ap, ◌∙◌, length, ltb-false}
use Rattle.words.specs.Answers.{full, lent_after}
use Rattle.std.proofs.lemmas.Result.{err_from_is_err_and}
use Rattle.writer.proofs.WriteRows.{by_row_2, by_set, by_row_9, by_row_10, by_row_12, by_none, asked, tested_room, same_file}
use Rattle.writer.proofs.write_job.Goals as goal

pub returns-in_err-kind : goal.returns-in_err-kind
returns-in_err-kind c =
    let a = c.args in
    let p = err_from_is_err_and c.from_residual.result c.from_residual.ensures.1 in
    let refused = c.in_err-kind.ensures in
    let owed = by_row_2 a.kind a.net a.class a.vectors.now a.responses.now a.file.now refused.1 in
    record { answer = rw (p.1, p.2, refused.0) owed.0; list = owed.1 }

pub returns-in_err-set : goal.returns-in_err-set
returns-in_err-set c =
    let a = c.args in
    let p = err_from_is_err_and c.from_residual-in_err-set.result c.from_residual-in_err-set.ensures.1 in
    let owed = by_set a.kind a.net a.class a.vectors.now a.responses.now a.file.now c.in_ok-kind.ensures.1 _
    (sym c.in_err-set.ensures.rows) in
    record { answer = rw (p.1, p.2) owed.0; list = owed.1 }

pub returns-in_err-refuse_if : goal.returns-in_err-refuse_if
returns-in_err-refuse_if c =
    let a = c.args in
    let p = err_from_is_err_and c.from_residual-in_err-refuse_if.result c.from_residual-in_err-refuse_if.ensures.1 in
    let refused = c.in_err-refuse_if.ensures.refused in
    let owed = by_row_9 a.kind a.net a.class a.vectors.now a.responses.now a.file.now c.in_ok-kind.ensures.1
    (sym c.in_ok-set.ensures.rows) (asked a.responses.now c.bad_response_count.ensures refused.1) in
    record { answer = rw (p.1, p.2, refused.0) owed.0; list = owed.1 }

pub returns-in_err-refuse_if-2 : goal.returns-in_err-refuse_if-2
returns-in_err-refuse_if-2 c =
    let a = c.args in
    let p = err_from_is_err_and c.from_residual-in_err-refuse_if-2.result c.from_residual-in_err-refuse_if-2.ensures.1 in
    let refused = c.in_err-refuse_if-2.ensures.refused in
    let owed = by_row_10 a.kind a.net a.class a.vectors.now a.responses.now a.file.now c.in_ok-kind.ensures.1
    (sym c.in_ok-set.ensures.rows)
    (asked a.responses.now c.bad_response_count.ensures c.in_ok-refuse_if.ensures.passed)
    (asked a.responses.now c.has_high_bit.ensures refused.1) in
    record { answer = rw (p.1, p.2, refused.0) owed.0; list = owed.1 }

pub returns-in_err-refuse_if-3 : goal.returns-in_err-refuse_if-3
returns-in_err-refuse_if-3 c =
    let a = c.args in
    let p = err_from_is_err_and c.from_residual-in_err-refuse_if-3.result c.from_residual-in_err-refuse_if-3.ensures.1 in
    let refused = c.in_err-refuse_if-3.ensures.refused in
    let set = c.in_ok-set.ensures.admitted in
    let file = same_file a.responses.now c.in_ok-kind.ensures.0 set.0 set.1 set.2 in
    let owed = by_row_12 a.kind a.net a.class a.vectors.now a.responses.now a.file.now c.in_ok-kind.ensures.1
    (sym c.in_ok-set.ensures.rows)
    (asked a.responses.now c.bad_response_count.ensures c.in_ok-refuse_if.ensures.passed)
    (asked a.responses.now c.has_high_bit.ensures c.in_ok-refuse_if-2.ensures.passed)
    (tested_room _ _ (c.size-size.ensures ∙ ap length file) c.no_room.ensures refused.1) in
    record { answer = rw (p.1, p.2, refused.0) owed.0; list = owed.1 }

pub put-requires : goal.put-requires
put-requires c =
    ltb-false (length c.args.file.now) _
    (tested_room _ (length c.args.file.now) c.size-size.ensures c.no_room.ensures c.in_ok-refuse_if-3.ensures.passed)

pub returns : goal.returns
returns c =
    let a = c.args in
    let set = c.in_ok-set.ensures.admitted in
    let file = same_file a.responses.now c.in_ok-kind.ensures.0 set.0 set.1 set.2 in
    let size = c.size-size.ensures ∙ ap length file in
    let owed = by_none a.kind a.net a.class a.vectors.now a.responses.now a.file.now c.in_ok-kind.ensures.1
    (sym c.in_ok-set.ensures.rows)
    (asked a.responses.now c.bad_response_count.ensures c.in_ok-refuse_if.ensures.passed)
    (asked a.responses.now c.has_high_bit.ensures c.in_ok-refuse_if-2.ensures.passed)
    (tested_room _ _ size c.no_room.ensures c.in_ok-refuse_if-3.ensures.passed)
    c.size-size.result _ size
    (c.put.ensures ∙ ap (λ (bytes : List ℕ). lent_after (full bytes) a.file.now) file) in
    record { answer = owed.0; list = owed.1 }
