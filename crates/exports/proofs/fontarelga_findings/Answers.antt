use Rattle.std.proofs.Common.{ltb-false, arith, ◌/◌, ◌*◌, ◌≤◌, ◌≡◌, sym, ap, ◌∙◌, true, false, List, length, take}
use Rattle.std.proofs.Common.{length-take-le}
use Rattle.words.specs.Answers.{full, lent_after}
use Rattle.findings.specs.declared.Finding.{Finding}
use Rattle.findings.specs.FindingsTable.{blank_table}
use Rattle.findings.proofs.FindingsLaws.{table_refused, table_accepted, records_written}
use Rattle.findings.proofs.FindingsLaws.{refused_in_any_room, accepted_by_room}
use Rattle.network.proofs.Rows.{receivers_of_board}
use Rattle.packing.specs.Packed.{finding_words}
use Rattle.exports.proofs.CallLaws.{code_refused, words_refused, code_full, words_full}
use Rattle.exports.proofs.fontarelga_findings.Goals as goal

pub returns-in-Err : goal.returns-in-Err
returns-in-Err c =
    let a = c.args in
    let said = c.findings in
    let e = refused_in_any_room _ _ _ (length a.table.now / 3) _
    (table_refused _ _ _ _ said.result _ c.in-Err.is said.ensures.answer) in
    record {
      answer = rw c.from.ensures (code_refused _ _ e);
      table = words_refused _ _ e finding_words a.table.now;
    }

pub returns-then-no_room : goal.returns-then-no_room
returns-then-no_room c =
    let a = c.args in
    let accepted = table_accepted _ _ _ _ _ _ c.in_default.is c.findings.ensures.answer in
    let e = accepted_by_room _ _ _ (length a.table.now / 3) accepted true
    (sym c.no_room.ensures ∙ c.if-no_room.true) in
    record {
      answer = rw c.from-then-no_room.ensures (code_refused _ _ e);
      table = words_refused _ _ e finding_words a.table.now;
    }

pub slice_bounds-records-end : goal.slice_bounds-records-end
slice_bounds-records-end c =
    let accepted = table_accepted _ _ _ _ _ _ c.in_default.is c.findings.ensures.answer in
    let most = (receivers_of_board _ _ accepted.board).most in
    let size = c.findings.auto.table in
    omega arith

pub slice_bounds-put_findings-end : goal.slice_bounds-put_findings-end
slice_bounds-put_findings-end c =
    let accepted = table_accepted _ _ _ _ _ _ c.in_default.is c.findings.ensures.answer in
    let most = (receivers_of_board _ _ accepted.board).most in
    let size = c.findings.auto.table in
    sym (length-take-le _ _ (omega arith))

pub put_findings-requires : goal.put_findings-requires
put_findings-requires c =
    let a = c.args in
    let accepted = table_accepted _ _ _ _ _ _ c.in_default.is c.findings.ensures.answer in
    let most = (receivers_of_board _ _ accepted.board).most in
    let size : length (take (length a.receivers.now) c.findings.new.table) ≡ length a.receivers.now =
    let whole = c.findings.auto.table in length-take-le _ _ (omega arith) in
    let room = ltb-false (length a.table.now / 3) (length a.receivers.now)
    (sym c.no_room.ensures ∙ c.if-no_room.false) in
    omega arith

pub returns : goal.returns
returns c =
    let a = c.args in
    let accepted = table_accepted _ _ _ _ _ _ c.in_default.is c.findings.ensures.answer in
    let e = accepted_by_room _ _ _ (length a.table.now / 3) accepted false
    (sym c.no_room.ensures ∙ c.if-no_room.false) in
    let written = records_written _ _ _ blank_table c.findings.new.table accepted c.findings.ensures.table in
    record {
      answer = code_full _ _ e;
      table = words_full _ _ e finding_words a.table.now _
          (c.put_findings.ensures
          ∙ ap (λ (found : List Finding). lent_after (full (finding_words found)) a.table.now) written);
    }
