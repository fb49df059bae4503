use Rattle.std.proofs.Common.{ℕ, ◌≡◌, ◌∙◌, sym, ap, ap₂, arith, List, [], ◌++◌, length, take, length-take-le}
use Rattle.network.proofs.Rows.{nets_admitted}
use Rattle.network.specs.Refusing.{row_number}
use Rattle.listing.specs.Report.{refused_line, content_text}
use Rattle.listing.proofs.Reporting.{read_refused, read_content, refused_most, content_most}
use Rattle.listing.proofs.report_text.Goals as goal

-- the line of a number, at the end of no text
alone : (text after : List ℕ) (n row : ℕ) → after ≡ text ++ refused_line n → text ≡ [] → n ≡ row → after ≡ refused_line row
alone text after n row put none same = put ∙ ap₂ (λ (front : List ℕ) (k : ℕ). front ++ refused_line k) none same

pub put_refused-requires : goal.put_refused-requires
put_refused-requires c =
    let none = ap length c.new-text.ensures in
    omega (arith, none, refused_most)

pub slice_bounds-vectors-end : goal.slice_bounds-vectors-end
slice_bounds-vectors-end c =
    let read = c.read_job.ensures in
    (read_content _ _ _ _ _ c.in-Ok.is read.answer read.vectors read.responses).vectors_room

pub slice_bounds-set-end : goal.slice_bounds-set-end
slice_bounds-set-end c =
    let read = c.read_job.ensures in
    sym (length-take-le _ _ (read_content _ _ _ _ _ c.in-Ok.is read.answer read.vectors read.responses).vectors_room)

pub invariant_of-set : goal.invariant_of-set
invariant_of-set c =
    let read = c.read_job.ensures in
    let few = nets_admitted c.in-Ok.job.network (read_content _ _ _ _ _ c.in-Ok.is read.answer read.vectors read.responses).admitted.0 in
    record { few = few.1 }

pub slice_bounds-responses-end : goal.slice_bounds-responses-end
slice_bounds-responses-end c =
    let read = c.read_job.ensures in
    (read_content _ _ _ _ _ c.in-Ok.is read.answer read.vectors read.responses).responses_room

pub slice_bounds-put_content-end : goal.slice_bounds-put_content-end
slice_bounds-put_content-end c =
    let read = c.read_job.ensures in
    sym (length-take-le _ _ (read_content _ _ _ _ _ c.in-Ok.is read.answer read.vectors read.responses).responses_room)

pub invariant_of-set-in-Ok : goal.invariant_of-set-in-Ok
invariant_of-set-in-Ok c =
    let read = c.read_job.ensures in
    record { admitted = (read_content _ _ _ _ _ c.in-Ok.is read.answer read.vectors read.responses).admitted }

pub put_content-requires : goal.put_content-requires
put_content-requires c =
    let read = c.read_job.ensures in
    let was_read = read_content _ _ _ _ _ c.in-Ok.is read.answer read.vectors read.responses in
    let none = ap length c.new-text.ensures in
    let job = c.in-Ok.job in
    let few = nets_admitted job.network was_read.admitted.0 in
    let most = content_most job.network job.class (take job.vectors c.read_job.new.vectors)
    (take job.responses c.read_job.new.responses) few.1 in
    omega (arith, none, most)

pub returns-in-Err : goal.returns-in-Err
returns-in-Err c =
    let refusal = c.in-Err.refusal in
    alone _ _ _ (row_number refusal) c.put_refused.ensures c.new-text.ensures (omega (arith, c.from.ensures))
    ∙ sym (read_refused _ _ refusal c.in-Err.is c.read_job.ensures.answer)

pub returns-in-Ok : goal.returns-in-Ok
returns-in-Ok c =
    let read = c.read_job.ensures in
    let was_read = read_content _ _ _ _ _ c.in-Ok.is read.answer read.vectors read.responses in
    let job = c.in-Ok.job in
    let text : List ℕ = content_text job.network job.class (take job.vectors c.read_job.new.vectors)
    (take job.responses c.read_job.new.responses) in
    c.put_content.ensures ∙ ap (λ (front : List ℕ). front ++ text) c.new-text.ensures ∙ sym was_read.text
