use Rattle.std.proofs.Common.{ℕ, ◌*◌, List, length, sym, ap, ◌∙◌, arith}
use Rattle.words.specs.Answers.{full, lent_after}
use Rattle.writer.proofs.WriterLaws.{entry_size, no_response_entry, response_entry_is}
use Rattle.writer.proofs.content.Content.put_response_entry.Goals as goal

pub put_entry-requires : goal.put_entry-requires
put_entry-requires c =
    let a = c.args in
    let is = ap length (response_entry_is a.body a.self.now.responses.now c.if-count-gt0.true) in
    let size = entry_size 3 a.body (8 * length a.self.now.responses.now) in
    omega (arith, c.requires, is, size)

pub returns-then-count-gt0 : goal.returns-then-count-gt0
returns-then-count-gt0 c =
    let a = c.args in
    c.put_entry.ensures
    ∙ ap (λ (bytes : List ℕ). lent_after (full bytes) a.file.now)
    (sym (response_entry_is a.body a.self.now.responses.now c.if-count-gt0.true))

pub returns-else-count-gt0 : goal.returns-else-count-gt0
unfolding lent_after
returns-else-count-gt0 c =
    let a = c.args in
    sym (ap (λ (bytes : List ℕ). lent_after (full bytes) a.file.now)
    (no_response_entry a.body a.self.now.responses.now c.if-count-gt0.false))
