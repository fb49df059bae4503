use Rattle.std.proofs.Common.{rules, ◌+◌, ◌≤◌, length, arith}
use Rattle.words.proofs.Writing.{written_one}
use Rattle.writer.specs.Writer.{response_entry}
use Rattle.writer.proofs.WriterLaws.{entries_range, response_entry_size}
use Rattle.writer.proofs.FileParts.{part_put, head_put, head_is}
use Rattle.writer.proofs.content.Content.put_head.Goals as goal

pub put_response_entry-requires : goal.put_response_entry-requires
put_response_entry-requires c =
    let size = response_entry_size (c.start-start.result + 4 + c.vectors_size-size.result) c.args.self.now.responses.now in
    let fits : 23 + length (response_entry (c.start-start.result + 4 + c.vectors_size-size.result) c.args.self.now.responses.now)
    ≤ length c.args.file.now = omega arith in
    search (rules, fits)

pub returns : goal.returns
returns c =
    let responses = c.args.self.now.responses.now in
    let start = c.start-start.ensures.0 in
    let size = c.vectors_size-size.ensures.0 in
    let few = (entries_range responses).0 in
    head_is c.args.file.now _ responses _ _ _ _ _ _ _ _
    (head_put c.args.file.now _ _ _ _ _ responses _ _ _ _ _ _ c.put_mark.ensures (written_one _ 4 _ (omega arith))
    (part_put 5 _ _ _ _ c.put_entry.ensures (omega arith)) (part_put 14 _ _ _ _ c.put_entry-2.ensures (omega arith))
    (part_put 23 _ _ _ _ c.put_response_entry.ensures (omega arith)))
    c.entries-entries.ensures.0 start (omega (arith, start)) (omega (arith, start, size)) c.from.ensures size
