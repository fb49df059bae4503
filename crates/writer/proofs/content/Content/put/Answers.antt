use Rattle.std.proofs.Common.{rules, ◌+◌, ◌*◌, ◌≤◌, length, arith}
use Rattle.writer.specs.Content.{body_of}
use Rattle.writer.proofs.ContentLaws.{whole_size, whole_put}
use Rattle.writer.proofs.FileParts.{part_put}
use Rattle.writer.proofs.content.Content.put.Goals as goal

pub put_head-requires : goal.put_head-requires
put_head-requires c = let whole = whole_size c.args.self.now in omega arith

pub slice_bounds-put_bodies-count : goal.slice_bounds-put_bodies-count
slice_bounds-put_bodies-count c = let whole = whole_size c.args.self.now in omega (arith, c.start-start.ensures.0)

pub slice_bounds-put_bodies-start : goal.slice_bounds-put_bodies-start
slice_bounds-put_bodies-start c = let whole = whole_size c.args.self.now in omega (arith, c.start-start.ensures.0)

pub put_bodies-requires : goal.put_bodies-requires
put_bodies-requires c =
    let self = c.args.self.now in
    let whole = whole_size self in
    let fits : c.start-start.result + (4 + length (body_of self) + 8 * length self.responses.now) ≤ length c.put_head.new.file =
    omega (arith, c.start-start.ensures.0) in
    search (rules, fits)

pub returns : goal.returns
returns c =
    let start = c.start-start.result in
    whole_put c.args.self.now c.args.file.now _ _ start c.start-start.ensures.0 c.put_head.ensures
    (part_put start _ _ _ _ c.put_bodies.ensures (omega arith))
