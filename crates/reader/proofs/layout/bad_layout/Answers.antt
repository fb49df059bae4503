use Rattle.std.proofs.Common.{sym, ◌∙◌, arith}
use Rattle.words.proofs.Searching.{any_at, any_none}
use Rattle.jobfile.specs.Layout.{entry_count, bad_entry}
use Rattle.jobfile.proofs.FileRows.{table_breaks, table_stands}
use Rattle.reader.proofs.layout.bad_layout.Goals as goal

pub returns-then-file-counted : goal.returns-then-file-counted
returns-then-file-counted c = sym (table_breaks c.args.file.now c.entry_count-count.result
    c.entry_count-count.ensures.0 c.if-file-counted.true)

pub bad_entry-requires : goal.bad_entry-requires
bad_entry-requires c = (
  omega (arith, c.entry_count-count.ensures.0),
  (table_stands c.args.file.now _ c.entry_count-count.ensures.0 c.if-file-counted.false).0,
)

pub returns-then-bad_entry : goal.returns-then-bad_entry
returns-then-bad_entry c =
    let file = c.args.file.now in
    sym ((table_stands file _ c.entry_count-count.ensures.0 c.if-file-counted.false).1
    ∙ any_at (bad_entry file) (entry_count file) c.loop-i.i (omega (arith, c.entry_count-count.ensures.0))
    (sym c.bad_entry.ensures ∙ c.if-bad_entry.true))

pub returns : goal.returns
returns c =
    let file = c.args.file.now in
    sym ((table_stands file _ c.entry_count-count.ensures.0 c.if-file-counted.false).1
    ∙ any_none (bad_entry file) (entry_count file)
    (λ z m. c.loop-i.invariant z (omega (arith, c.entry_count-count.ensures.0))))
