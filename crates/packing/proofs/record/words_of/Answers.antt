use Rattle.std.proofs.Common.{rules, ◌∙◌}
use Rattle.packing.specs.Packed.{session_words}
use Rattle.packing.proofs.Words.{Sized, all_written, session_written, words_size}
use Rattle.packing.proofs.record.words_of.Goals as goal

pub returns : goal.returns
returns c =
    let session = c.args.session in
    let sizes : Sized session = record { owners_size = search rules; first_size = search rules; reaches_size = search rules } in
    session_written session _ _ _ _ _ _ sizes.owners_size sizes.first_size sizes.reaches_size
    c.put_at.ensures c.put_at-2.ensures c.put_at-3.ensures c.put_at-4.ensures c.put_at-5.ensures
    ∙ all_written (session_words session) _ (words_size session sizes)
