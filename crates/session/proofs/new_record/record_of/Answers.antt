use Rattle.std.proofs.Common.{length, ◌∙◌}
use Rattle.session.proofs.Padding.{padded}
use Rattle.session.proofs.new_record.record_of.Goals as goal

pub returns : goal.returns
returns c =
    let a = c.args in
    let owners = c.copy_words.ensures ∙ padded 64 a.board.receivers.now in
    let first = c.copy_words-2.ensures ∙ padded 8 a.answers.now in
    let reaches = c.copy_words-3.ensures ∙ padded 64 a.state.now in
    λ j. record {
      step = a.step;
      network = a.board.nets.network;
      receivers = length a.board.receivers.now;
      owners = owners j;
      first = first j;
      reaches = reaches j;
      spent = a.spent;
    }
