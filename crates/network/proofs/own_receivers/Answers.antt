use Rattle.std.proofs.Common.{sym, ◌∙◌, ap}
use Rattle.words.specs.Answers.{full, by_tests, count_of}
use Rattle.network.specs.OwnReceivers.{own_receivers_answer}
use Rattle.network.proofs.OwnReceivers.{own_size}
use Rattle.network.proofs.own_receivers.Goals as goal

pub returns-clause-answer : goal.returns-clause-answer
unfolding own_receivers_answer by_tests count_of
returns-clause-answer c =
    let five = rw c.of.ensures at c.in_ok-admit_nets.ensures.admitted.1 in
    rw (five, sym c.no_room.ensures ∙ c.in_ok-refuse_if.ensures.passed) (ap full (sym (own_size c.args.nets)))
