use Rattle.scan_chain.proofs.WriteAnswers.{owners_admitted, owners_refused}
use Rattle.scan_chain.proofs.admit_owners.Goals as goal

pub returns-clause-admitted : goal.returns-clause-admitted
returns-clause-admitted c = owners_admitted c.args.nets c.args.receivers.now c.admit_board.result (rw c.of.ensures at c.admit_board.ensures.rows)

pub returns-clause-refused : goal.returns-clause-refused
returns-clause-refused c = owners_refused c.args.nets c.args.receivers.now c.admit_board.result (rw c.of.ensures at c.admit_board.ensures.rows)
