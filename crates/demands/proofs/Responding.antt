-- Our answer to *response from a state* keeps demand 2's first sentence, and no other program does.
use Rattle.std.proofs.Common.{◌≡◌, refl, List, ℕ, length}
use Rattle.words.proofs.Answers.{fills_determined}
use Rattle.network.specs.declared.Network.{Network}
use Rattle.network.specs.Reading.{Response}
use Rattle.network.specs.Respond.{ResponseRows, response_answer}
use Rattle.network.proofs.Respond.{response_by_table, response_answer_determined}
use Rattle.demands.specs.Demand2.{ResponseProgram, Responds}
use Rattle.demands.specs.Programs.{our_response}

pub responds : Responds our_response
responds net owners k vectors state lent = record {
  answer = response_answer net owners k vectors state (length lent);
  allowed = response_by_table net owners k vectors state (length lent);
  returned = refl;
  list = refl;
}

pub response_determined : (p q : ResponseProgram) → Responds p → Responds q
    → (net : Network) (owners : List ℕ) (k : ℕ) (vectors state lent : List ℕ)
    → p net owners k vectors state lent ≡ q net owners k vectors state lent
response_determined p q f g net owners k vectors state lent =
    fills_determined (ResponseRows net owners k vectors state (length lent)) (Response net state vectors) lent
    (p net owners k vectors state lent) (q net owners k vectors state lent)
    (response_answer_determined net owners k vectors state (length lent)) (f net owners k vectors state lent)
    (g net owners k vectors state lent)
