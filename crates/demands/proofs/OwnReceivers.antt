-- Our answer to *own receivers* keeps its promise, and no other program does.
use Rattle.std.proofs.Common.{◌≡◌, refl, List, ℕ, length}
use Rattle.words.proofs.Answers.{fills_determined}
use Rattle.network.specs.OwnReceivers.{OwnReceivers, OwnReceiversRows, own_receivers_answer}
use Rattle.network.proofs.OwnReceivers.{own_receivers_by_table, own_receivers_determined}
use Rattle.demands.specs.OwnReceiversCall.{OwnReceiversProgram, Owns}
use Rattle.demands.specs.Programs.{our_own_receivers}

pub owns : Owns our_own_receivers
owns nets lent = record {
  answer = own_receivers_answer nets (length lent);
  allowed = own_receivers_by_table nets (length lent);
  returned = refl;
  list = refl;
}

pub own_determined_program : (p q : OwnReceiversProgram) → Owns p → Owns q → (nets : ℕ) (lent : List ℕ) → p nets lent ≡ q nets lent
own_determined_program p q f g nets lent =
    fills_determined (OwnReceiversRows nets (length lent)) (OwnReceivers nets) lent (p nets lent) (q nets lent)
    (own_receivers_determined nets (length lent)) (f nets lent) (g nets lent)
