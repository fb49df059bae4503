-- What a call owes when it refuses, and when it is accepted; and what it knows of a record that waits for answers.
use Rattle.std.proofs.Common.{◌≡◌, sym, ap, ap₂, ◌∙◌, Bool, ℕ, List, length, take}
use Rattle.std.specs.Prelude.{Option, None, Err}
use Rattle.std.specs.Option.{ok_or}
use Rattle.words.specs.Answers.{Answer, refused, full, lent_after}
use Rattle.network.specs.declared.Network.{Network}
use Rattle.network.specs.declared.refusal.Refusal.{Refusal}
use Rattle.network.specs.Refusing.{row_number}
use Rattle.network.specs.Rows.{bad_response_count, has_high_bit, no_room}
use Rattle.steps.specs.SecondStep.{second_vectors}
use Rattle.session.specs.declared.Session.{Session}
use Rattle.session.specs.declared.record.Asked.{Asked}
use Rattle.session.specs.Record.{held_owners, held_answers}
use Rattle.session.specs.Calls.{stepped, code_of}
use Rattle.session.proofs.Records.{HeldBoard}

module _ (answer : Answer (List ℕ)) (new old : Session) where
  pub step_refused : {number : ℕ} (lent : List ℕ) → answer ≡ refused number
      → (old ≡ (stepped answer new old).session)
      × ((number ≡ (stepped answer new old).code) × (lent ≡ lent_after answer lent))
  unfolding stepped lent_after
  step_refused lent e = (rw e, (rw e, rw e))

  pub step_full : (after : Session) (words lent list : List ℕ) → answer ≡ full words → after ≡ new
      → list ≡ lent_after (full words) lent
      → (after ≡ (stepped answer new old).session)
      × ((0 ≡ (stepped answer new old).code) × (list ≡ lent_after answer lent))
  unfolding stepped
  step_full after words lent list e a l = (rw e a, (rw e, rw e l))

-- the number of the row with which a `None` is refused
pub none_code : {A : Type 0} {o : Option A} (row : Refusal) {refusal : Refusal} → Err refusal ≡ ok_or o row → o ≡ None
    → row_number refusal ≡ row_number row
none_code {A} {o} row e none = ap (code_of {A = A}) e ∙ ap (λ (o : Option A). code_of (ok_or o row)) none

-- ---- the tests of the rows

-- row 9, by a number that equals that of the vectors
pub count_told : (answers : ℕ) {count vectors : ℕ} {test : Bool} → count ≡ vectors
    → test ≡ bad_response_count count answers → bad_response_count vectors answers ≡ test
count_told answers same told = ap (λ (n : ℕ). bad_response_count n answers) (sym same) ∙ sym told

-- row 10, by the number of receivers that the record holds
pub width_told : (answers : List ℕ) {net : Network} {receivers : ℕ} {owners : List ℕ} {test : Bool}
    → HeldBoard net receivers owners → test ≡ has_high_bit receivers answers
    → has_high_bit (length (take receivers owners)) answers ≡ test
width_told answers board told = ap (λ (width : ℕ). has_high_bit width answers) board.count ∙ sym told

-- row 12, by a number that equals that of the vectors
pub room_told : (room : ℕ) {count vectors : ℕ} {test : Bool} → count ≡ vectors → test ≡ no_room count room
    → no_room vectors room ≡ test
room_told room same told = ap (λ (n : ℕ). no_room n room) (sym same) ∙ sym told

-- what depends on the nets, the receivers and a list that a record holds
pub same_for : {A : Type 0} (f : Network → List ℕ → List ℕ → A) {net net' : Network} {owners owners' list list' : List ℕ}
    → net ≡ net' → owners ≡ owners' → list ≡ list' → f net owners list ≡ f net' owners' list'
same_for f {net} {net'} {owners} {owners'} {list} a b c =
    ap₂ (λ (n : Network) (o : List ℕ). f n o list) a b ∙ ap (f net' owners') c

-- the vectors of step two that a record asks for
pub asked_told : (session : Session) (asked : Asked) → asked.board.nets.network ≡ session.network
    → asked.board.receivers.now ≡ held_owners session → asked.first.now ≡ held_answers session
    → asked.vectors.items ≡ second_vectors session.network (held_owners session) (held_answers session)
asked_told session asked a b c = asked.asked ∙ same_for second_vectors a b c
