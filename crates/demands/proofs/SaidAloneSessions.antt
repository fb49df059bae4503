-- One receiver a net: the calls on a session answer and leave as they do without receivers, call by call.
use Rattle.std.proofs.Common.{◌≡◌, refl, ap, ap₂, ◌∙◌, Bool, true, List, [], ◌∷◌, ◌++◌, ℕ, ◌≤◌, arith, length}
use borrow.Author.Tests.{not-false}
use Rattle.words.specs.Answers.{Answer, refused, full}
use Rattle.words.proofs.Answers.{none_passed}
use Rattle.network.specs.declared.Network.{Network}
use Rattle.network.specs.Rows.{bad_level, bad_gate, no_room}
use Rattle.network.specs.OwnReceivers.{own_receivers}
use Rattle.network.proofs.Rows.{nets_admitted}
use Rattle.network.proofs.OwnReceivers.{own_size}
use Rattle.diagnosis.specs.ReadBack.{read_back}
use Rattle.diagnosis.proofs.ReadingBack.{read_size}
use Rattle.steps.specs.FirstStep.{first_vectors}
use Rattle.steps.specs.SecondStep.{unclear, second_vectors}
use Rattle.session.specs.declared.Session.{Session}
use Rattle.session.specs.Record.{finished, awaits_first, awaits_second}
use Rattle.session.specs.Calls.{stepped, begin_answer, begun, first_answer, answered_by, first_answered, second_answer, second_answered}
use Rattle.session.specs.Drive.{to_drive}
use Rattle.session.proofs.Records.{awaits_first_board, awaits_second_board}
use Rattle.demands.specs.SaidAlone.{SessionAlone, stepped_alone, with_own, stepped_own, awaiting_first_alone, finished_alone}
use Rattle.demands.specs.SaidAlone.{unclear_alone, second_vectors_alone, fault_free_alone, held_alone, vectors_driven_alone}
use Rattle.demands.specs.SaidAlone.{begin_alone, first_alone, answered_by_alone, first_answered_alone, second_alone}
use Rattle.demands.specs.SaidAlone.{second_answered_alone, to_drive_alone}
use Rattle.demands.proofs.SaidAloneCalls.{drops_out}
use Rattle.demands.proofs.SaidAloneSteps.{same_unclear, same_second, alone_size, same_fault_free}
use Rattle.demands.proofs.SaidAloneRecords.{held_own, same_awaits_first, same_awaits_second}
use Rattle.demands.proofs.SaidAloneRecords.{same_awaiting_first, same_awaiting_second, same_finished}

-- ---- begin

module _ (net : Network) (room : ℕ) where
  pub begin_answers_alone : begin_answer net (own_receivers net.nets) room ≡ begin_alone net room
  unfolding begin_answer begin_alone
  begin_answers_alone =
      let rest : List (ℕ × Bool) =
      (17, bad_level net) ∷ (20, bad_gate net) ∷ (12, no_room (length (first_vectors net)) room) ∷ [] in
      drops_out net rest rest (first_vectors net) (first_vectors net) (λ _. refl)

  pub begins_alone : (session : Session)
      → begun session net (own_receivers net.nets) room ≡ stepped (begin_alone net room) (with_own (awaiting_first_alone net)) session
  begins_alone session =
      ap₂ (λ (answer : Answer (List ℕ)) (new : Session). stepped answer new session) begin_answers_alone (same_awaiting_first net)

-- ---- the record after a call

-- if the new records are the same where the call is accepted
pub steps_same : (answer : Answer (List ℕ)) (new : Session) (alone old : SessionAlone)
    → ((words : List ℕ) → answer ≡ full words → new ≡ with_own alone)
    → stepped answer new (with_own old) ≡ stepped_own (stepped_alone answer alone old)
unfolding stepped stepped_alone
steps_same (refused number) new alone old same = refl
steps_same (full words) new alone old same = rw (same words refl)

module _ (session : SessionAlone) (answers : List ℕ) where
  abbrev net : Network
  net = session.network

  -- ---- first answers

  pub first_answers_alone : (room : ℕ) → first_answer (with_own session) answers room ≡ first_alone session answers room
  unfolding first_answer first_alone
  first_answers_alone room = rw (same_awaits_first session, held_own net, own_size net.nets, same_second net answers)

  few_nets_first : (room : ℕ) (words : List ℕ) → first_answer (with_own session) answers room ≡ full words → net.nets ≤ 48
  unfolding first_answer
  few_nets_first room words e =
      let waits : awaits_first (with_own session) ≡ true = not-false _ (none_passed _ _ words e).0.0 in
      (nets_admitted net (awaits_first_board (with_own session) waits).admitted.0).1

  same_answered : net.nets ≤ 48 → (nets : List ℕ)
      → answered_by net (own_receivers net.nets) answers nets ≡ with_own (answered_by_alone net answers nets)
  same_answered few [] =
      rw (same_fault_free net, same_second net answers) (same_finished net (fault_free_alone net) _ (omega (arith, few, alone_size net)))
  same_answered few (i ∷ nets) = same_awaiting_second net answers

  pub first_steps_alone : (room : ℕ)
      → first_answered (with_own session) answers room ≡ stepped_own (first_answered_alone session answers room)
  first_steps_alone room =
      let own = own_receivers net.nets in
      let alone = answered_by_alone net answers (unclear_alone net answers) in
      steps_same (first_answer (with_own session) answers room) _ alone session
      (λ words e. ap (λ (owners : List ℕ). answered_by net owners answers (unclear net owners answers)) (held_own net)
      ∙ ap (answered_by net own answers) (same_unclear net answers)
      ∙ same_answered (few_nets_first room words e) (unclear_alone net answers))
      ∙ ap (λ (answer : Answer (List ℕ)). stepped_own (stepped_alone answer alone session)) (first_answers_alone room)

  -- ---- second answers

  pub second_answers_alone : second_answer (with_own session) answers ≡ second_alone session answers
  unfolding second_answer second_alone
  second_answers_alone = rw (same_awaits_second session, held_own net, own_size net.nets, same_second net (held_alone session))

  few_nets_second : (words : List ℕ) → second_answer (with_own session) answers ≡ full words → net.nets ≤ 48
  unfolding second_answer
  few_nets_second words e =
      let waits : awaits_second (with_own session) ≡ true = not-false _ (none_passed _ _ words e).0.0 in
      (nets_admitted net (awaits_second_board (with_own session) waits).admitted.0).1

  -- the record after them, by the receivers, their number and the vectors of step two
  abbrev ended : (owners : List ℕ) → ℕ → (second : List ℕ) → Session
  ended owners m second =
      let vectors = first_vectors net ++ second in
      finished net owners (read_back net m net.nets vectors (held_alone session ++ answers)) (length vectors)

  abbrev state_alone : List ℕ
  state_alone = read_back net net.nets net.nets (vectors_driven_alone session) (held_alone session ++ answers)

  abbrev ended_alone : SessionAlone
  ended_alone = finished_alone net state_alone (length (vectors_driven_alone session))

  state_size : length state_alone ≡ net.nets
  state_size = read_size net net.nets net.nets (vectors_driven_alone session) (held_alone session ++ answers)

  same_ended : net.nets ≤ 48
      → ended (own_receivers net.nets) net.nets (second_vectors_alone net (held_alone session)) ≡ with_own ended_alone
  same_ended few = same_finished net state_alone (length (vectors_driven_alone session)) (omega (arith, few, state_size))

  pub second_steps_alone : second_answered (with_own session) answers ≡ stepped_own (second_answered_alone session answers)
  second_steps_alone =
      let held = held_alone session in
      let own = own_receivers net.nets in
      steps_same (second_answer (with_own session) answers) _ ended_alone session
      (λ words e. ap (λ (owners : List ℕ). ended owners (length owners) (second_vectors net owners held)) (held_own net)
      ∙ ap₂ (ended own) (own_size net.nets) (same_second net held)
      ∙ same_ended (few_nets_second words e))
      ∙ ap (λ (answer : Answer (List ℕ)). stepped_own (stepped_alone answer ended_alone session)) second_answers_alone

-- ---- the vectors to drive

pub drives_alone : (session : SessionAlone) (one two : List ℕ) → to_drive (with_own session) one two ≡ to_drive_alone session one two
unfolding to_drive to_drive_alone
drives_alone session one two =
    let net = session.network in
    rw (same_awaits_first session, same_awaits_second session, held_own net, same_second net (held_alone session))
