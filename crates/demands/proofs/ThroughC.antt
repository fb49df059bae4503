-- Through the C interface the session's calls are the calls on the record.
use Rattle.std.proofs.Common.{eqb-true, leb-true, arith, ℕ, ◌^◌, ◌≤◌, ◌≡◌, refl, sym, ap, ◌∙◌, subst, Bool, true}
use Rattle.std.proofs.Common.{false, cond, List, [], ◌∷◌, eqb, leb, length, take, length-take-le}
use borrow.Author.Tests.{not-false}
use lib.ListN.{length-map}
use Rattle.words.specs.Bits.{at}
use Rattle.words.specs.Answers.{Answer, refused, full, by_tests, lent_after}
use Rattle.words.proofs.Answers.{none_passed, Numbered}
use Rattle.network.specs.declared.Network.{Network}
use Rattle.network.proofs.Rows.{nets_admitted, receivers_of_board}
use Rattle.diagnosis.specs.ReadBack.{read_back}
use Rattle.diagnosis.proofs.ReadingBack.{read_size}
use Rattle.steps.specs.FirstStep.{first_vectors}
use Rattle.steps.specs.SecondStep.{unclear, second_vectors, fault_free_state}
use Rattle.steps.proofs.StepOneWords.{length_bounds, first_size}
use Rattle.session.specs.declared.Session.{Session}
use Rattle.session.specs.Record.{held_owners, held_answers, awaits_first, awaits_second}
use Rattle.session.specs.Calls.{begin_answer, stepped, first_answer, answered_by, vectors_driven, all_answers, second_answer}
use Rattle.session.specs.Drive.{front, to_drive}
use Rattle.session.proofs.Padding.{pad_size}
use Rattle.session.proofs.Records.{awaits_first_step, awaits_first_board, awaits_second_step, awaits_second_board}
use Rattle.packing.specs.Packed.{session_size, session_words, session_of}
use Rattle.packing.proofs.Words.{Sized, session_sized, words_size, session_back}
use Rattle.exports.specs.Exported.{code, in_words, fixed_after}
use Rattle.exports.proofs.CallLaws.{stepped_words}
use Rattle.demands.specs.SessionCalls.{Call, begin, first, second, lent}
use Rattle.demands.specs.Programs.{our_answer, our_new, our_sessions}
use Rattle.demands.specs.ThroughC.{exported_answer, exported_session, exported, SameInWords, SessionsThroughC}
use Rattle.demands.proofs.Telling.{begin_in}

-- ---- accepted calls leave records with arrays of 64, 8 and 64 words

answered_sized : (net : Network) (owners answers nets : List ℕ) → length answers ≤ 8 → length owners ≤ 64
    → Sized (answered_by net owners answers nets)
unfolding fault_free_state
answered_sized net owners answers [] few most = record {
  owners_size = pad_size 64 owners most;
  first_size = refl;
  reaches_size = pad_size 64 (fault_free_state owners) (omega (arith, most, length-map owners (λ i. 2 ^ i)));
}
answered_sized net owners answers (i ∷ nets) few most = record {
  owners_size = pad_size 64 owners most;
  first_size = pad_size 8 answers few;
  reaches_size = refl;
}

new_sized : (session : Session) (call : Call) (words : List ℕ) → our_answer session call ≡ full words → Sized (our_new session call)
unfolding first_answer second_answer
new_sized session (begin net owners list) words e = record {
  owners_size = pad_size 64 owners (receivers_of_board net owners (begin_in session net owners list words e).admitted).most;
  first_size = refl;
  reaches_size = refl;
}
new_sized session (first answers list) words e =
    let net = session.network in
    let owners = held_owners session in
    let rows = (none_passed _ _ words e).0 in
    let board = awaits_first_board session (not-false _ rows.0) in
    let nets = nets_admitted net board.admitted.0 in
    let size : length answers ≡ length (first_vectors net) = eqb-true _ _ (not-false _ rows.1.0) in
    answered_sized net owners answers (unclear net owners answers)
    (omega (arith, size, first_size net, (length_bounds net nets.0 nets.1).1)) (omega (arith, board.count, board.few))
new_sized session (second answers) words e =
    let net = session.network in
    let owners = held_owners session in
    let board = awaits_second_board session (not-false _ (none_passed _ _ words e).0.0) in
    let few : length owners ≤ 64 = omega (arith, board.count, board.few) in
    let state = read_back net (length owners) net.nets (vectors_driven session) (all_answers session answers) in
    let one_a_receiver : length state ≡ length owners =
    read_size net (length owners) net.nets (vectors_driven session) (all_answers session answers) in
    record {
      owners_size = pad_size 64 owners few;
      first_size = refl;
      reaches_size = pad_size 64 state (omega (arith, few, one_a_receiver));
    }

-- ---- one call

-- what the interface says of the words is what the call does on their record
answered : (words : List ℕ) (call : Call) → exported_answer words call ≡ our_answer (session_of words) call
answered words (begin net owners list) = refl
answered words (first answers list) = refl
answered words (second answers) = refl

session_is : (words : List ℕ) (call : Call)
    → exported_session words call
    ≡ in_words (λ _. session_words (our_sessions (session_of words) call).session) (our_answer (session_of words) call)
session_is words (begin net owners list) = refl
session_is words (first answers list) = refl
session_is words (second answers) = refl

module _ (words : List ℕ) (size : length words ≡ session_size) where
  -- the record after a call, by its answer
  sized_after : (a : Answer (List ℕ)) (new : Session) → ((list : List ℕ) → a ≡ full list → Sized new)
      → Sized (stepped a new (session_of words)).session
  unfolding stepped
  sized_after (refused number) new sized = session_sized words size
  sized_after (full list) new sized = sized list refl

  module _ (call : Call) where
    abbrev after : Session
    after = (our_sessions (session_of words) call).session

    kept : Sized after
    kept = sized_after (our_answer (session_of words) call) (our_new (session_of words) call) (new_sized (session_of words) call)

    words_are : (exported words call).session ≡ session_words after
    words_are =
        ap (λ (a : Answer (List ℕ)). fixed_after a words) (session_is words call)
        ∙ sym (stepped_words (our_answer (session_of words) call) (our_new (session_of words) call) words size)

    size_kept : length (exported words call).session ≡ session_size
    size_kept = ap length words_are ∙ words_size after kept

    session_kept : session_of (exported words call).session ≡ after
    session_kept = ap session_of words_are ∙ session_back after kept

-- ---- a call that returns 0

zero_full : {A : Type 0} (tests : List (ℕ × Bool)) (x : A) → Numbered tests → code (by_tests tests x) ≡ 0 → by_tests tests x ≡ full x
unfolding by_tests code
zero_full [] x n e = refl
zero_full ((number, test) ∷ tests) x (n, more) e = go test e (zero_full tests x more)
  where
    go : (t : Bool) → code (cond t (refused number) (by_tests tests x)) ≡ 0 → (code (by_tests tests x) ≡ 0 → by_tests tests x ≡ full x)
        → cond t (refused number) (by_tests tests x) ≡ full x
    go true q later = absurd (n q)
    go false q later = later q

zero_accepted : (session : Session) (call : Call) → code (our_answer session call) ≡ 0
    → (written : List ℕ) × (our_answer session call ≡ full written)
unfolding begin_answer first_answer second_answer
zero_accepted session (begin net owners list) e = (
  _,
  zero_full _ _
      (λ q. omega (arith, q), (λ q. omega (arith, q), (λ q. omega (arith, q), (λ q. omega (arith, q), (λ q. omega (arith, q), tt))))) e,
)
zero_accepted session (first answers list) e =
    (_, zero_full _ _ (λ q. omega (arith, q), (λ q. omega (arith, q), (λ q. omega (arith, q), (λ q. omega (arith, q), tt)))) e)
zero_accepted session (second answers) e =
    (_, zero_full _ _ (λ q. omega (arith, q), (λ q. omega (arith, q), (λ q. omega (arith, q), (λ q. omega (arith, q), tt)))) e)

-- ---- the part to drive

front_part : (count : ℕ) (list : List ℕ) → take (length (front count list)) list ≡ front count list
front_part count list = go (leb count (length list)) refl
  where
    go : (b : Bool) → leb count (length list) ≡ b → take (length (cond b (take count list) [])) list ≡ cond b (take count list) []
    go true e = ap (λ (n : ℕ). take n list) (length-take-le count list (leb-true count (length list) e))
    go false e = refl

module _ (s : Session) (one two : List ℕ) where
  abbrev first_part : List ℕ
  first_part = front (length (first_vectors s.network)) one

  abbrev second_part : List ℕ
  second_part = front (length (second_vectors s.network (held_owners s) (held_answers s))) two

  drive_part : take (length (to_drive s one two)) (cond (eqb s.step 1) one two) ≡ to_drive s one two
  unfolding to_drive
  drive_part = go (awaits_first s) (awaits_second s) refl refl
    where
      go : (a b : Bool) → awaits_first s ≡ a → awaits_second s ≡ b
          → take (length (cond a first_part (cond b second_part []))) (cond (eqb s.step 1) one two)
          ≡ cond a first_part (cond b second_part [])
      go true b e f = rw (ap (λ (n : ℕ). eqb n 1) (awaits_first_step s e)) (front_part (length (first_vectors s.network)) one)
      go false true e f = rw (ap (λ (n : ℕ). eqb n 1) (awaits_second_step s f))
          (front_part (length (second_vectors s.network (held_owners s) (held_answers s))) two)
      go false false e f = refl

step_is : (words : List ℕ) → (session_of words).step ≡ at words 0
unfolding session_of
step_is words = refl

-- ---- lists of calls

pub sessions_through_c : SessionsThroughC
sessions_through_c words size [] = record {
  size = size;
  session = refl;
  returned = λ call. ap code (answered words call);
  accepted = λ call e. zero_accepted (session_of words) call (sym (ap code (answered words call)) ∙ e);
  list = λ call. ap (λ (a : Answer (List ℕ)). lent_after a (lent call)) (answered words call);
  drive_size = λ one two. refl;
  drive = λ one two. rw (sym (step_is words)) (drive_part (session_of words) one two);
}
sessions_through_c words size (call ∷ calls) =
    let next = (exported words call).session in
    let r = subst (λ (start : Session). SameInWords next start calls) (session_kept words size call)
    (sessions_through_c next (size_kept words size call) calls) in
    record {
      size = r.size;
      session = r.session;
      returned = r.returned;
      accepted = r.accepted;
      list = r.list;
      drive_size = r.drive_size;
      drive = r.drive;
    }
