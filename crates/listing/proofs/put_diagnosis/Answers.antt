use Rattle.std.proofs.Common.{ℕ, ◌+◌, ◌≤◌, Result, Ok, Err, ◌≡◌, ◌∙◌, sym, ap, subst, arith, List, ◌++◌, length, take}
use Rattle.std.proofs.Common.{replicate}
use Rattle.arrayvec.specs.ArrayVec.{array_vec_len}
use Rattle.words.specs.Answers.{Answer, refused, full, lent_after, count_of}
use Rattle.network.specs.declared.Network.{Network}
use Rattle.network.specs.States.{State}
use Rattle.network.specs.Rows.{AdmittedBoard}
use Rattle.network.proofs.Rows.{nets_admitted}
use Rattle.network.specs.OwnReceivers.{own_receivers}
use Rattle.network.specs.declared.refusal.Refusal.{Refusal}
use Rattle.network.specs.Refusing.{row_number, answer_of}
use Rattle.diagnosis.specs.Diagnosis.{diagnosis_answer}
use Rattle.listing.specs.Report.{refused_line}
use Rattle.listing.proofs.Reporting.{own_front, diagnosis_refused, diagnosis_wrote}
use Rattle.listing.proofs.put_diagnosis.Goals as goal

-- the own receivers are at the front of their list
own : (nets : ℕ) (list : List ℕ) → list ≡ lent_after (full (own_receivers nets)) (replicate 48 0)
    → take nets list ≡ own_receivers nets
own nets list e = own_front nets (replicate 48 0) list e

-- the diagnosis has answered for own receivers
module _ (net : Network) (k : ℕ) (vectors responses : List ℕ) (said : Result ℕ Refusal) (state list : List ℕ)
    (front : list ≡ lent_after (full (own_receivers net.nets)) (replicate 48 0)) where
  abbrev answer_for : List ℕ → Answer (List ℕ)
  answer_for owners = diagnosis_answer net owners k vectors responses 48

  abbrev Told : List ℕ → Type 0
  Told owners = (answer_of said ≡ count_of (answer_for owners)) × (state ≡ lent_after (answer_for owners) (replicate 48 0))

  module _ (answered : Told (take net.nets list)) where
    told : Told (own_receivers net.nets)
    told = subst Told (own net.nets list front) answered

    refused_so : (refusal : Refusal) → said ≡ Err refusal → answer_for (own_receivers net.nets) ≡ refused (row_number refusal)
    refused_so refusal is = diagnosis_refused net k vectors responses (replicate 48 0) state said refusal told.0 is

    wrote_so : (count : ℕ) → said ≡ Ok count
        → (answer_for (own_receivers net.nets) ≡ full (take net.nets state)) × AdmittedBoard net (own_receivers net.nets)
        × State net (length (own_receivers net.nets)) net.nets (take net.nets state)
    wrote_so count is = diagnosis_wrote net k vectors responses (replicate 48 0) state said count told.0 told.1 is

pub put_refused-requires : goal.put_refused-requires
put_refused-requires c =
    let set = c.args.set in
    let d = c.diagnose-answer in
    subst (λ (n : ℕ). array_vec_len c.args.text.now + length (refused_line n) ≤ 4142) (omega (arith, c.from.ensures))
    (rw (refused_so set.nets.network set.class set.vectors.now c.args.responses.now d.result d.new.out
    c.fill_own.new.out c.fill_own.ensures (d.ensures.answer, d.ensures.list) c.in-Err.refusal c.in-Err.is)
    at c.requires)

pub invariant_of-put_nets : goal.invariant_of-put_nets
invariant_of-put_nets c =
    let set = c.args.set in
    let d = c.diagnose-answer in
    let wrote = wrote_so set.nets.network set.class set.vectors.now c.args.responses.now d.result d.new.out
    c.fill_own.new.out c.fill_own.ensures (d.ensures.answer, d.ensures.list) c.in-Ok.field-0 c.in-Ok.is in
    record {
      two = (nets_admitted set.nets.network wrote.1.0).0;
      admitted = subst (AdmittedBoard set.nets.network)
          (sym (own set.nets.network.nets c.fill_own.new.out c.fill_own.ensures)) wrote.1;
    }

pub put_nets-requires-clause-own : goal.put_nets-requires-clause-own
put_nets-requires-clause-own c = own c.args.set.nets.network.nets c.fill_own.new.out c.fill_own.ensures

pub put_nets-requires-clause-state : goal.put_nets-requires-clause-state
put_nets-requires-clause-state c =
    let set = c.args.set in
    let net = set.nets.network in
    let d = c.diagnose-answer in
    let wrote = wrote_so net set.class set.vectors.now c.args.responses.now d.result d.new.out
    c.fill_own.new.out c.fill_own.ensures (d.ensures.answer, d.ensures.list) c.in-Ok.field-0 c.in-Ok.is in
    subst (λ (owners : List ℕ). State net (length owners) net.nets (take net.nets d.new.out))
    (sym (own net.nets c.fill_own.new.out c.fill_own.ensures)) wrote.2

pub put_nets-requires-clause-room : goal.put_nets-requires-clause-room
put_nets-requires-clause-room c =
    let set = c.args.set in
    let d = c.diagnose-answer in
    let wrote = wrote_so set.nets.network set.class set.vectors.now c.args.responses.now d.result d.new.out
    c.fill_own.new.out c.fill_own.ensures (d.ensures.answer, d.ensures.list) c.in-Ok.field-0 c.in-Ok.is in
    rw wrote.0 at c.requires

pub returns-in-Err : goal.returns-in-Err
returns-in-Err c =
    let set = c.args.set in
    let d = c.diagnose-answer in
    rw (refused_so set.nets.network set.class set.vectors.now c.args.responses.now d.result d.new.out
    c.fill_own.new.out c.fill_own.ensures (d.ensures.answer, d.ensures.list) c.in-Err.refusal c.in-Err.is)
    (c.put_refused.ensures
    ∙ ap (λ (n : ℕ). c.args.text.now.items ++ refused_line n) (omega (arith, c.from.ensures)))

pub returns-in-Ok : goal.returns-in-Ok
returns-in-Ok c =
    let set = c.args.set in
    let d = c.diagnose-answer in
    let wrote = wrote_so set.nets.network set.class set.vectors.now c.args.responses.now d.result d.new.out
    c.fill_own.new.out c.fill_own.ensures (d.ensures.answer, d.ensures.list) c.in-Ok.field-0 c.in-Ok.is in
    rw wrote.0 c.put_nets.ensures
