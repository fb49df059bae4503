use Rattle.std.proofs.Common.{ℕ, arith, ◌≡◌, refl, sym, ap, ◌∙◌, ◌≢◌, List, [], ◌∷◌, length, length-append, eq-eqb}
use Rattle.std.proofs.Common.{eqb-true}
use Rattle.network.specs.declared.Network.{Network}
use Rattle.steps.specs.FirstStep.{word_length, first_vectors}
use Rattle.steps.specs.SecondStep.{unclear, second_vectors, session_vectors, fault_free_state}
use Rattle.steps.proofs.StepOneWords.{length_bounds, first_size}
use Rattle.steps.proofs.BothSteps.{second_none}
use Rattle.steps.proofs.StepTwoVectors.{second_empty}
use Rattle.session.specs.Record.{awaiting_second, finished}
use Rattle.session.specs.Calls.{answered_by}
use Rattle.session.proofs.new_record.answered.Goals as goal

-- no vectors of step two: no net is unclear, and the vectors are those of step one
module _ (net : Network) (owners answers : List ℕ) where
  answered_none : length (second_vectors net owners answers) ≡ 0
      → finished net owners (fault_free_state owners) (word_length net)
      ≡ answered_by net owners answers (unclear net owners answers)
  answered_none e = go (unclear net owners answers) refl
    where
      none : length (unclear net owners answers) ≡ 0
      none = eqb-true _ 0 (sym (second_empty net owners answers) ∙ eq-eqb _ 0 e)

      spent : word_length net ≡ length (session_vectors net owners answers)
      spent = sym (length-append (first_vectors net) (second_vectors net owners answers)
          ∙ (let a = first_size net in omega arith))

      go : (nets : List ℕ) → unclear net owners answers ≡ nets
          → finished net owners (fault_free_state owners) (word_length net) ≡ answered_by net owners answers nets
      go [] q = ap (finished net owners (fault_free_state owners)) spent
      go (i ∷ nets) q = absurd (let z : length (i ∷ nets) ≡ 0 = ap length (sym q) ∙ none in omega arith)

  answered_some : length (second_vectors net owners answers) ≢ 0
      → awaiting_second net owners answers ≡ answered_by net owners answers (unclear net owners answers)
  answered_some d = go (unclear net owners answers) refl
    where
      go : (nets : List ℕ) → unclear net owners answers ≡ nets
          → awaiting_second net owners answers ≡ answered_by net owners answers nets
      go [] q = absurd (d (ap length (second_none net owners answers (ap length q))))
      go (i ∷ nets) q = refl

pub returns-then-count-eq0 : goal.returns-then-count-eq0
returns-then-count-eq0 c =
    let net = c.args.board.nets.network in
    let owners = c.args.board.receivers.now in
    rw (c.finished.ensures, c.as_slice.ensures.value, c.fault_free-state.ensures, c.word_length.ensures)
    (answered_none net owners c.args.answers.now (sym c.requires.1 ∙ c.if-count-eq0.true))

pub awaiting_second-requires : goal.awaiting_second-requires
awaiting_second-requires c =
    let nets = c.args.board.nets in
    omega (arith, length_bounds nets.network c.args.board.two nets.few, c.requires.0)

pub returns : goal.returns
returns c =
    c.awaiting_second.ensures
    ∙ answered_some c.args.board.nets.network c.args.board.receivers.now c.args.answers.now
    (λ e. c.if-count-eq0.false (c.requires.1 ∙ e))
