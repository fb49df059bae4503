use Rattle.std.proofs.Common.{◌≡◌, sym, ap, ◌∙◌, Bool, true, not, List, ◌++◌, length, ℕ}
use borrow.Author.Tests.{not-true, not-false}
use Rattle.network.proofs.Rows.{no_high_bit, receivers_of_board}
use Rattle.words.specs.Answers.{Decides}
use Rattle.network.specs.States.{Fits}
use Rattle.network.specs.Rows.{HighBit}
use Rattle.steps.specs.declared.settling.BothSteps.{BothSteps}
use Rattle.diagnosis.specs.ReadBack.{read_back, no_state_fits}
use Rattle.steps.specs.SecondStep.{session_vectors}
use Rattle.steps.proofs.StepOneWords.{words_apart}
use Rattle.steps.proofs.BothSteps.{candidate_decides}
use Rattle.steps.proofs.settling.settled.Goals as goal

-- the reaches decoded decide whether a state fits, and are what is read back
module _ (both : BothSteps) where
  abbrev fits : List ℕ → Type 0
  fits state =
      Fits both.board.nets.network (length both.board.receivers.now) both.board.nets.network.nets
      (session_vectors both.board.nets.network both.board.receivers.now both.first.now)
      (both.first.now ++ both.second.now) state

  abbrev none_fits : Bool
  none_fits =
      no_state_fits both.board.nets.network (length both.board.receivers.now) both.board.nets.network.nets
      (session_vectors both.board.nets.network both.board.receivers.now both.first.now)
      (both.first.now ++ both.second.now)

  abbrev back : List ℕ
  back =
      read_back both.board.nets.network (length both.board.receivers.now) both.board.nets.network.nets
      (session_vectors both.board.nets.network both.board.receivers.now both.first.now)
      (both.first.now ++ both.second.now)

  decides : (HighBit (length both.board.receivers.now) both.first.now → ⊥)
      → (HighBit (length both.board.receivers.now) both.second.now → ⊥)
      → (reaches lent : List ℕ) (test : Bool) → ((state : List ℕ) → fits state → reaches ≡ state) → lent ≡ reaches
      → Decides test (fits lent) → (test ≡ not none_fits) × (test ≡ true → reaches ≡ back)
  decides narrow also_narrow reaches lent test only same told =
      let nets = both.board.nets in
      let owners = both.board.receivers.now in
      candidate_decides nets.network owners both.first.now both.second.now both.one_a_word
      (both.one_a_vector ∙ ap length both.asked)
      (no_high_bit (length owners) both.first.now narrow)
      (no_high_bit (length owners) both.second.now also_narrow)
      (words_apart nets.network both.board.two nets.few)
      (receivers_of_board nets.network owners both.board.admitted)
      reaches test only (rw same at told)

pub returns-then-fits_both : goal.returns-then-fits_both
returns-then-fits_both c =
    let state = c.decoded-state in
    let found = decides c.args.both c.requires.0 c.requires.1 state.result.items c.as_slice.result.now c.fits_both.result
    state.ensures.only c.as_slice.ensures.value c.fits_both.ensures in
    (not-true _ (sym found.0 ∙ c.if-fits_both.true), found.1 c.if-fits_both.true)

pub returns-else-fits_both : goal.returns-else-fits_both
returns-else-fits_both c =
    let state = c.decoded-state in
    let found = decides c.args.both c.requires.0 c.requires.1 state.result.items c.as_slice.result.now c.fits_both.result
    state.ensures.only c.as_slice.ensures.value c.fits_both.ensures in
    not-false _ (sym found.0 ∙ c.if-fits_both.false)
