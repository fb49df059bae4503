use Rattle.std.proofs.Common.{◌≡◌, sym, ap, ◌∙◌, Bool, false, arith, List, ◌++◌, length, ◌^◌, ◌<◌, ◌≤◌, ℕ}
use Rattle.std.proofs.lemmas.Bool.{false≢true}
use Rattle.words.specs.Bits.{at}
use Rattle.words.proofs.Tests.{contrary}
use Rattle.network.specs.declared.Network.{Network}
use Rattle.network.specs.Reading.{response}
use Rattle.network.specs.States.{State, Fits, not_a_state}
use Rattle.network.specs.declared.admitting.Board.{Board}
use Rattle.network.proofs.Rows.{receivers_of_board}
use Rattle.network.proofs.States.{test→state, state→test}
use Rattle.steps.specs.FirstStep.{word_length, first_vectors}
use Rattle.steps.specs.SecondStep.{second_vectors, session_vectors}
use Rattle.steps.proofs.StepOneWords.{first_size}
use Rattle.steps.proofs.BothSteps.{fits_parts, fits_both}
use Rattle.steps.proofs.settling.fits_both.Goals as goal

-- a state that fits both answers gives each, and one that gives each fits both
module _ (net : Network) (owners first vectors second state : List ℕ) (size : length first ≡ word_length net)
    (same : vectors ≡ second_vectors net owners first) where
  gives_each : Fits net (length owners) net.nets (session_vectors net owners first) (first ++ second) state
      → (response net state (first_vectors net) ≡ first) × (response net state vectors ≡ second)
  gives_each h =
      let parts = fits_parts net (first_vectors net) (second_vectors net owners first) (length owners)
      net.nets first second state (size ∙ sym (first_size net)) h in
      (parts.0.gives, ap (response net state) same ∙ parts.1.gives)

  each_fits : State net (length owners) net.nets state → response net state (first_vectors net) ≡ first
      → response net state vectors ≡ second
      → Fits net (length owners) net.nets (session_vectors net owners first) (first ++ second) state
  each_fits s f g =
      fits_both net (first_vectors net) (second_vectors net owners first) (length owners) net.nets first second state
      (record { of_class = s; gives = f })
      (record { of_class = s; gives = ap (response net state) (sym same) ∙ g })

-- a list that row 11's test has passed: a reach for each receiver, and none outside the nets
readable : (board : Board) (state : List ℕ) {test : Bool} → length state ≡ length board.receivers.now
    → test ≡ not_a_state board.nets.network (length board.receivers.now) board.nets.network.nets state → test ≡ false
    → (length state ≤ 64) × ((i : ℕ) → i < length state → at state i < 2 ^ board.nets.network.nets)
readable board state size told passed =
    let net = board.nets.network in (
      omega (arith, size, (receivers_of_board net board.receivers.now board.admitted).most),
      λ i l. ((test→state net (length board.receivers.now) net.nets state (sym told ∙ passed)).reach i l).inside,
    )

pub returns-then-not_a_state : goal.returns-then-not_a_state
returns-then-not_a_state c =
    let board = c.args.both.board in (
      λ e. absurd (false≢true e),
      λ e h. contrary (sym c.not_a_state.ensures ∙ c.if-not_a_state.true)
          (state→test board.nets.network (length board.receivers.now) board.nets.network.nets c.args.state.now h.of_class),
    )

pub gives_response-requires : goal.gives_response-requires
gives_response-requires c =
    let both = c.args.both in
    let read = readable both.board c.args.state.now c.requires c.not_a_state.ensures c.if-not_a_state.false in (
      both.one_a_word ∙ sym (first_size both.board.nets.network)
          ∙ sym (ap length (c.as_slice.ensures.value ∙ c.first_vectors-vectors.ensures)),
      read.0,
      read.1,
    )

pub gives_response-requires-then-gives_response : goal.gives_response-requires-then-gives_response
gives_response-requires-then-gives_response c =
    let both = c.args.both in
    let read = readable both.board c.args.state.now c.requires c.not_a_state.ensures c.if-not_a_state.false in
    (both.one_a_vector, read.0, read.1)

pub returns-then-gives_response : goal.returns-then-gives_response
returns-then-gives_response c =
    let both = c.args.both in
    let net = both.board.nets.network in
    let owners = both.board.receivers.now in
    let state = c.args.state.now in
    let s = test→state net (length owners) net.nets state (sym c.not_a_state.ensures ∙ c.if-not_a_state.false) in
    let vectors_are = c.as_slice.ensures.value ∙ c.first_vectors-vectors.ensures in
    let one = c.gives_response.ensures.0 c.if-gives_response.true in (
      λ e. each_fits net owners both.first.now both.vectors.now both.second.now state both.one_a_word both.asked s
          (ap (response net state) (sym vectors_are) ∙ one) (c.gives_response-then-gives_response.ensures.0 e),
      λ e h. c.gives_response-then-gives_response.ensures.1 e
          (gives_each net owners both.first.now both.vectors.now both.second.now state both.one_a_word both.asked h).1,
    )

pub returns-else-gives_response : goal.returns-else-gives_response
returns-else-gives_response c =
    let both = c.args.both in
    let net = both.board.nets.network in
    let state = c.args.state.now in
    let vectors_are = c.as_slice.ensures.value ∙ c.first_vectors-vectors.ensures in (
      λ e. contrary e c.if-gives_response.false,
      λ e h. c.gives_response.ensures.1 c.if-gives_response.false
          (ap (response net state) vectors_are
          ∙ (gives_each net both.board.receivers.now both.first.now both.vectors.now both.second.now state
          both.one_a_word both.asked h).0),
    )
