use Rattle.std.proofs.Common.{◌≡◌, sym, ap, ◌∙◌, true, false, arith, List, [], ◌∷◌, ◌++◌, length, length-append, ◌+◌}
use Rattle.std.proofs.Common.{◌^◌, ◌<◌, ◌≤◌, ℕ, below_more, ext_get_or}
use lib.ListN.{get_or-append}
use lib.Seq.{get_or_at}
use Rattle.words.specs.Bits.{at}
use Rattle.words.specs.Turning.{column}
use Rattle.network.specs.declared.Network.{Network}
use Rattle.network.specs.States.{Fits}
use Rattle.network.proofs.Rows.{AdmittedReceivers, receivers_of_board}
use Rattle.diagnosis.specs.Walking.{Walked}
use Rattle.steps.specs.FirstStep.{word_length}
use Rattle.steps.specs.SecondStep.{is_clear, second_vectors, session_vectors}
use Rattle.steps.specs.declared.settling.BothSteps.{BothSteps}
use Rattle.steps.proofs.StepOneWords.{length_bounds, words_apart, words_size}
use Rattle.steps.proofs.StepTwoVectors.{clear_test}
use Rattle.steps.proofs.BothSteps.{clear_reach, fits_first, decoded_reach, second_most}
use Rattle.steps.proofs.settling.decoded.Invariants.{OnlyReach}
use Rattle.steps.proofs.settling.decoded.Goals as goal
use Rattle.steps.proofs.settling.decoded.Goals.{else-only_from, then-only_from}

module _ (net : Network) (owners first second : List ℕ) (two : 2 ≤ net.nets) (most : net.nets ≤ 48)
    (board : AdmittedReceivers net owners)
    (size : length first ≡ word_length net) where
  reach_clear : (r reach : ℕ) → r < length owners → is_clear net owners first (at owners r) ≡ true
      → reach ≡ 2 ^ at owners r → OnlyReach net owners first second r reach
  reach_clear r reach l e own state fits =
      let apart = words_apart net two most in
      own
      ∙ sym (clear_reach net apart owners board first state
      (fits_first net apart owners board first second state size fits) r l e)

  reach_shown : (vectors : List ℕ) (r reach answered : ℕ) → r < length owners
      → is_clear net owners first (at owners r) ≡ false → vectors ≡ second_vectors net owners first
      → answered ≡ column second r → Walked net vectors answered reach → OnlyReach net owners first second r reach
  reach_shown vectors r reach answered l e same returned walked state fits =
      decoded_reach net (words_apart net two most) owners board first second state size fits r reach l e
      (rw (← same, ← returned) walked)

  -- such reaches are the only state that can fit
  only_state : (reaches : List ℕ) → length reaches ≡ length owners
      → ((r : ℕ) → r < length owners → OnlyReach net owners first second r (at reaches r))
      → (state : List ℕ) → Fits net (length owners) net.nets (session_vectors net owners first)
      (first ++ second) state → reaches ≡ state
  only_state reaches all only state fits =
      ext_get_or 0 reaches state (all ∙ sym fits.of_class.size) (λ r l. only r (rw all at l) state fits)

-- one more reach is written
one_more : (net : Network) (owners first second reaches : List ℕ) (r reach : ℕ) → length reaches ≡ r
    → ((z : ℕ) → z < r → OnlyReach net owners first second z (at reaches z)) → OnlyReach net owners first second r reach
    → (length (reaches ++ reach ∷ []) ≡ r + 1)
    × ((z : ℕ) → z < r + 1 → OnlyReach net owners first second z (at (reaches ++ reach ∷ []) z))
one_more net owners first second reaches r reach size before here = (
  length-append reaches (reach ∷ []) ∙ ap (λ (n : ℕ). n + 1) size,
  below_more (λ z. OnlyReach net owners first second z (at (reaches ++ reach ∷ []) z)) r
      (λ z m state fits. get_or-append reaches (reach ∷ []) 0 z (rw size m) ∙ before z m state fits)
      (λ state fits. get_or_at reaches reach [] 0 r size ∙ here state fits),
)

admitted : (both : BothSteps) → AdmittedReceivers both.board.nets.network both.board.receivers.now
admitted both = receivers_of_board both.board.nets.network both.board.receivers.now both.board.admitted

-- step two has few vectors
few_vectors : (both : BothSteps) → length both.vectors.now ≤ 49
few_vectors both =
    omega (
      arith,
      both.board.nets.few,
      ap length both.asked,
      second_most both.board.nets.network both.board.receivers.now both.first.now,
    )

pub answers_of-returned-requires : goal.answers_of-returned-requires
answers_of-returned-requires c =
    let nets = c.args.both.board.nets in
    ((admitted c.args.both).most, omega (arith, c.args.both.one_a_word, (length_bounds nets.network c.args.both.board.two nets.few).1))

pub answers_of-answers-requires : goal.answers_of-answers-requires
answers_of-answers-requires c = ((admitted c.args.both).most, omega (arith, c.args.both.one_a_vector, few_vectors c.args.both))

pub bounds-as_slice-i : goal.bounds-as_slice-i
bounds-as_slice-i c =
    let nets = c.args.both.board.nets in
    rw (c.as_slice.ensures.value, c.sequential_words-words.ensures, words_size nets.network c.args.both.board.two nets.few)
    ((admitted c.args.both).owner c.loop-r.r c.loop-r-test.true)

pub walking_reach-reach-requires : goal.walking_reach-reach-requires
walking_reach-reach-requires c = omega (arith, few_vectors c.args.both)

pub loop-r-preserved : goal.loop-r-preserved
loop-r-preserved c =
    let both = c.args.both in
    let nets = both.board.nets in
    let net = nets.network in
    let owners = both.board.receivers.now in
    let first = both.first.now in
    let second = both.second.now in
    let l = c.loop-r in
    let inside : l.r < length owners = c.loop-r-test.true in
    let returned = c.answers_of-returned in
    let test : c.only_from.result ≡ is_clear net owners first (at owners l.r) =
    c.only_from.ensures
    ∙ clear_test net owners c.as_slice.result.now returned.result first (at owners l.r)
    (c.as_slice.ensures.value ∙ c.sequential_words-words.ensures)
    (omega (arith, (admitted c.args.both).most, returned.ensures.0)) returned.ensures.1
    in
    let here : OnlyReach net owners first second l.r c.if-only_from.reach =
    elim c.if-only_from.branch [
      | then-only_from w ↦ rw w.reach-is
          (reach_clear net owners first second c.args.both.board.two nets.few (admitted c.args.both) both.one_a_word l.r w.bit_word-reach.result
          inside (sym test ∙ w.if-only_from.true) w.bit_word-reach.ensures)
      | else-only_from w ↦ rw w.reach-is
          (reach_shown net owners first second c.args.both.board.two nets.few (admitted c.args.both) both.one_a_word both.vectors.now l.r
          w.walking_reach-reach.result (at c.answers_of-answers.result l.r) inside (sym test ∙ w.if-only_from.false)
          both.asked (c.answers_of-answers.ensures.1 l.r inside) w.walking_reach-reach.ensures)
    ] in
    rw c.push.ensures.items
    (one_more net owners first second l.reaches.items l.r c.if-only_from.reach l.invariant.0 l.invariant.1 here)

pub returns-clause-only : goal.returns-clause-only
returns-clause-only c =
    let both = c.args.both in
    let nets = both.board.nets in
    let l = c.loop-r in
    let all : l.r ≡ length both.board.receivers.now = omega arith in
    only_state nets.network both.board.receivers.now both.first.now both.second.now c.args.both.board.two nets.few
    (admitted c.args.both) both.one_a_word l.reaches.items (l.invariant.0 ∙ all) (λ r m. l.invariant.1 r (rw all m))
