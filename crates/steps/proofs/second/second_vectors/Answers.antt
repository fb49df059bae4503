use Rattle.std.proofs.Common.{◌≡◌, sym, ap, ◌∙◌, arith, List, length, ◌≤◌, ℕ}
use Rattle.network.proofs.Rows.{receivers_of_board}
use Rattle.network.specs.declared.admitting.Nets.{Nets}
use Rattle.network.specs.declared.admitting.Board.{Board}
use Rattle.steps.specs.FirstStep.{sequential_words}
use Rattle.steps.specs.SecondStep.{is_clear}
use Rattle.steps.proofs.StepOneWords.{words_size}
use Rattle.steps.proofs.StepTwoVectors.{clear_test, listed, listed_few, listed_start, listed_more, listed_same, listed_none, listed_some}
use Rattle.steps.proofs.second.second_vectors.Goals as goal
use Rattle.steps.proofs.second.second_vectors.Goals.{then-not-only_from, else-not-only_from}

-- as many words as nets
words_count : (nets : Nets) {words read : List ℕ} → 2 ≤ nets.network.nets → read ≡ words → words ≡ sequential_words nets.network
    → length read ≡ nets.network.nets
words_count nets two same is = ap length (same ∙ is) ∙ words_size nets.network two nets.few

pub loop-i-init : goal.loop-i-init
loop-i-init c =
    let board = c.args.board in
    c.extra_alone-vectors.ensures ∙ listed_start board.nets.network board.receivers.now c.args.answers.now

pub walking_vector-requires : goal.walking_vector-requires
walking_vector-requires c =
    rw (words_count c.args.board.nets c.args.board.two c.as_slice-word-items.ensures.value c.sequential_words-words.ensures)
    at c.loop-i-test.true

pub push-requires : goal.push-requires
push-requires c =
    let board = c.args.board in (
      omega arith,
      rw c.loop-i.invariant (omega (
        arith,
        listed_few board.nets.network board.receivers.now c.args.answers.now c.loop-i.i,
        words_count board.nets board.two c.as_slice-word-items.ensures.value c.sequential_words-words.ensures,
        c.loop-i-test.true,
        board.nets.few,
      )),
    )

pub loop-i-preserved : goal.loop-i-preserved
loop-i-preserved c =
    let board = c.args.board in
    let net = board.nets.network in
    let owners = board.receivers.now in
    let answers = c.args.answers.now in
    let i = c.loop-i.i in
    let returned = c.answers_of-returned in
    let test : c.only_from.result ≡ is_clear net owners answers i =
    c.only_from.ensures
    ∙ clear_test net owners c.as_slice-word-items.result.now returned.result answers i
    (c.as_slice-word-items.ensures.value ∙ c.sequential_words-words.ensures)
    (omega (arith, (receivers_of_board net owners board.admitted).most, returned.ensures.0)) returned.ensures.1
    in
    elim c.if-not-only_from.branch [
      | then-not-only_from w ↦ rw (w.vectors-is, w.push.ensures.items, c.loop-i.invariant, w.walking_vector.ensures)
          (listed_more net owners answers i (sym test ∙ w.if-not-only_from.true))
      | else-not-only_from w ↦ rw (w.vectors-is, c.loop-i.invariant)
          (listed_same net owners answers i (sym test ∙ w.if-not-only_from.false))
    ]

-- the loop has listed for each net
all_listed : (board : Board) (answers : List ℕ) {words read vectors : List ℕ} {i : ℕ} → read ≡ words
    → words ≡ sequential_words board.nets.network → length read ≤ i → i ≤ length read
    → vectors ≡ listed board.nets.network board.receivers.now answers i
    → vectors ≡ listed board.nets.network board.receivers.now answers board.nets.network.nets
all_listed board answers same is past before listed_so_far =
    let count = words_count board.nets board.two same is in
    listed_so_far ∙ ap (listed board.nets.network board.receivers.now answers) (omega arith)

pub returns-then-len-start : goal.returns-then-len-start
returns-then-len-start c =
    let board = c.args.board in
    let answers = c.args.answers.now in
    let listed_all = all_listed board answers c.as_slice-word-items.ensures.value c.sequential_words-words.ensures
    c.loop-i-test.false c.loop-i.auto.i-end c.loop-i.invariant in
    c.clear.ensures
    ∙ listed_none board.nets.network board.receivers.now answers
    (sym (ap length listed_all) ∙ sym c.len.ensures.value ∙ c.if-len-start.true ∙ c.len-start.ensures.value
    ∙ ap length c.extra_alone-vectors.ensures)

pub returns-else-len-start : goal.returns-else-len-start
returns-else-len-start c =
    let board = c.args.board in
    let answers = c.args.answers.now in
    let listed_all = all_listed board answers c.as_slice-word-items.ensures.value c.sequential_words-words.ensures
    c.loop-i-test.false c.loop-i.auto.i-end c.loop-i.invariant in
    listed_all
    ∙ listed_some board.nets.network board.receivers.now answers
    (λ e. c.if-len-start.false (c.len.ensures.value ∙ ap length listed_all ∙ e
    ∙ sym (ap length c.extra_alone-vectors.ensures) ∙ sym c.len-start.ensures.value))
