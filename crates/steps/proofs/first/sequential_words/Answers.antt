use Rattle.std.proofs.Common.{◌≡◌, sym, ap, ◌∙◌, arith, length, ◌<◌, ◌^◌, ◌/◌, ℕ}
use Rattle.steps.specs.FirstStep.{word_length}
use Rattle.steps.proofs.StepOneWords.{length_bounds}
use Rattle.steps.proofs.WordsTaken.{words_taken, none_taken, word_taken, word_left, taken_most, all_taken, enough_taken}
use Rattle.steps.proofs.first.sequential_words.Goals as goal
use Rattle.steps.proofs.first.sequential_words.Goals.{then-count_of_ones-half, else-count_of_ones-half}

pub bit_word-word-end-requires : goal.bit_word-word-end-requires
bit_word-word-end-requires c =
    let nets = c.args.nets in
    omega (arith, c.word_length-p.ensures, length_bounds nets.network c.requires nets.few)

pub loop-word-init : goal.loop-word-init
loop-word-init c = c.new-words.ensures ∙ sym (none_taken c.args.nets.network)

-- none is missing before the end
pub returns-then-len-n : goal.returns-then-len-n
returns-then-len-n c =
    let net = c.args.nets.network in
    let word = c.loop-word.word in
    let p = c.word_length-p.ensures in
    let end = c.bit_word-word-end.ensures in
    let low : word < 2 ^ word_length net = rw (← p, ← end) c.loop-word-test.true in
    let all = ap length c.loop-word.invariant in
    c.loop-word.invariant
    ∙ enough_taken net word (omega (arith, low)) (omega (arith, all, c.len.ensures.value, c.if-len-n.true))

pub push-requires : goal.push-requires
push-requires c =
    let net = c.args.nets.network in
    let most = taken_most net c.loop-word.word in
    let all = ap length c.loop-word.invariant in
    let few = c.args.nets.few in
    omega (arith, most, all, few, c.len.ensures.value, c.if-len-n.false)

pub loop-word-preserved : goal.loop-word-preserved
loop-word-preserved c =
    let net = c.args.nets.network in
    let word = c.loop-word.word in
    let p = c.word_length-p.ensures in
    let end = c.bit_word-word-end.ensures in
    let low : word < 2 ^ word_length net = rw (← p, ← end) c.loop-word-test.true in
    let half : c.word_length-p.result / 2 ≡ word_length net / 2 = ap (λ (q : ℕ). q / 2) p in
    let most = taken_most net word in
    let all = ap length c.loop-word.invariant in
    let short : length (words_taken net word) < net.nets = omega (arith, most, all, c.len.ensures.value, c.if-len-n.false) in
    elim c.if-count_of_ones-half.branch [
      | then-count_of_ones-half w ↦
          rw (w.words-is, w.push.ensures.items, c.loop-word.invariant)
          (word_taken net word low short (sym c.count_of_ones.ensures ∙ w.if-count_of_ones-half.true ∙ half))
      | else-count_of_ones-half w ↦ rw (w.words-is, c.loop-word.invariant)
          (word_left net word low (λ e. w.if-count_of_ones-half.false (c.count_of_ones.ensures ∙ e ∙ sym half)))
    ]

pub returns : goal.returns
returns c =
    let net = c.args.nets.network in
    let end : c.loop-word.word ≡ c.bit_word-word-end.result = omega arith in
    let all : c.loop-word.word ≡ 2 ^ word_length net = rw (end, c.bit_word-word-end.ensures, c.word_length-p.ensures) in
    c.loop-word.invariant ∙ ap (words_taken net) all ∙ all_taken net
