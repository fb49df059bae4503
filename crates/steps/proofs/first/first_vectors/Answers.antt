use Rattle.std.proofs.Common.{◌∙◌, arith, length-take, take_all, ◌<◌}
use Rattle.std.proofs.lemmas.List.{take_more}
use Rattle.steps.specs.FirstStep.{word_length, first_vectors}
use Rattle.steps.proofs.StepOneWords.{length_bounds, words_size, first_size, first_at}
use Rattle.steps.proofs.first.first_vectors.Goals as goal

pub parallel_word-requires : goal.parallel_word-requires
parallel_word-requires c =
    let nets = c.args.nets in (
      rw (c.as_slice.ensures.value, c.sequential_words-words.ensures, words_size nets.network c.requires nets.few)
          (omega (arith, nets.few)),
      omega (arith, c.word_length-t-end.ensures, length_bounds nets.network c.requires nets.few),
    )

pub push-requires : goal.push-requires
push-requires c =
    let nets = c.args.nets in (
      omega arith,
      rw c.loop-t.invariant (omega (
        arith,
        length-take c.loop-t.t (first_vectors nets.network),
        c.word_length-t-end.ensures,
        length_bounds nets.network c.requires nets.few,
      )),
    )

pub loop-t-preserved : goal.loop-t-preserved
loop-t-preserved c =
    let net = c.args.nets.network in
    let t = c.loop-t.t in
    let low : t < word_length net = rw (← c.word_length-t-end.ensures) c.loop-t-test.true in
    rw (
      c.push.ensures.items,
      c.loop-t.invariant,
      c.parallel_word.ensures,
      c.as_slice.ensures.value,
      c.sequential_words-words.ensures,
      take_more (first_vectors net) t 0 (rw (first_size net) low),
      first_at net t low,
    )

pub returns : goal.returns
returns c =
    let net = c.args.nets.network in
    c.loop-t.invariant
    ∙ take_all c.loop-t.t (first_vectors net) (omega (arith, first_size net, c.word_length-t-end.ensures, c.loop-t-test.false))
