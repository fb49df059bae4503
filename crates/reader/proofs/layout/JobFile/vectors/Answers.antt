use Rattle.std.proofs.Common.{◌≡◌, ◌+◌, ℕ, List, length, true, false, sym, ap, ◌∙◌, arith, eq-eqb, ne_eqb}
use Rattle.std.proofs.lemmas.List.{length-map}
use Rattle.words.specs.Bits.{at}
use Rattle.jobfile.specs.Bytes.{number_of}
use Rattle.jobfile.specs.Layout.{body_offset, file_kind}
use Rattle.jobfile.specs.VectorsBody.{net_by_net}
use Rattle.reader.proofs.Bodies.{count_there, count_stored, count_of_words, part_at, plain_kind, words_of_turned, words_of_plain}
use Rattle.reader.proofs.layout.JobFile.vectors.Goals as goal

pub bounds-body-0 : goal.bounds-body-0
bounds-body-0 c =
    let file = c.args.self.laid_out.file.now in
    let turned : net_by_net (file_kind file) ≡ true = sym (rw c.entry.ensures.0 at c.net_by_net.ensures) ∙ c.if-net_by_net.true in
    omega (arith, count_there file c.args.self.laid_out.laid_out c.args.self.complete turned, c.body-body.ensures.1)

pub slice_bounds-words_in-start : goal.slice_bounds-words_in-start
slice_bounds-words_in-start c =
    let file = c.args.self.laid_out.file.now in
    let turned : net_by_net (file_kind file) ≡ true = sym (rw c.entry.ensures.0 at c.net_by_net.ensures) ∙ c.if-net_by_net.true in
    omega (arith, count_there file c.args.self.laid_out.laid_out c.args.self.complete turned, c.body-body.ensures.1)

pub slice_bounds-words_in-count : goal.slice_bounds-words_in-count
slice_bounds-words_in-count c =
    let file = c.args.self.laid_out.file.now in
    let turned : net_by_net (file_kind file) ≡ true = sym (rw c.entry.ensures.0 at c.net_by_net.ensures) ∙ c.if-net_by_net.true in
    omega (arith, count_there file c.args.self.laid_out.laid_out c.args.self.complete turned, c.body-body.ensures.1)

pub returns-then-net_by_net-clause-count : goal.returns-then-net_by_net-clause-count
returns-then-net_by_net-clause-count c =
    let file = c.args.self.laid_out.file.now in
    let turned : net_by_net (file_kind file) ≡ true = sym (rw c.entry.ensures.0 at c.net_by_net.ensures) ∙ c.if-net_by_net.true in
    let first : body_offset file 1 + 0 ≡ body_offset file 1 = omega arith in
    ap (λ (body : List ℕ). at body 0) c.body-body.ensures.0
    ∙ part_at file _ _ 0 (count_there file c.args.self.laid_out.laid_out c.args.self.complete turned)
    ∙ ap (λ (i : ℕ). at file i) first ∙ sym (count_stored file turned)

pub returns-then-net_by_net-clause-words : goal.returns-then-net_by_net-clause-words
returns-then-net_by_net-clause-words c =
    let file = c.args.self.laid_out.file.now in
    let turned : net_by_net (file_kind file) ≡ true = sym (rw c.entry.ensures.0 at c.net_by_net.ensures) ∙ c.if-net_by_net.true in
    c.words_in.ensures ∙ rw c.body-body.ensures.0 (words_of_turned file c.args.self.laid_out.laid_out c.args.self.complete turned)

pub returns-clause-kind : goal.returns-clause-kind
returns-clause-kind c =
    let file = c.args.self.laid_out.file.now in
    let plain : net_by_net (file_kind file) ≡ false = sym (rw c.entry.ensures.0 at c.net_by_net.ensures) ∙ c.if-net_by_net.false in
    sym (plain_kind file c.args.self.laid_out.laid_out plain)

pub returns-clause-words : goal.returns-clause-words
returns-clause-words c =
    let file = c.args.self.laid_out.file.now in
    let plain : net_by_net (file_kind file) ≡ false = sym (rw c.entry.ensures.0 at c.net_by_net.ensures) ∙ c.if-net_by_net.false in
    c.words_in-words.ensures ∙ rw c.body-body.ensures.0 (words_of_plain file c.args.self.laid_out.laid_out c.args.self.complete plain)

pub returns-clause-count : goal.returns-clause-count
returns-clause-count c =
    let file = c.args.self.laid_out.file.now in
    let plain : net_by_net (file_kind file) ≡ false = sym (rw c.entry.ensures.0 at c.net_by_net.ensures) ∙ c.if-net_by_net.false in
    sym (length-map c.words_in-words.result.now number_of) ∙ ap length (returns-clause-words c) ∙ sym (count_of_words file plain)
