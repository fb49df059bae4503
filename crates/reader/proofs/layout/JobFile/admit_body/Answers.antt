use Rattle.std.proofs.Common.{ℕ, List, [], ◌∷◌, Bool, sym, ◌∙◌}
use Rattle.std.proofs.lemmas.Result.{err_from_is_err_and}
use Rattle.network.specs.Rows.{has_high_bit}
use Rattle.network.proofs.Rows.{network_refuses, then_row_7, then_row_8, then_none}
use Rattle.jobfile.specs.VectorsBody.{bad_words, width}
use Rattle.jobfile.specs.Layout.{file_network, file_class, file_kind, file_count, body_words}
use Rattle.reader.proofs.layout.JobFile.admit_body.Goals as goal

-- rows 7 and 8 of a file
module _ (file : List ℕ) where
  abbrev seven : Bool
  seven = bad_words (file_kind file) (file_network file).nets (file_count file) (body_words file 1)

  abbrev eight : Bool
  eight = has_high_bit (width (file_kind file) (file_network file).nets (file_count file)) (body_words file 1)

pub returns-in_err-nets-clause-rows : goal.returns-in_err-nets-clause-rows
returns-in_err-nets-clause-rows c =
    let file = c.args.self.laid_out.file.now in
    let p = err_from_is_err_and c.from_residual.result c.from_residual.ensures.1 in
    let rows = rw (c.network.ensures, c.class.ensures) at c.in_err-nets.ensures.rows in
    rw (p.1, p.2) (sym (network_refuses (file_network file) (file_class file) ((7, seven file) ∷ (8, eight file) ∷ []) tt _ (sym rows)))

pub returns-in_err-refuse_if-clause-rows : goal.returns-in_err-refuse_if-clause-rows
returns-in_err-refuse_if-clause-rows c =
    let file = c.args.self.laid_out.file.now in
    let p = err_from_is_err_and c.from_residual-in_err-refuse_if.result c.from_residual-in_err-refuse_if.ensures.1 in
    let refused = c.in_err-refuse_if.ensures.refused in
    let rows = rw (c.network.ensures, c.class.ensures) at c.in_ok-nets.ensures.rows in
    let v = c.vectors-vectors.ensures in
    let row_7 = rw (v.kind, v.count, v.words, c.in_ok-nets.ensures.admitted, c.network.ensures) at c.bad_words.ensures in
    rw (p.1, p.2, refused.0)
    (sym (then_row_7 (file_network file) (file_class file) (seven file) (eight file) (sym rows) (sym row_7 ∙ refused.1)))

pub returns-in_err-refuse_if-2-clause-rows : goal.returns-in_err-refuse_if-2-clause-rows
returns-in_err-refuse_if-2-clause-rows c =
    let file = c.args.self.laid_out.file.now in
    let p = err_from_is_err_and c.from_residual-in_err-refuse_if-2.result c.from_residual-in_err-refuse_if-2.ensures.1 in
    let refused = c.in_err-refuse_if-2.ensures.refused in
    let rows = rw (c.network.ensures, c.class.ensures) at c.in_ok-nets.ensures.rows in
    let v = c.vectors-vectors.ensures in
    let row_7 = rw (v.kind, v.count, v.words, c.in_ok-nets.ensures.admitted, c.network.ensures) at c.bad_words.ensures in
    let wide = rw (v.kind, v.count, c.in_ok-nets.ensures.admitted, c.network.ensures) at c.width-width.ensures in
    let row_8 = rw (wide, v.words) at c.has_high_bit.ensures in
    rw (p.1, p.2, refused.0)
    (sym (then_row_8 (file_network file) (file_class file) (seven file) (eight file) (sym rows)
    (sym row_7 ∙ c.in_ok-refuse_if.ensures.passed) (sym row_8 ∙ refused.1)))

pub returns-clause-rows : goal.returns-clause-rows
returns-clause-rows c =
    let file = c.args.self.laid_out.file.now in
    let rows = rw (c.network.ensures, c.class.ensures) at c.in_ok-nets.ensures.rows in
    let v = c.vectors-vectors.ensures in
    let row_7 = rw (v.kind, v.count, v.words, c.in_ok-nets.ensures.admitted, c.network.ensures) at c.bad_words.ensures in
    let wide = rw (v.kind, v.count, c.in_ok-nets.ensures.admitted, c.network.ensures) at c.width-width.ensures in
    let row_8 = rw (wide, v.words) at c.has_high_bit.ensures in
    sym (then_none (file_network file) (file_class file) (seven file) (eight file) (sym rows)
    (sym row_7 ∙ c.in_ok-refuse_if.ensures.passed) (sym row_8 ∙ c.in_ok-refuse_if-2.ensures.passed))
