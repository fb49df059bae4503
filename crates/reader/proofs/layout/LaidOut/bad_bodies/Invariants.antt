use Rattle.std.proofs.Common.{◌≡◌, ℕ, ◌<◌, ◌%◌, Bool, false, not, ◌&&◌, List, eqb, ltb}
use Rattle.jobfile.specs.VectorsBody.{lead}
use Rattle.jobfile.specs.Layout.{entry_kind, body_length}
use Rattle.reader.proofs.layout.LaidOut.bad_bodies.Given as goal

-- body i has words that are not complete
abbrev pub bad_words : List ℕ → ℕ → Bool
bad_words file i = ltb 0 i && not (eqb (body_length file i % 8) (lead (entry_kind file i)))

abbrev pub invariant-loop-i : goal.invariant-loop-i
invariant-loop-i l = (z : ℕ) → z < l.i → bad_words l.self.file.now z ≡ false
