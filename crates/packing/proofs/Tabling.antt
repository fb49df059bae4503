-- Findings as words, as a loop puts them into a table.
use Rattle.std.proofs.Common.{arith, ℕ, suc, ◌+◌, ◌*◌, ◌≤◌, ◌<◌, ◌≡◌, sym, ap, ap₂, ◌∙◌, List, [], ◌∷◌, length, drop}
use Rattle.std.proofs.Common.{get_or, drop_of_length-le, drop-cons}
use Rattle.words.specs.Writing.{written}
use Rattle.words.proofs.Writing.{written_none, written_more}
use Rattle.findings.specs.declared.Finding.{Finding}
use Rattle.packing.specs.Packed.{finding_words}

abbrev three : Finding → List ℕ
three found = found.kind ∷ found.reach ∷ found.partners ∷ []

-- the records from the one at i on
module _ (records : List Finding) (i : ℕ) (table : List ℕ) where
  pub findings_turn : (found other : Finding) (next : List ℕ) → found ≡ get_or records i other
      → next ≡ written table (3 * i) (three found) → i < length records
      → 3 * i ≤ length table → written next (3 * (i + 1)) (finding_words (drop (i + 1) records))
      ≡ written table (3 * i) (finding_words (drop i records))
  unfolding finding_words
  findings_turn found other next e f l m =
      let others = finding_words (drop (suc i) records) in
      let place : 3 * (i + 1) ≡ 3 * i + 3 = omega arith in
      let one : i + 1 ≡ suc i = omega arith in
      ap₂ (λ (t : List ℕ) (n : ℕ). written t (3 * (i + 1)) (finding_words (drop n records))) f one
      ∙ ap₂ (λ (n : ℕ) (r : Finding). written (written table (3 * i) (three r)) n others) place e
      ∙ written_more table (3 * i) (three (get_or records i other)) others m
      ∙ ap (λ (l : List Finding). written table (3 * i) (finding_words l)) (sym (drop-cons records i other l))

  pub findings_end : length records ≤ i → written table (3 * i) (finding_words (drop i records)) ≡ table
  unfolding finding_words
  findings_end l =
      ap (λ (l : List Finding). written table (3 * i) (finding_words l)) (drop_of_length-le records {i = i} l) ∙ written_none table (3 * i)
