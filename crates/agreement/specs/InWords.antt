-- A table of findings from words.
use Rattle.std.specs.Prelude.{ℕ, List, [], ◌∷◌}
use Rattle.findings.specs.declared.Finding.{Finding}

-- the records that the words are, kind, reach and partners each
unfoldable pub records_of : List ℕ → List Finding
records_of [] = []
records_of (a ∷ []) = []
records_of (a ∷ b ∷ []) = []
records_of (a ∷ b ∷ c ∷ words) = record { kind = a; reach = b; partners = c } ∷ records_of words

-- the words after the last whole record
unfoldable pub rest_of : List ℕ → List ℕ
rest_of [] = []
rest_of (a ∷ []) = a ∷ []
rest_of (a ∷ b ∷ []) = a ∷ b ∷ []
rest_of (a ∷ b ∷ c ∷ words) = rest_of words
