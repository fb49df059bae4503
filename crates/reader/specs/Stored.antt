-- Words as they stand in a file, 8 bytes each.
use Rattle.std.specs.Prelude.{ℕ, List, map}
use Rattle.jobfile.specs.Bytes.{number_of}

-- the words that these bytes make
abbrev pub stored_words : List (List ℕ) → List ℕ
stored_words stored = map number_of stored
