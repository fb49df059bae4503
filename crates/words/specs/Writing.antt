-- Writing into a list.
use Rattle.std.specs.Prelude.{ℕ, ◌+◌, List, ◌++◌, length, take, drop}

-- entries put into a list from an index on
unfoldable pub written : List ℕ → ℕ → List ℕ → List ℕ
written list index entries = take index list ++ entries ++ drop (index + length entries) list
