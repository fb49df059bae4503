-- What is read back from the TDO bits. `receivers` has the cell of each receiver.
use Rattle.std.specs.Prelude.{ℕ, suc, ◌+◌, ◌*◌, Bool, List, map, eqb}
use Rattle.words.specs.Bits.{word, at}
use Rattle.words.specs.Turning.{tabulate}
use Rattle.scan_chain.specs.Scans.{scan_length}

-- TDO at shift clock j of scan s: what cell j captured in it
unfoldable pub shifted_out : ℕ → (tdo : List ℕ) → (s j : ℕ) → Bool
shifted_out L tdo s j = eqb (at tdo (s * scan_length L + (3 + j))) 1

-- the responses to v vectors: bit r of word t is receiver r's, captured by the scan after vector t's
unfoldable pub responses : ℕ → (receivers : List ℕ) → ℕ → (tdo : List ℕ) → List ℕ
responses L receivers v tdo = tabulate v (λ t. word (map (shifted_out L tdo (suc t)) receivers))
