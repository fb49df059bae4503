-- The active bits of a word, and what the drivers of a set drive together. Only the contracts of helpers use this: what
-- a receiver reads is said by `reads`.
use Rattle.std.specs.Prelude.{ℕ, ◌-◌, ◌^◌, ◌<◌, ◌≡◌, cond, List, map, length}
use Rattle.std.specs.Int.Bits.{bit_and, bit_or}
use Rattle.words.specs.Bits.{has, word}
use Rattle.network.specs.declared.Network.{Network}
use Rattle.network.specs.Reading.{is_and, active, driven}

-- the bits of one word tell which of another's lowest bits are active
abbrev pub ActiveBits : Network → (lowest word bits : ℕ) → Type 0
ActiveBits net lowest word bits = (i : ℕ) → i < lowest → has bits i ≡ active net (has word i)

-- bit t is what the drivers of the set drive together on vector t
unfoldable pub joint_word : Network → List ℕ → ℕ → ℕ
joint_word net vectors set = word (map (driven net set) vectors)

-- such a word for no drivers, to which any driver may be joined: no ones, or at a wired AND one a vector
unfoldable pub no_drivers : Network → List ℕ → ℕ
no_drivers net vectors = cond (is_and net) (2 ^ length vectors - 1) 0

-- and with one driver more, whose sequential word is given
unfoldable pub with_driver : Network → ℕ → ℕ → ℕ
with_driver net word column = cond (is_and net) (bit_and word column) (bit_or word column)
