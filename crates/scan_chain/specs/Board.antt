-- A board between the cells of a chain.
use Rattle.std.specs.Prelude.{ℕ, ◌<◌, ◌≡◌, Bool, true, false, List, map, length, get_or}
use Rattle.words.specs.Bits.{word, at}
use Rattle.network.specs.declared.Network.{Network}
use Rattle.network.specs.Reading.{reads, response_word}
use Rattle.scan_chain.specs.BoundaryRegister.{Outside}
use Rattle.scan_chain.specs.Scans.{all_zero, contents}

-- a chain of L cells: there are as many parallel inputs
abbrev pub CellCount : ℕ → Outside → Type 0
CellCount L outside = (t : ℕ) (outputs : List Bool) → length (outside.inputs t outputs) ≡ L

-- the vector that the drivers' cells drive: bit i is what driver i's cell has
unfoldable pub word_of : (drivers : List ℕ) → (outputs : List Bool) → ℕ
word_of drivers outputs = word (map (λ cell. get_or outputs cell false) drivers)

-- A board in this wiring state, at any moment and whatever the cells drive: the input of each receiver's cell is what its
-- receiver reads of the vector that the drivers' cells then drive. Nothing is said of the other cells' inputs.
pub record Wired (net : Network) (state : List ℕ) (L : ℕ) (drivers receivers : List ℕ) (outside : Outside) : Type 0 where
  pub cells : CellCount L outside
  pub reach_per_receiver : length state ≡ length receivers
  pub read : (t : ℕ) (outputs : List Bool) (r : ℕ) → r < length receivers
      → get_or (outside.inputs t outputs) (at receivers r) false ≡ reads net (at state r) (word_of drivers outputs)

-- one such chain: the inputs of all other cells are 0, and TDO reads 1 outside the shift
unfoldable pub plain_chain : Network → (state : List ℕ) → ℕ → (drivers receivers : List ℕ) → Outside
plain_chain net state L drivers receivers = record {
  inputs = λ t outputs. contents L receivers all_zero (response_word net state (word_of drivers outputs));
  undriven = λ t. true;
}
