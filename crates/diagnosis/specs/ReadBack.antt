-- The state of the class that gives a response, if there is one.
use Rattle.std.specs.Prelude.{ℕ, ◌^◌, Bool, not, ◌&&◌, ◌||◌, List, eqb}
use Rattle.words.specs.Searching.{least, is_found, or_zero, any}
use Rattle.words.specs.Turning.{tabulate, column}
use Rattle.std.specs.Prelude.{Option}
use Rattle.network.specs.declared.Network.{Network}
use Rattle.network.specs.Reading.{sequential_response}
use Rattle.network.specs.States.{few_drivers, has_conflict}

-- the smallest set of the class that reads as a receiver answered, its sequential word (SRV) given
unfoldable pub reach_read : Network → ℕ → List ℕ → ℕ → Option ℕ
reach_read net k vectors answered =
    least (2 ^ net.nets) 0 (λ set. few_drivers net k set && eqb (sequential_response net vectors set) answered)

-- of each of m receivers the set that reads as it answered, and the empty one, 0, where there is none; bit t of its
-- answer is its bit in response t
unfoldable pub read_back : Network → (m k : ℕ) → (vectors responses : List ℕ) → List ℕ
read_back net m k vectors responses = tabulate m (λ i. or_zero (reach_read net k vectors (column responses i)))

-- a receiver that answered as no set of the class does, or reaches that meet and differ
unfoldable pub no_state_fits : Network → (m k : ℕ) → (vectors responses : List ℕ) → Bool
no_state_fits net m k vectors responses =
    let conflict = has_conflict net (read_back net m k vectors responses) in
    any m (λ i. not (is_found (reach_read net k vectors (column responses i)))) || conflict
