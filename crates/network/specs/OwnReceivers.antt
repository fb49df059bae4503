-- The call *own receivers*: the list of receivers where each net has one, of its own number.
use Rattle.std.specs.Prelude.{ℕ, ◌<◌, ◌≡◌, Bool, List, [], ◌∷◌, length}
use Rattle.words.specs.Answers.{Answer, by_tests}
use Rattle.words.specs.Bits.{at}
use Rattle.words.specs.Turning.{tabulate}
use Rattle.network.specs.Reading.{network_of}
use Rattle.network.specs.Rows.{Row5, Row12, bad_net_count, no_room}

-- receiver i is on net i
unfoldable pub own_receivers : ℕ → List ℕ
own_receivers nets = tabulate nets (λ i. i)

-- the same, as document 02 says it: "m = n means receiver i on net i"
pub record OwnReceivers (nets : ℕ) (owners : List ℕ) : Type 0 where
  pub one_a_net : length owners ≡ nets
  pub its_own : (i : ℕ) → i < nets → at owners i ≡ i

abbrev pub OwnReceiversRows : (nets room : ℕ) → List (ℕ × Type 0)
OwnReceiversRows nets room = (5, Row5 (network_of nets)) ∷ (12, Row12 nets room) ∷ []

abbrev pub own_receivers_tests : (nets room : ℕ) → List (ℕ × Bool)
own_receivers_tests nets room = (5, bad_net_count (network_of nets)) ∷ (12, no_room nets room) ∷ []

-- the call's answer, computed
unfoldable pub own_receivers_answer : (nets room : ℕ) → Answer (List ℕ)
own_receivers_answer nets room = by_tests (own_receivers_tests nets room) (own_receivers nets)
