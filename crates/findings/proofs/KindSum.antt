-- The kind of a finding as a sum: open counts 1, short counts 2.
use Rattle.std.proofs.Common.{◌≡◌, refl, sym, Bool, true, false, not, ◌&&◌, List, ℕ, ◌+◌, ◌*◌, eqb, eqb-true}
use Rattle.words.specs.Bits.{has, bit_value, at}
use Rattle.words.proofs.Tests.{passes_either_way}
use Rattle.network.specs.declared.Network.{Network}
use Rattle.findings.specs.Findings.{net_of, is_open, partners, kind, finding}

sums_to : Bool → Bool → Bool
sums_to opened shorted = eqb (bit_value opened + 2 * bit_value shorted) (kind opened shorted)

-- one computed test, over all four
pub sum_of : (opened shorted : Bool) → bit_value opened + 2 * bit_value shorted ≡ kind opened shorted
unfolding sums_to kind bit_value
sum_of opened shorted =
    eqb-true _ _ (passes_either_way (sums_to opened)
    (passes_either_way (λ b. sums_to b true && sums_to b false) refl opened) shorted)

-- for every reach, net and word of partners
pub sum_is_kind : (reach i joined : ℕ)
    → bit_value (not (has reach i)) + 2 * bit_value (not (eqb joined 0)) ≡ kind (not (has reach i)) (not (eqb joined 0))
sum_is_kind reach i joined = sum_of (not (has reach i)) (not (eqb joined 0))

-- for every receiver of every state
pub finding_kind : (net : Network) (owners state : List ℕ) (r : ℕ)
    → (finding net owners state r).kind ≡ bit_value (is_open owners state r) + 2 * bit_value
    (not (eqb (partners net owners state r) 0))
unfolding finding is_open
finding_kind net owners state r = sym (sum_is_kind (at state r) (net_of owners r) (partners net owners state r))
