-- The list of own receivers, which row 21 lets through; and the call that fills it.
use Rattle.std.proofs.Common.{◌≡◌, refl, sym, ◌∙◌, List, ℕ, ◌≤◌, ◌<◌, arith, length, ext_get_or}
use Rattle.words.specs.Answers.{Answer, ByTable}
use Rattle.words.specs.Bits.{at}
use Rattle.words.proofs.Answers.{tests_by_table, table_determined}
use Rattle.words.proofs.Columns.{length_tabulate, tabulate_at}
use Rattle.network.specs.declared.Network.{Network}
use Rattle.network.specs.Reading.{network_of}
use Rattle.network.specs.OwnReceivers.{own_receivers, OwnReceivers, OwnReceiversRows, own_receivers_tests}
use Rattle.network.specs.OwnReceivers.{own_receivers_answer}
use Rattle.network.proofs.Rows.{AdmittedReceivers, decides_row_5, decides_row_12}

pub own_size : (nets : ℕ) → length (own_receivers nets) ≡ nets
unfolding own_receivers
own_size nets = length_tabulate nets _

pub own_at : (nets i : ℕ) → i < nets → at (own_receivers nets) i ≡ i
unfolding own_receivers
own_at nets i l = tabulate_at nets (λ j. j) i l

-- row 21 lets them through
pub own_admitted : (net : Network) → net.nets ≤ 48 → AdmittedReceivers net (own_receivers net.nets)
own_admitted net most =
    let size = own_size net.nets in record {
      least = omega (arith, size);
      most = omega (arith, size, most);
      owner = λ r l. let inside : r < net.nets = omega (arith, l, size) in rw (own_at net.nets r inside) inside;
      receiver = λ i l. (i, omega (arith, l, size), own_at net.nets i l);
    }

pub own_is : (nets : ℕ) → OwnReceivers nets (own_receivers nets)
own_is nets = record { one_a_net = own_size nets; its_own = λ i l. own_at nets i l }

pub own_determined : (nets : ℕ) (x y : List ℕ) → OwnReceivers nets x → OwnReceivers nets y → x ≡ y
own_determined nets x y p q =
    ext_get_or 0 x y (p.one_a_net ∙ sym q.one_a_net)
    (λ i l. let inside : i < nets = omega (arith, l, p.one_a_net) in p.its_own i inside ∙ sym (q.its_own i inside))

module _ (nets room : ℕ) where
  pub own_receivers_by_table : ByTable (OwnReceiversRows nets room) (OwnReceivers nets) (own_receivers_answer nets room)
  unfolding own_receivers_answer
  own_receivers_by_table =
      tests_by_table (OwnReceivers nets) (OwnReceiversRows nets room) (own_receivers_tests nets room)
      (own_receivers nets)
      (refl, decides_row_5 (network_of nets), λ _. (refl, decides_row_12 nets room, λ _. tt)) (λ _. own_is nets)

  pub own_receivers_determined : (a b : Answer (List ℕ)) → ByTable (OwnReceiversRows nets room) (OwnReceivers nets) a
      → ByTable (OwnReceiversRows nets room) (OwnReceivers nets) b → a ≡ b
  own_receivers_determined a b =
      table_determined (OwnReceivers nets) (OwnReceiversRows nets room) a b (λ _ x y. own_determined nets x y)
