-- One receiver a net: findings answer as they do without receivers. In a wiring state the partners of receiver i are
-- those of net i.
use Rattle.std.proofs.Common.{◌≡◌, refl, ap, ap₂, Bool, true, false, ◌&&◌, cond, List, [], ◌∷◌, map, ℕ, suc, ◌<◌}
use Rattle.std.proofs.Common.{arith, length}
use Rattle.words.specs.Answers.{Decides, refused, full, by_tests}
use Rattle.words.specs.Bits.{has, word, at}
use Rattle.words.specs.Searching.{any}
use Rattle.words.specs.Turning.{tabulate}
use Rattle.words.proofs.Tests.{same_truth, test_passes, decides_itself, decides_same, decides_equal, decides_not, decides_and, decides_or}
use Rattle.words.proofs.Searching.{decides_any}
use Rattle.words.proofs.Columns.{length_tabulate, tabulate_at}
use Rattle.words.proofs.Answers.{AllFail}
use Rattle.network.specs.declared.Network.{Network}
use Rattle.network.specs.Reading.{meets}
use Rattle.network.specs.Rows.{bad_level, bad_gate}
use Rattle.network.specs.States.{State}
use Rattle.network.specs.OwnReceivers.{own_receivers}
use Rattle.network.proofs.States.{test→state}
use Rattle.network.proofs.OwnReceivers.{own_size, own_at}
use Rattle.findings.specs.Findings.{Paired, is_open, is_partner, partners, finding}
use Rattle.findings.specs.FindingsTable.{table_tests, findings, findings_answer}
use Rattle.findings.proofs.Partners.{decides_partner, paired_if_partner, partner_if_paired}
use Rattle.demands.specs.SaidAlone.{partner_alone, partners_alone, finding_alone, findings_alone}
use Rattle.demands.proofs.SaidAloneCalls.{drops_out}

-- ---- the test of one receiver a net says what document 02's words say

-- some number below n passes both tests
decides_both : (n : ℕ) (p q : ℕ → Bool) → Decides (any n (λ x. p x && q x)) ((x : ℕ) × (x < n) × (p x ≡ true) × (q x ≡ true))
decides_both n p q =
    decides_same (λ w. (w.0, w.1, w.2.0, w.2.1)) (λ w. (w.0, w.1, (w.2, w.3)))
    (decides_any (λ x. p x && q x) (λ x. (p x ≡ true) × (q x ≡ true)) n
    (λ x. decides_and (decides_itself (p x)) (decides_itself (q x))))

module _ (net : Network) (state : List ℕ) (i j : ℕ) where
  decides_paired : Decides (partner_alone net state i j) (Paired net state i j)
  unfolding partner_alone meets
  decides_paired =
      decides_and (decides_not (decides_equal i j))
      (decides_or (decides_both net.nets (has (at state i)) (has (at state j)))
      (decides_or (decides_both (length state) (λ s. has (at state s) i) (λ s. has (at state s) j))
      (decides_or (decides_itself (has (at state j) i)) (decides_itself (has (at state i) j)))))

-- ---- lists worked out entry by entry

maps_equal : {B : Type 0} (f g : ℕ → B) (xs : List ℕ) → ((i : ℕ) → i < length xs → f (at xs i) ≡ g (at xs i)) → map f xs ≡ map g xs
maps_equal f g [] h = refl
maps_equal f g (x ∷ xs) h = ap₂ ◌∷◌ (h 0 (omega arith)) (maps_equal f g xs (λ i l. h (suc i) (omega (arith, l))))

-- of the numbers below n
counts_equal : {B : Type 0} (f g : ℕ → B) (n : ℕ) → ((i : ℕ) → i < n → f i ≡ g i)
    → map f (tabulate n (λ i. i)) ≡ map g (tabulate n (λ i. i))
counts_equal f g n h =
    maps_equal f g (tabulate n (λ i. i))
    (λ i l. let m : i < n = rw (length_tabulate n (λ x. x)) at l in rw (tabulate_at n (λ x. x) i m) (h i m))

-- ---- the finding, in a wiring state

module _ (net : Network) (state : List ℕ) (is : State net net.nets net.nets state) where
  abbrev own : List ℕ
  own = own_receivers net.nets

  same_partner : (i j : ℕ) → i < net.nets → j < net.nets → is_partner own state i j ≡ partner_alone net state i j
  same_partner i j l m =
      let d = decides_partner own state i j in
      let a = decides_paired net state i j in
      same_truth (is_partner own state i j) (partner_alone net state i j)
      (λ e. test_passes a (paired_if_partner net state is i j l m (d.0 e)))
      (λ e. test_passes d (partner_if_paired net state is i j l m (a.0 e)))

  same_partners : (i : ℕ) → i < net.nets → partners net own state i ≡ partners_alone net state i
  unfolding partners partners_alone
  same_partners i l =
      ap word (counts_equal (is_partner own state i) (partner_alone net state i) net.nets (λ j m. same_partner i j l m))

  same_finding : (i : ℕ) → i < net.nets → finding net own state i ≡ finding_alone net state i
  unfolding finding is_open finding_alone
  same_finding i l = rw (same_partners i l, own_at net.nets i l)

  same_findings : findings net own state ≡ map (finding_alone net state) (tabulate (length state) (λ i. i))
  unfolding findings
  same_findings =
      counts_equal (finding net own state) (finding_alone net state) (length state) (λ i l. same_finding i (rw is.size at l))

-- ---- the call

-- two results that are the same where no row holds
results_same : {A : Type 0} (tests : List (ℕ × Bool)) (x y : A) → (AllFail tests → x ≡ y) → by_tests tests x ≡ by_tests tests y
unfolding by_tests
results_same [] x y h = ap full (h tt)
results_same ((number, test) ∷ tests) x y h = go test (λ e. results_same tests x y (λ f. h (e, f)))
  where
    go : (t : Bool) → (t ≡ false → by_tests tests x ≡ by_tests tests y)
        → cond t (refused number) (by_tests tests x) ≡ cond t (refused number) (by_tests tests y)
    go true later = refl
    go false later = later refl

module _ (net : Network) (state : List ℕ) (room : ℕ) where
  pub finds_alone : findings_answer net (own_receivers net.nets) state room ≡ findings_alone net state room
  unfolding findings_answer findings_alone
  finds_alone =
      let rest : ℕ → List (ℕ × Bool) = λ m. (17, bad_level net) ∷ (20, bad_gate net) ∷ table_tests net m state room in
      let table = map (finding_alone net state) (tabulate (length state) (λ i. i)) in
      drops_out net (rest (length (own_receivers net.nets))) (rest net.nets) (findings net (own_receivers net.nets) state) table
      (λ _. rw (own_size net.nets)
      (results_same (rest net.nets) (findings net (own_receivers net.nets) state) table
      (λ none. same_findings net state (test→state net net.nets net.nets state none.1.1.0))))
