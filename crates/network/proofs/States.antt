-- The test of a wiring state decides it, and a state is known by its reaches.
use Rattle.std.proofs.Common.{◌≡◌, sym, ap, ◌∙◌, Bool, true, false, not, ◌&&◌, ◌⊎◌, inl, inr, ⊎_elim, List, ℕ, ◌^◌}
use Rattle.std.proofs.Common.{◌≤◌, ◌<◌, eqb, leb, ltb, length, ext_get_or, eq-eqb, eqb-true, leb-true, le-leb}
use Rattle.std.proofs.Common.{ltb-true, lt-ltb}
use lib.Count.{ones}
use borrow.Author.Tests.{not-false}
use Rattle.words.specs.Bits.{has, at}
use Rattle.words.specs.Searching.{any}
use Rattle.words.specs.Answers.{Decides}
use Rattle.words.proofs.Tests.{cases, contrary, and_left, and_right, and_both, neither}
use Rattle.words.proofs.Classes.{ones_counted}
use Rattle.words.proofs.Searching.{any_none, any_false}
use Rattle.network.specs.declared.Network.{Network}
use Rattle.network.specs.Reading.{meets}
use Rattle.network.specs.States.{driver_count, DriverSet, State, few_drivers, meet_and_differ, has_wrong_reach}
use Rattle.network.specs.States.{conflicts, has_conflict, not_a_state}
use Rattle.network.proofs.Reading.{meets_at, meets_some}

-- the count of ones decides
pub few_by_ones : (net : Network) (k set : ℕ) → set < 2 ^ net.nets → few_drivers net k set ≡ leb (ones set) k
unfolding few_drivers
few_by_ones net k set l = ap (λ (x : ℕ). leb x k) (ones_counted net.nets set l)

pub few_drivers_at : (net : Network) (k set : ℕ) → few_drivers net k set ≡ true → driver_count net set ≤ k
unfolding few_drivers
few_drivers_at net k set e = leb-true (driver_count net set) k e

pub few_drivers_of : (net : Network) (k set : ℕ) → DriverSet net k set → few_drivers net k set ≡ true
unfolding few_drivers
few_drivers_of net k set d = le-leb (driver_count net set) k d.few

module _ (net : Network) (k : ℕ) where
  pub few→set : (set : ℕ) → ltb set (2 ^ net.nets) && few_drivers net k set ≡ true → DriverSet net k set
  few→set set e = record {
    inside = ltb-true set (2 ^ net.nets) (and_left (ltb set (2 ^ net.nets)) _ e);
    few = few_drivers_at net k set (and_right (ltb set (2 ^ net.nets)) _ e);
  }

  set→few : (set : ℕ) → DriverSet net k set → ltb set (2 ^ net.nets) && few_drivers net k set ≡ true
  set→few set h = and_both (lt-ltb set (2 ^ net.nets) h.inside) (few_drivers_of net k set h)

module _ (net : Network) where
  -- two sets that meet and do not pass as differing are equal
  meet_equal : (a b x : ℕ) → x < net.nets → has a x ≡ true → has b x ≡ true → meet_and_differ net a b ≡ false → a ≡ b
  unfolding meet_and_differ
  meet_equal a b x l p q e =
      eqb-true a b (⊎_elim (λ f. f) (λ f. contrary (and_both (meets_at net a b x l p q) (ap not f)) e)
      (cases (eqb a b)))

-- two reaches with a driver in common are equal exactly where the test finds no conflict
abbrev pub MeetOnlyIfEqual : Network → List ℕ → Type 0
MeetOnlyIfEqual net state = (i j x : ℕ) → i < length state → j < length state → x < net.nets
    → has (at state i) x ≡ true → has (at state j) x ≡ true
    → at state i ≡ at state j

module _ (net : Network) (state : List ℕ) where
  pair_test : ℕ → ℕ → Bool
  pair_test i j = meet_and_differ net (at state i) (at state j)

  pub no_conflict : has_conflict net state ≡ false → MeetOnlyIfEqual net state
  unfolding has_conflict conflicts pair_test
  no_conflict e i j x li lj lx p q =
      meet_equal net (at state i) (at state j) x lx p q
      (any_false (pair_test i) (length state) j lj (any_false (λ y. any (length state) (pair_test y)) (length state) i li e))

  pub conflict_free : MeetOnlyIfEqual net state → has_conflict net state ≡ false
  unfolding has_conflict conflicts pair_test meet_and_differ
  conflict_free h =
      any_none (λ i. any (length state) (pair_test i)) (length state)
      (λ i l. any_none (pair_test i) (length state) (λ j m. agree i j l m (cases (meets net (at state i) (at state j)))))
    where
      agree : (i j : ℕ) → i < length state → j < length state
          → (meets net (at state i) (at state j) ≡ true) ⊎ (meets net (at state i) (at state j) ≡ false)
          → meets net (at state i) (at state j) && not (eqb (at state i) (at state j)) ≡ false
      agree i j l m (inl e) =
          let r = meets_some net (at state i) (at state j) e in
          rw (e, eq-eqb (at state i) (at state j) (h i j r.0 l m r.1 r.2 r.3))
      agree i j l m (inr e) = rw e

module _ (net : Network) (m k : ℕ) (state : List ℕ) where
  reach_test : ℕ → Bool
  reach_test i = not (ltb (at state i) (2 ^ net.nets) && few_drivers net k (at state i))

  pub test→state : not_a_state net m k state ≡ false → State net m k state
  unfolding not_a_state has_wrong_reach reach_test
  test→state e =
      let size = neither (not (eqb (length state) m)) _ e in
      let rest = neither (has_wrong_reach net k state) (has_conflict net state) size.1 in record {
        size = eqb-true (length state) m (not-false _ size.0);
        reach = λ i l. few→set net k (at state i) (not-false _ (any_false reach_test (length state) i l rest.0));
        meet_only_if_equal = no_conflict net state rest.1;
      }

  pub state→test : State net m k state → not_a_state net m k state ≡ false
  unfolding not_a_state has_wrong_reach reach_test
  state→test h =
      rw (
        eq-eqb (length state) m h.size,
        any_none reach_test (length state) (λ i l. ap not (set→few net k (at state i) (h.reach i l))),
        conflict_free net state h.meet_only_if_equal,
      )

  pub decides_not_a_state : Decides (not_a_state net m k state) (¬ (State net m k state))
  decides_not_a_state = (λ e h. contrary e (state→test h), λ e h. h (test→state e))

-- two states of a class with the same reaches are one
pub states_equal : (net : Network) (m k : ℕ) (s u : List ℕ) → State net m k s → State net m k u
    → ((i : ℕ) → i < length s → at s i ≡ at u i) → s ≡ u
states_equal net m k s u p q h = ext_get_or 0 s u (p.size ∙ sym q.size) h
