-- With all sets seen, a set is found by what it reads.
use Rattle.std.proofs.Common.{◌≡◌, sym, ap, ◌∙◌, subst, true, List, ℕ, ◌^◌, ◌≤◌, ◌<◌, le_refl, arith, leb, length}
use Rattle.std.proofs.Common.{pow_mono, eq-eqb}
use lib.Count.{ones}
use Rattle.std.specs.Prelude.{Option}
use Rattle.std.specs.Prelude.{Some, None}
use Rattle.words.specs.Bits.{at}
use Rattle.words.specs.Searching.{position, sets_of_class}
use Rattle.words.proofs.Tests.{contrary}
use Rattle.words.proofs.Passing.{Entry, entry_is, entry_of, count_grows_past}
use Rattle.words.proofs.Counting.{sets_front, sets_grow}
use Rattle.network.specs.declared.Network.{Network}
use Rattle.network.specs.Reading.{sequential_response}
use Rattle.network.specs.States.{DriverSet}
use Rattle.network.proofs.Reading.{sequential_alike}
use Rattle.network.proofs.States.{few_by_ones, few_drivers_at, few_drivers_of}
use Rattle.checker.specs.declared.Verdict.TheVariants.{Pass}
use Rattle.checker.specs.Rule.{BoundedRule}
use Rattle.checker.specs.Seen.{Seen, OnlyAnswer}
use Rattle.checker.proofs.Verdicts.{bounded_rule}
use Rattle.checker.proofs.Separation.{SetsApart, bounded_shows}
use Rattle.checker.proofs.Visits.{seen_pass, read_found, read_missing}

module _ (net : Network) (k : ℕ) (vectors table : List ℕ) (seen : Seen net k vectors table (2 ^ net.nets)) where
  apart : SetsApart net k vectors
  apart =
      bounded_shows net k vectors Pass
      (subst (BoundedRule net k vectors) (seen_pass net k vectors table (2 ^ net.nets) seen (le_refl _)) (
      bounded_rule net k vectors))

  -- the entries are sets of the class
  of_class : (m : ℕ) → m < length (sets_of_class k (2 ^ net.nets)) → DriverSet net k (at (sets_of_class k (2 ^ net.nets)) m)
  unfolding sets_of_class
  of_class m l =
      let r : Entry (λ z. leb (ones z) k) (2 ^ net.nets) m (at (sets_of_class k (2 ^ net.nets)) m) =
      entry_is _ (2 ^ net.nets) m l in
      record { inside = r.below; few = few_drivers_at net k _ (few_by_ones net k _ r.below ∙ r.passes) }

  pub found_only : (answered m : ℕ) (found : Option ℕ) → net.nets ≤ 48 → found ≡ position answered table → found ≡ Some m
      → (m < length (sets_of_class k (2 ^ 48))) × OnlyAnswer net k vectors answered (at (sets_of_class k (2 ^ 48)) m)
  found_only answered m found most f e =
      let r = read_found net k vectors table (2 ^ net.nets) seen answered m (sym f ∙ e) in
      let up : 2 ^ net.nets ≤ 2 ^ 48 = pow_mono {i = net.nets} {j = 48} most in (
        omega (arith, r.0, sets_grow k (2 ^ net.nets) (2 ^ 48) up),
        λ set d q. apart set _ d (of_class m r.0) (sequential_alike net vectors set _ (q ∙ sym r.1))
            ∙ sets_front k (2 ^ net.nets) (2 ^ 48) m up r.0,
      )

  pub missing_none : (answered reach : ℕ) (found : Option ℕ) → found ≡ position answered table → found ≡ None
      → OnlyAnswer net k vectors answered reach
  unfolding sets_of_class
  missing_none answered reach found f e set d q =
      let few : leb (ones set) k ≡ true = sym (few_by_ones net k set d.inside) ∙ few_drivers_of net k set d in
      let here : at (sets_of_class k (2 ^ net.nets)) (length (sets_of_class k set)) ≡ set =
      entry_of _ (2 ^ net.nets) set d.inside few in
      let inside = count_grows_past (λ z. leb (ones z) k) set (2 ^ net.nets) d.inside few in
      contrary (eq-eqb _ _ (ap (sequential_response net vectors) here ∙ q))
      (read_missing net k vectors table (2 ^ net.nets) seen answered (sym f ∙ e) (length (sets_of_class k set)) inside)
