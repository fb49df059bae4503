-- The floor: every set that tells the driver sets of a class apart has at least so many vectors.
use Rattle.std.proofs.Common.{◌≡◌, sym, ap, ◌∙◌, subst, Bool, List, ℕ, suc, ◌^◌, ◌≤◌, ◌<◌, zero-le, arith, leb}
use Rattle.std.proofs.Common.{length, pow_mono, leb-true, le-leb}
use lib.Count.{ones}
use Rattle.words.specs.Bits.{at}
use Rattle.words.specs.Counting.{class_size}
use Rattle.words.specs.Searching.{least, or_zero, sets_of_class}
use Rattle.std.specs.Prelude.{Option}
use Rattle.std.specs.Prelude.{Some, None}
use Rattle.words.proofs.Tests.{contrary, not_less}
use Rattle.words.proofs.Searching.{Least, first, nowhere, least_below}
use Rattle.words.proofs.Passing.{count_most, entry_is}
use Rattle.words.proofs.Counting.{sets_counted, class_size_grows}
use Rattle.words.proofs.Places.{shared_place}
use Rattle.network.specs.declared.Network.{Network}
use Rattle.network.specs.Reading.{sequential_response}
use Rattle.network.specs.States.{DriverSet}
use Rattle.network.proofs.Reading.{sequential_below, sequential_alike}
use Rattle.network.proofs.States.{few_by_ones, few_drivers_at}
use Rattle.checker.proofs.Separation.{SetsApart}
use Rattle.shorter.specs.Shorter.{Floor, floor}

module _ (net : Network) (k : ℕ) where
  -- the driver sets of the class
  abbrev sets : List ℕ
  sets = sets_of_class k (2 ^ net.nets)

  pub sets_fit : class_size net.nets k ≤ 2 ^ net.nets
  unfolding sets_of_class
  sets_fit =
      subst (λ (x : ℕ). x ≤ 2 ^ net.nets) (sets_counted net.nets k)
      (count_most (λ set. leb (ones set) k) (2 ^ net.nets))

  pub floor_is : Floor net k (floor net k)
  unfolding floor
  floor_is = go (least (suc net.nets) 0 enough_at) (least_below enough_at (suc net.nets))
    where
      enough_at : ℕ → Bool
      enough_at q = leb (class_size net.nets k) (2 ^ q)

      go : (s : Option ℕ) → Least enough_at 0 (suc net.nets) s → Floor net k (or_zero s)
      go (Some q) (first a b c none) = record {
        enough = rw (sets_counted net.nets k) (leb-true _ _ c);
        smallest = λ z l. not_less z q (λ less.
            contrary (le-leb _ _ (rw (sets_counted net.nets k) at l)) (none z zero-le less));
      }
      go None (nowhere none) = contrary (le-leb _ _ sets_fit) (none net.nets zero-le (omega arith))

  -- there is one floor
  pub floor_one : (q : ℕ) → Floor net k q → q ≡ floor net k
  floor_one q f =
      omega (arith, f.smallest (floor net k) floor_is.enough, floor_is.smallest q f.enough)

  set_at : (i : ℕ) → i < length sets → DriverSet net k (at sets i)
  unfolding sets_of_class
  set_at i l =
      let entry = entry_is (λ set. leb (ones set) k) (2 ^ net.nets) i l in record {
        inside = entry.below;
        few = few_drivers_at net k (at sets i) (few_by_ones net k (at sets i) entry.below ∙ entry.passes);
      }

  -- no set stands twice in the list
  set_once : (i j : ℕ) → i < length sets → j < length sets → at sets i ≡ at sets j → i ≡ j
  unfolding sets_of_class
  set_once i j l m e =
      let p : ℕ → Bool = λ set. leb (ones set) k in
      sym (entry_is p (2 ^ net.nets) i l).index ∙ ap (λ (set : ℕ). length (sets_of_class k set)) e
      ∙ (entry_is p (2 ^ net.nets) j m).index

  -- sets told apart have responses of their own
  pub responses_enough : (vectors : List ℕ) → SetsApart net k vectors → length sets ≤ 2 ^ length vectors
  responses_enough vectors apart =
      not_less (2 ^ length vectors) (length sets) (λ more.
      let s = shared_place (2 ^ length vectors) (length sets) (λ i. sequential_response net vectors (at sets i)) more
      (λ i l. sequential_below net vectors (at sets i)) in
      s.differ (set_once s.one s.other s.one_below s.other_below
      (apart (at sets s.one) (at sets s.other)
      (set_at s.one s.one_below) (set_at s.other s.other_below)
      (sequential_alike net vectors (at sets s.one) (at sets s.other) s.same))))

  -- so there are at least as many vectors as the floor says
  pub floor_lowest : (q : ℕ) → Floor net k q → (vectors : List ℕ) → SetsApart net k vectors → q ≤ length vectors
  floor_lowest q f vectors apart = f.smallest (length vectors) (responses_enough vectors apart)

  -- and one vector is never enough: there are three sets or more, the empty one and two of one driver
  pub two_vectors : 2 ≤ net.nets → 0 < k → (vectors : List ℕ) → SetsApart net k vectors → 2 ≤ length vectors
  unfolding class_size
  two_vectors two one vectors apart =
      let three : 3 ≤ class_size net.nets k = class_size_grows 2 1 net.nets k two one in
      not_less (length vectors) 2 (λ few.
      let most : 2 ^ length vectors ≤ 2 ^ 1 = pow_mono {i = length vectors} {j = 1} (omega arith) in
      omega (arith, three, sets_counted net.nets k, responses_enough vectors apart, most))
