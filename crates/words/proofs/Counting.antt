-- How many words a class has, the entries of their list, and the search in it.
use Rattle.std.proofs.Common.{◌≡◌, refl, sym, ap, ◌∙◌, Bool, true, false, ◌&&◌, List, [], ◌∷◌, ◌++◌, ℕ, zero, suc}
use Rattle.std.proofs.Common.{◌+◌, ◌-◌, ◌^◌, ◌≤◌, ◌<◌, not-suc-le-zero, le_of_suc-le-suc, le_refl, arith, leb}
use Rattle.std.proofs.Common.{pow_pos, pow_mono, length, get_or-take, leb-true, le-leb}
use lib.Dec.{leb-zero, leb-suc-suc}
use lib.Count.{ones}
use borrow.Author.Tests.{lt-leb}
use Rattle.std.specs.Prelude.{Some, None}
use Rattle.words.specs.Bits.{at}
use Rattle.words.specs.Searching.{least, passing, sets_of_class}
use Rattle.words.specs.Counting.{class_size}
use Rattle.words.proofs.Classes.{ones_top, ones_positive}
use Rattle.words.proofs.Passing.{passing_same, passing_yes, passing_gap, passing_front}
use Rattle.words.proofs.Passing.{count_parts, count_grows, count_grows_past, Entry, entry_of, entry_is, least_in, none_in}

-- ---- the size of a class

class_size_positive : (n k : ℕ) → 0 < class_size n k
unfolding class_size
class_size_positive n zero = omega arith
class_size_positive zero (suc k) = omega arith
class_size_positive (suc n) (suc k) = omega (arith, class_size_positive n k)

pub class_size_grows : (n k m j : ℕ) → n ≤ m → k ≤ j → class_size n k ≤ class_size m j
unfolding class_size
class_size_grows n zero m j h l = class_size_positive m j
class_size_grows zero (suc k) m j h l = class_size_positive m j
class_size_grows (suc n) (suc k) zero j h l = absurd (not-suc-le-zero h)
class_size_grows (suc n) (suc k) (suc m) zero h l = absurd (not-suc-le-zero l)
class_size_grows (suc n) (suc k) (suc m) (suc j) h l =
    omega (
      arith,
      class_size_grows n (suc k) m (suc j) (le_of_suc-le-suc h) l,
      class_size_grows n k m j
          (le_of_suc-le-suc h) (le_of_suc-le-suc l),
    )

pub class_size_largest : class_size 48 3 ≡ 18473
unfolding class_size
class_size_largest = refl

-- below 2 ^ n + z: those below 2 ^ n, and with bit n those below z of the class below
sets_above : (n k z : ℕ) → z ≤ 2 ^ n
    → length (sets_of_class (suc k) (2 ^ n + z)) ≡ length (sets_of_class (suc k) (2 ^ n)) + length (sets_of_class k z)
unfolding sets_of_class
sets_above n k z l =
    count_parts (λ y. leb (ones y) (suc k)) (2 ^ n) z
    ∙ ap (λ (ws : List ℕ). length (sets_of_class (suc k) (2 ^ n)) + length ws)
    (passing_same _ _ z (λ y m. ap (λ (x : ℕ). leb x (suc k)) (ones_top n y (omega arith)) ∙ leb-suc-suc (ones y) k))

sets_double : (n k : ℕ)
    → length (sets_of_class (suc k) (2 ^ suc n)) ≡ length (sets_of_class (suc k) (2 ^ n)) + length (sets_of_class k (2 ^ n))
sets_double n k =
    let twice : 2 ^ suc n ≡ 2 ^ n + 2 ^ n = omega arith in
    ap (λ (b : ℕ). length (sets_of_class (suc k) b)) twice ∙ sets_above n k (2 ^ n) (le_refl (2 ^ n))

-- the word 0 alone
sets_first : (k : ℕ) → sets_of_class k 1 ≡ 0 ∷ []
unfolding sets_of_class passing ones
sets_first k = rw (leb-zero k)

pub sets_counted : (n k : ℕ) → length (sets_of_class k (2 ^ n)) ≡ class_size n k
unfolding sets_of_class class_size
sets_counted n zero =
    ap length (passing_gap _ 1 (2 ^ n) (pow_pos n) (λ z i j. lt-leb (ones z) 0 (ones_positive z i))) ∙ ap length (sets_first 0)
sets_counted zero (suc k) = ap length (sets_first (suc k))
sets_counted (suc n) (suc k) = sets_double n k ∙ rw (sets_counted n (suc k), sets_counted n k)

pub sets_of_one : (n : ℕ) → length (sets_of_class 1 (2 ^ n)) ≡ n + 1
unfolding class_size
sets_of_one zero = sets_counted 0 1
sets_of_one (suc n) = omega (arith, sets_double n 0, sets_of_one n, sets_counted n 0)

pub sets_of_two : length (sets_of_class 2 (2 ^ 48)) ≡ 1177
unfolding class_size
sets_of_two = sets_counted 48 2

pub sets_of_three : length (sets_of_class 3 (2 ^ 48)) ≡ 18473
sets_of_three = sets_counted 48 3 ∙ class_size_largest

-- more than the word 0: some bit
pub sets_some : (n k i : ℕ) → 0 < i → i < length (sets_of_class k (2 ^ n)) → n ≡ suc (n - 1)
sets_some zero k i p l = absurd (not-suc-le-zero {n = 0} (omega (arith, ap length (sets_first k))))
sets_some (suc n) k i p l = omega arith

-- a bit less
pub sets_less : (n d k : ℕ) → n ≡ suc d
    → length (sets_of_class (suc k) (2 ^ n)) ≡ length (sets_of_class (suc k) (2 ^ d)) + length (sets_of_class k (2 ^ d))
sets_less n d k e = rw e (sets_double d k)

-- ---- the bound

pub sets_bound : (n k : ℕ) → n ≤ 48 → k ≤ 3 → length (sets_of_class k (2 ^ n)) ≤ 18473
sets_bound n k h l = omega (arith, sets_counted n k, class_size_grows n k 48 3 h l, class_size_largest)

-- no more than with more bits and more ones
pub sets_most : (n k m j size : ℕ) → n ≤ m → k ≤ j → class_size m j ≤ size → length (sets_of_class k (2 ^ n)) ≤ size
sets_most n k m j size h l room = omega (arith, sets_counted n k, class_size_grows n k m j h l, room)

-- a word of the class has fewer words of the class below it than a larger bound
pub sets_fewer : (k a b : ℕ) → a < b → ones a ≤ k → length (sets_of_class k a) < length (sets_of_class k b)
unfolding sets_of_class
sets_fewer k a b l e = count_grows_past (λ z. leb (ones z) k) a b l (le-leb (ones a) k e)

-- ---- the entries

pub sets_below : (k b i : ℕ) → i < length (sets_of_class k b) → at (sets_of_class k b) i < b
unfolding sets_of_class
sets_below k b i l = (entry_is (λ z. leb (ones z) k) b i l).below

-- those below a stand at the front of those below b
pub sets_front : (k a b i : ℕ) → a ≤ b → i < length (sets_of_class k a) → at (sets_of_class k a) i ≡ at (sets_of_class k b) i
unfolding sets_of_class
sets_front k a b i l m =
    let p : ℕ → Bool = λ z. leb (ones z) k in
    ap (λ (ws : List ℕ). at ws i) (sym (passing_front p a b l)) ∙ get_or-take (length (passing p a)) (passing p b) i 0 m

pub sets_zero : (k n : ℕ) → at (sets_of_class k (2 ^ n)) 0 ≡ 0
sets_zero k n = sym (sets_front k 1 (2 ^ n) 0 (pow_pos n) (rw (sets_first k) (omega arith))) ∙ rw (sets_first k)

-- after those below 2 ^ c come those of the class below, with bit c
sets_entry : (k c i j : ℕ) → i ≡ length (sets_of_class (suc k) (2 ^ c)) + j → j < length (sets_of_class k (2 ^ c))
    → at (sets_of_class (suc k) (2 ^ suc c)) i ≡ 2 ^ c + at (sets_of_class k (2 ^ c)) j
unfolding sets_of_class
sets_entry k c i j e l =
    let y = at (sets_of_class k (2 ^ c)) j in
    let r : Entry (λ z. leb (ones z) k) (2 ^ c) j y = entry_is (λ z. leb (ones z) k) (2 ^ c) j l in
    let few : ones (2 ^ c + y) ≤ suc k = omega (arith, ones_top c y r.below, leb-true (ones y) k r.passes) in
    let index : i ≡ length (sets_of_class (suc k) (2 ^ c + y)) = omega (arith, e, sets_above c k y (omega (arith, r.below)), r.index) in
    rw index (entry_of (λ z. leb (ones z) (suc k)) (2 ^ suc c) (2 ^ c + y) (omega (arith, r.below)) (le-leb _ _ few))

-- one bit: after the word 0 the single bits
pub sets_single : (n i : ℕ) → i < n → at (sets_of_class 1 (2 ^ n)) (suc i) ≡ 2 ^ i
unfolding class_size
sets_single n i l =
    let entry = sets_entry 0 i (suc i) 0 (omega (arith, sets_of_one i)) (omega (arith, sets_counted i 0)) in
    let front = sets_front 1 (2 ^ suc i) (2 ^ n) (suc i) (pow_mono {i = suc i} {j = n} l) (omega (arith, sets_of_one (suc i))) in
    omega (arith, entry, front, sets_zero 0 i)

-- at most one bit: an entry of the class 0 is one of the class 1
pub sets_few : (k n i : ℕ) → k ≤ 1 → i < length (sets_of_class k (2 ^ n))
    → (i ≤ n) × (at (sets_of_class 1 (2 ^ n)) i ≡ at (sets_of_class k (2 ^ n)) i)
unfolding class_size
sets_few zero n zero h l = (omega arith, sets_zero 1 n ∙ sym (sets_zero 0 n))
sets_few zero n (suc i) h l = absurd (not-suc-le-zero {n = 0} (omega (arith, sets_counted n 0)))
sets_few (suc zero) n i h l = (omega (arith, sets_of_one n), refl)
sets_few (suc (suc k)) n i h l = absurd (not-suc-le-zero (le_of_suc-le-suc h))

-- the entry i of the words below 2 ^ n with at most k + 1 ones has no bit above bit c
pub record Top (k n i c : ℕ) : Type 0 where
  pub low : c ≤ n
  inside : i < length (sets_of_class (suc k) (2 ^ suc c))
  same : at (sets_of_class (suc k) (2 ^ n)) i ≡ at (sets_of_class (suc k) (2 ^ suc c)) i

pub top_first : (k n i : ℕ) → i < length (sets_of_class (suc k) (2 ^ n)) → Top k n i n
top_first k n i l = record {
  low = le_refl n;
  inside = omega (arith, sets_double n k);
  same = sets_front (suc k) (2 ^ n) (2 ^ suc n) i (omega arith) l;
}

module _ (k n i c : ℕ) (t : Top k n i c) where
  -- not bit c
  pub top_less : (d : ℕ) → c ≡ suc d → i < length (sets_of_class (suc k) (2 ^ c)) → Top k n i d
  top_less d e l = record {
    low = omega (arith, t.low);
    inside = rw e at l;
    same =
        t.same ∙ sym (sets_front (suc k) (2 ^ c) (2 ^ suc c) i (omega arith) l) ∙ ap (λ (b : ℕ). at (sets_of_class (suc k) (2 ^ b)) i) e;
  }

  -- bit c: the rest is a word of the class below
  pub top_rest : (s : ℕ) → s ≡ length (sets_of_class (suc k) (2 ^ c)) → s ≤ i → i - s < length (sets_of_class k (2 ^ c))
  top_rest s e l = omega (arith, t.inside, sets_double c k)

  pub top_is : (s : ℕ) → s ≡ length (sets_of_class (suc k) (2 ^ c)) → s ≤ i
      → at (sets_of_class (suc k) (2 ^ n)) i ≡ 2 ^ c + at (sets_of_class k (2 ^ c)) (i - s)
  top_is s e l = t.same ∙ sets_entry k c i (i - s) (omega arith) (top_rest s e l)

-- ---- one number more, and a search in a class

-- a set of the class, and numbers that are none
pub sets_with : (k w : ℕ) → ones w ≤ k → sets_of_class k (suc w) ≡ sets_of_class k w ++ w ∷ []
unfolding sets_of_class
sets_with k w l = passing_yes (λ z. leb (ones z) k) w (le-leb (ones w) k l)

pub sets_gap : (k a b : ℕ) → a ≤ b → ((z : ℕ) → a ≤ z → z < b → k < ones z) → sets_of_class k b ≡ sets_of_class k a
unfolding sets_of_class
sets_gap k a b l h = passing_gap (λ z. leb (ones z) k) a b l (λ z i j. lt-leb (ones z) k (h z i j))

pub sets_grow : (k a b : ℕ) → a ≤ b → length (sets_of_class k a) ≤ length (sets_of_class k b)
unfolding sets_of_class
sets_grow k = count_grows (λ z. leb (ones z) k)

module _ (k b : ℕ) (q : ℕ → Bool) where
  pub least_in_class : (m : ℕ) → m < length (sets_of_class k b) → q (at (sets_of_class k b) m) ≡ true
      → ((j : ℕ) → j < m → q (at (sets_of_class k b) j) ≡ false) → least b 0 (λ a. leb (ones a) k && q a) ≡ Some (at (sets_of_class k b) m)
  unfolding sets_of_class
  least_in_class = least_in (λ z. leb (ones z) k) b q

  pub none_in_class : ((j : ℕ) → j < length (sets_of_class k b) → q (at (sets_of_class k b) j) ≡ false)
      → least b 0 (λ a. leb (ones a) k && q a) ≡ None
  unfolding sets_of_class
  none_in_class = none_in (λ z. leb (ones z) k) b q
