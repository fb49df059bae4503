-- The sequential words of step one: how long they are, that there are enough, and that none covers another. Computed
-- tests on the balanced words of p bits for p from 2 to 8, and on which p each n from 2 to 48 takes.
use Rattle.std.proofs.Common.{◌≡◌, refl, sym, ap, ◌∙◌, Bool, true, false, not, ◌&&◌, inl, inr, ⊎_elim, ◌≢◌, List, []}
use Rattle.std.proofs.Common.{◌∷◌, ℕ, zero, suc, ◌+◌, ◌-◌, ◌/◌, ◌^◌, ◌<◌, ◌≤◌, zero-le, not-suc-le-zero, arith, eqb}
use Rattle.std.proofs.Common.{leb, length, get_or-take, length-take-le, eqb-true, ne_eqb, leb-true, leb-false, eq-eqb}
use borrow.Author.Tests.{not-true, not-false}
use Rattle.std.specs.Prelude.{Option}
use Rattle.std.specs.Prelude.{Some, None}
use Rattle.words.specs.Bits.{has, at, ones_of}
use Rattle.words.specs.Searching.{least, or_zero, any, passing}
use Rattle.words.proofs.Tests.{and_left, and_right, less_or_not}
use Rattle.words.proofs.Searching.{Least, first, nowhere, least_below, any_some, any_false}
use Rattle.words.proofs.Passing.{Entry, entry_is, entry_of, larger_by_count}
use Rattle.words.proofs.Columns.{transpose_size, transpose_at, transpose_below, transpose_bits}
use Rattle.words.specs.Turning.{column}
use Rattle.network.specs.declared.Network.{Network}
use Rattle.network.specs.Reading.{network_of}
use Rattle.steps.specs.FirstStep.{binomial, word_length, balanced_words, sequential_words, first_vectors}
use Rattle.steps.specs.FirstStep.{WordLength, SmallestWords, VectorsOfWords}
use Rattle.steps.specs.Open.{open_steps}
use Rattle.steps.proofs.WordsApart.{WordsApart}

-- ---- the computed tests

-- a test that fails at each of the k numbers from 2 on
none_from_two : (test : ℕ → Bool) (k : ℕ) → any k (λ m. test (2 + m)) ≡ false → (n : ℕ) → 2 ≤ n → n < 2 + k → test n ≡ false
none_from_two test k e n two l =
    let same : 2 + (n - 2) ≡ n = omega arith in
    sym (ap test same) ∙ any_false (λ m. test (2 + m)) k (n - 2) (omega arith) e

-- the balanced words of p bits are not as many as they should be
unfoldable wrong_count : ℕ → Bool
wrong_count p = not (eqb (length (balanced_words p)) (binomial p (p / 2)))

-- of words of p bits, a has every 1 of b
unfoldable pub covers : ℕ → ℕ → ℕ → Bool
covers p a b = not (any p (λ t. let a_has = has a t in has b t && not a_has))

unfoldable pub some_covers : ℕ → List ℕ → Bool
some_covers p words = any (length words) (λ i. any (length words) (λ j. let c = covers p (at words i) (at words j) in not (eqb i j) && c))

none_wrong_count : any 7 (λ m. wrong_count (2 + m)) ≡ false
unfolding open_steps wrong_count
none_wrong_count = refl

none_covers : any 7 (λ m. some_covers (2 + m) (balanced_words (2 + m))) ≡ false
unfolding open_steps covers some_covers
none_covers = refl

-- n takes a p that is not from 2 to 8
unfoldable length_outside : ℕ → Bool
length_outside n = let p = word_length (network_of n) in not (leb 2 p && leb p 8)

none_outside : any 47 (λ m. length_outside (2 + m)) ≡ false
unfolding open_steps length_outside
none_outside = refl

-- C(p, p/2 rounded down) for p from 0 to 7
abbrev pub central_numbers : List ℕ
central_numbers = 1 ∷ 1 ∷ 2 ∷ 3 ∷ 6 ∷ 10 ∷ 20 ∷ 35 ∷ []

wrong_central : ℕ → Bool
wrong_central p = not (eqb (at central_numbers p) (binomial p (p / 2)))

none_wrong_central : any 8 wrong_central ≡ false
unfolding open_steps wrong_central
none_wrong_central = refl

central_is : (p : ℕ) → p < 8 → at central_numbers p ≡ binomial p (p / 2)
unfolding wrong_central
central_is p l = eqb-true _ _ (not-false _ (any_false wrong_central 8 p l none_wrong_central))

-- words of which none covers another, by the test: another has a 1 where one has a 0
pub apart_by_test : (p : ℕ) (words : List ℕ) → some_covers p words ≡ false → (i j : ℕ) → i < length words → j < length words → i ≢ j
    → (t : ℕ) × (t < p) × (has (at words j) t ≡ true) × (has (at words i) t ≡ false)
unfolding some_covers covers
apart_by_test p words none i j l m d =
    let test : ℕ → ℕ → Bool = λ x y. not (eqb x y) && covers p (at words x) (at words y) in
    let here : test i j ≡ false =
    any_false (test i) (length words) j m
    (any_false (λ x. any (length words) (test x)) (length words) i l none) in
    let r = any_some (λ t. has (at words j) t && not (has (at words i) t)) p (not-false _ (rw (ne_eqb i j d) at here)) in
    let b = has (at words j) r.0 in
    let a = has (at words i) r.0 in
    (r.0, r.1, and_left b (not a) r.2, not-true a (and_right b (not a) r.2))

-- ---- the balanced words of p bits

module _ (p : ℕ) (two : 2 ≤ p) (eight : p ≤ 8) where
  balanced_count : length (balanced_words p) ≡ binomial p (p / 2)
  unfolding wrong_count
  balanced_count = eqb-true _ _ (not-false _ (none_from_two wrong_count 7 none_wrong_count p two (omega arith)))

  balanced_apart : (i j : ℕ) → i < length (balanced_words p) → j < length (balanced_words p) → i ≢ j
      → (t : ℕ) × (t < p) × (has (at (balanced_words p) j) t ≡ true) × (has (at (balanced_words p) i) t ≡ false)
  balanced_apart =
      apart_by_test p (balanced_words p) (none_from_two (λ q. some_covers q (balanced_words q)) 7 none_covers p two (omega arith))

-- a number with p/2 ones, for the network's p
abbrev pub balanced : Network → ℕ → Bool
balanced net w = eqb (ones_of (word_length net) w) (word_length net / 2)

-- ---- the length of the words

module _ (net : Network) (two : 2 ≤ net.nets) (most : net.nets ≤ 48) where
  pub length_bounds : (2 ≤ word_length net) × (word_length net ≤ 8)
  unfolding length_outside word_length
  length_bounds =
      let p = word_length net in
      let here : leb 2 p && leb p 8 ≡ true = not-false _ (none_from_two length_outside 47 none_outside net.nets two (omega arith)) in
      (leb-true 2 p (and_left (leb 2 p) (leb p 8) here), leb-true p 8 (and_right (leb 2 p) (leb p 8) here))

  pub word_length_is : WordLength net (word_length net)
  unfolding word_length
  word_length_is = go (least (suc net.nets) 0 fits) (least_below fits (suc net.nets)) length_bounds.0
    where
      fits : ℕ → Bool
      fits p = leb net.nets (binomial p (p / 2))

      go : (s : Option ℕ) → Least fits 0 (suc net.nets) s → 2 ≤ or_zero s → WordLength net (or_zero s)
      go (Some p) (first a b c g) l = record { enough = leb-true _ _ c; smallest = λ q m. leb-false _ _ (g q zero-le m) }
      go None (nowhere g) l = absurd (not-suc-le-zero l)

  pub enough_words : net.nets ≤ length (balanced_words (word_length net))
  enough_words = rw (balanced_count (word_length net) length_bounds.0 length_bounds.1) word_length_is.enough

  -- a search upward for it: the first central number that is at least n, or the end
  module _ (p : ℕ) (fewer : (q : ℕ) → q < p → at central_numbers q < net.nets) where
    not_below : p ≤ 8 → word_length net < p → ⊥
    not_below l m = omega (arith, fewer (word_length net) m, word_length_is.enough, central_is (word_length net) (omega arith))

    pub length_reached : p < 8 → net.nets ≤ at central_numbers p → p ≡ word_length net
    length_reached l enough =
        let not_above : p < word_length net → ⊥ = λ m. omega (arith, word_length_is.smallest p m, central_is p l) in
        omega (arith, not_above, not_below (omega arith))

    pub length_last : p ≡ 8 → p ≡ word_length net
    length_last e = omega (arith, length_bounds, not_below (omega arith))

  -- ---- the words themselves

  pub words_size : length (sequential_words net) ≡ net.nets
  unfolding sequential_words
  words_size = length-take-le net.nets (balanced_words (word_length net)) enough_words

  word_at : (i : ℕ) → i < net.nets → at (sequential_words net) i ≡ at (balanced_words (word_length net)) i
  unfolding sequential_words
  word_at i l = get_or-take net.nets (balanced_words (word_length net)) i 0 l

  word_is : (i : ℕ) → i < net.nets → Entry (balanced net) (2 ^ word_length net) i (at (sequential_words net) i)
  unfolding balanced_words
  word_is i l = rw (word_at i l) (entry_is (balanced net) (2 ^ word_length net) i (omega (arith, enough_words)))

  pub words_are_smallest : SmallestWords net (word_length net) (sequential_words net)
  unfolding balanced_words
  words_are_smallest = record {
    one_a_net = words_size;
    below = λ i l. (word_is i l).below;
    half_ones = λ i l. eqb-true _ _ (word_is i l).passes;
    ascending = λ i j l m. larger_by_count (balanced net) _ _ (rw ((word_is i (omega arith)).index, (word_is j m).index) l);
    smallest = λ w l e. ⊎_elim
        (λ m. inl (length (passing (balanced net) w), m, word_at _ m ∙ entry_of (balanced net) (2 ^ word_length net) w l (eq-eqb _ _ e)))
        (λ (m : net.nets ≤ length (passing (balanced net) w)). inr
        (λ i k. larger_by_count (balanced net) _ _ (rw (word_is i k).index (omega arith))))
        (less_or_not (length (passing (balanced net) w)) net.nets);
  }

  pub words_apart : WordsApart net
  words_apart = record {
    size = words_size;
    below = λ i l. (word_is i l).below;
    has_gap = λ i l. let o = another i in let r = apart_at i o.0 l o.1 (λ e. o.2 (sym e)) in (r.0, r.1, r.3);
    has_one = λ i l. let o = another i in let r = apart_at o.0 i o.1 l o.2 in (r.0, r.1, r.2);
    uncovered = apart_at;
  }
    where
      apart_at : (i j : ℕ) → i < net.nets → j < net.nets → i ≢ j
          → (t : ℕ) × (t < word_length net) × (has (at (sequential_words net) j) t ≡ true) × (has (at (sequential_words net) i) t ≡ false)
      apart_at i j l m d =
          rw (word_at i l, word_at j m)
          (balanced_apart (word_length net) length_bounds.0 length_bounds.1 i j (omega (arith, enough_words, l))
          (omega (arith, enough_words, m)) d)

      another : (i : ℕ) → (j : ℕ) × (j < net.nets) × (j ≢ i)
      another zero = (1, omega (arith, two), λ e. omega arith)
      another (suc i) = (0, omega (arith, two), λ e. omega arith)

-- ---- the vectors

pub first_size : (net : Network) → length (first_vectors net) ≡ word_length net
unfolding first_vectors
first_size net = transpose_size (word_length net) (sequential_words net)

pub first_at : (net : Network) (t : ℕ) → t < word_length net → at (first_vectors net) t ≡ column (sequential_words net) t
unfolding first_vectors
first_at net t l = transpose_at (word_length net) (sequential_words net) t l

pub first_has : (net : Network) (t i : ℕ) → t < word_length net → i < length (sequential_words net)
    → has (at (first_vectors net) t) i ≡ has (at (sequential_words net) i) t
unfolding first_vectors
first_has net t i l m = transpose_bits (word_length net) (sequential_words net) t i m l

pub vectors_of_words : (net : Network) → 2 ≤ net.nets → net.nets ≤ 48
    → VectorsOfWords net (word_length net) (sequential_words net) (first_vectors net)
unfolding first_vectors
vectors_of_words net two most = record {
  one_a_bit = first_size net;
  no_high_bit = λ t l. rw (words_size net two most) at (transpose_below (word_length net) (sequential_words net) t l);
  bits = λ t i l m. first_has net t i l (rw (words_size net two most) m);
}
