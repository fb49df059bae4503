-- The vectors of step two, as a loop over the nets makes them.
use Rattle.std.proofs.Common.{◌≡◌, ◌≢◌, refl, sym, ap, ◌∙◌, Bool, true, false, not, List, [], ◌∷◌, ◌++◌, map}
use Rattle.std.proofs.Common.{append-nil, append_assoc, ℕ, suc, ◌+◌, ◌≤◌, ◌<◌, length, take, arith, add-one}
use Rattle.std.proofs.Common.{length-append, eqb, length-take-le, get_or-take, ext_get_or, ne_eqb}
use Rattle.std.proofs.lemmas.List.{length-map}
use Rattle.words.specs.Bits.{at}
use Rattle.words.specs.Searching.{passing}
use Rattle.words.specs.Turning.{column, transpose, Columns}
use Rattle.words.proofs.Passing.{passing_yes, passing_no, count_most}
use Rattle.words.proofs.Making.{map_snoc}
use Rattle.words.proofs.Columns.{transpose_size, transpose_at}
use Rattle.network.specs.declared.Network.{Network}
use Rattle.network.specs.Reading.{walking_vector, extra_vectors}
use Rattle.network.proofs.Reading.{extra_most}
use Rattle.steps.specs.FirstStep.{sequential_words}
use Rattle.steps.specs.SecondStep.{only_from, is_clear, unclear, settling_vectors, second_vectors}
use Rattle.steps.proofs.BothSteps.{settling_is, second_none}

-- ---- no vectors where no net is given, and else the extra vector first, if there is one

settling_empty : (net : Network) (nets : List ℕ) → eqb (length (settling_vectors net nets)) 0 ≡ eqb (length nets) 0
settling_empty net [] = refl
settling_empty net (i ∷ nets) =
    ne_eqb (length (settling_vectors net (i ∷ nets))) 0
    (λ e. omega (arith, length-append (extra_vectors net) (map (walking_vector net) (i ∷ nets)), e))
    ∙ sym (ne_eqb (suc (length nets)) 0 (λ e. omega arith))

pub second_empty : (net : Network) (owners answers : List ℕ)
    → eqb (length (second_vectors net owners answers)) 0 ≡ eqb (length (unclear net owners answers)) 0
unfolding second_vectors
second_empty net owners answers = settling_empty net (unclear net owners answers)

-- ---- what the receivers returned

pub columns_are : (n : ℕ) (columns answers : List ℕ) → n ≤ length columns → ((i : ℕ) → i < n → at columns i ≡ column answers i)
    → take n columns ≡ transpose n answers
columns_are n columns answers l h =
    let size : length (take n columns) ≡ n = length-take-le n columns l in
    ext_get_or 0 (take n columns) (transpose n answers) (size ∙ sym (transpose_size n answers))
    (λ i m. let k : i < n = rw size at m in get_or-take n columns i 0 k ∙ h i k ∙ sym (transpose_at n answers i k))

-- the test of the words returned tells whether a net is clear
pub clear_test : (net : Network) (owners words columns answers : List ℕ) (i : ℕ) → words ≡ sequential_words net
    → length owners ≤ length columns
    → Columns (length owners) answers columns
    → only_from (at words i) (take (length owners) columns) owners i ≡ is_clear net owners answers i
unfolding is_clear
clear_test net owners words columns answers i same room h = rw (same, columns_are (length owners) columns answers room h)

-- ---- net by net

module _ (net : Network) (owners answers : List ℕ) where
  is_unclear : ℕ → Bool
  is_unclear i = not (is_clear net owners answers i)

  -- the extra vector, if there is one, then the walking vectors of the unclear nets below i
  pub listed : ℕ → List ℕ
  listed i = extra_vectors net ++ map (walking_vector net) (passing is_unclear i)

  listed_size : (i : ℕ) → length (listed i) ≡ length (extra_vectors net) + length (passing is_unclear i)
  unfolding listed
  listed_size i =
      length-append (extra_vectors net) (map (walking_vector net) (passing is_unclear i))
      ∙ ap (λ (n : ℕ). length (extra_vectors net) + n) (length-map (passing is_unclear i) (walking_vector net))

  pub listed_few : (i : ℕ) → length (listed i) ≤ i + 1
  listed_few i = omega (arith, listed_size i, extra_most net, count_most is_unclear i)

  pub listed_start : extra_vectors net ≡ listed 0
  unfolding listed passing
  listed_start = sym (append-nil (extra_vectors net))

  -- a net that is unclear, a net that is clear, and the end
  pub listed_more : (i : ℕ) → is_clear net owners answers i ≡ false → listed i ++ walking_vector net i ∷ [] ≡ listed (i + 1)
  unfolding listed is_unclear
  listed_more i e = rw (add-one i)
      (append_assoc (extra_vectors net) (map (walking_vector net) (passing is_unclear i)) (walking_vector net i ∷ [])
      ∙ ap (λ (ys : List ℕ). extra_vectors net ++ ys) (sym (map_snoc (walking_vector net) (passing is_unclear i) i))
      ∙ ap (λ (nets : List ℕ). extra_vectors net ++ map (walking_vector net) nets)
      (sym (passing_yes is_unclear i (ap not e))))

  pub listed_same : (i : ℕ) → is_clear net owners answers i ≡ true → listed i ≡ listed (i + 1)
  unfolding listed is_unclear
  listed_same i e = rw (add-one i, passing_no is_unclear i (ap not e))

  pub listed_none : length (listed net.nets) ≡ length (extra_vectors net) → [] ≡ second_vectors net owners answers
  unfolding unclear is_unclear
  listed_none e = sym (second_none net owners answers (omega (arith, e, listed_size net.nets)))

  pub listed_some : length (listed net.nets) ≢ length (extra_vectors net) → listed net.nets ≡ second_vectors net owners answers
  unfolding listed second_vectors unclear is_unclear
  listed_some d =
      sym (settling_is net (unclear net owners answers) (λ e. d (listed_size net.nets ∙ omega (arith, e))))
