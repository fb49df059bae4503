-- Following the chain of a word's slot finds the word where a search of all words does.
use Rattle.std.proofs.Common.{◌≡◌, sym, ap, ◌∙◌, Bool, ◌≢◌, List, ℕ, suc, ◌≤◌, ◌<◌, arith, eqb, length, take}
use Rattle.std.proofs.Common.{length-take-le, get_or-take, eq-eqb, ne_eqb, eqb-true}
use Rattle.std.specs.Prelude.{Option}
use Rattle.std.specs.Prelude.{Some, None}
use Rattle.words.specs.Bits.{at}
use Rattle.words.specs.Searching.{least, position}
use Rattle.words.proofs.Tests.{contrary}
use Rattle.words.proofs.Searching.{least_same}
use Rattle.chains.specs.Chains.{slot, last, in_slot}
use Rattle.chains.proofs.Last.{last_at_most, last_passes, last_after, or_else, or_else_missing, least_shrinks, least_top}

module _ (slots word : ℕ) (words : List ℕ) (count : ℕ) where
  abbrev here : ℕ → Bool
  here t = eqb (at words t) word

  abbrev of_chain : ℕ → Bool
  of_chain = in_slot slots words (slot slots word)

  -- what is left of the chain at a place, with what was found above it
  pub record Following (place : ℕ) (found : Option ℕ) : Type 0 where
    pub inside : place ≤ count
    pub own_slot : (i : ℕ) → place ≡ suc i → slot slots (at words i) ≡ slot slots word
    pub whole : position word (take count words) ≡ or_else (least place 0 here) found

  -- below n, only the word's chain can have it
  chain_only : (n : ℕ) → least n 0 here ≡ least (last n of_chain) 0 here
  chain_only n =
      least_shrinks here (last n of_chain) n (last_at_most _ n)
      (λ z l m. ne_eqb (at words z) word (λ e. contrary (eq-eqb _ _ (ap (slot slots) e)) (last_after of_chain n z l m)))

  position_below : count ≤ length words → position word (take count words) ≡ least count 0 here
  unfolding position
  position_below l =
      ap (λ (n : ℕ). least n 0 (λ t. eqb (at (take count words) t) word)) (length-take-le count words l)
      ∙ least_same (λ t. eqb (at (take count words) t) word) here count
      (λ z m. ap (λ (x : ℕ). eqb x word) (get_or-take count words z 0 m))

  pub following_first : (place : ℕ) → count ≤ length words → place ≡ last count of_chain → Following place None
  following_first place l e = record {
    inside = rw e (last_at_most _ count);
    own_slot = λ i q. eqb-true _ _ (last_passes of_chain count i (sym e ∙ q));
    whole = position_below l ∙ chain_only count ∙ ap (λ (x : ℕ). least x 0 here) (sym e) ∙ or_else_missing (least place 0 here);
  }

  -- one link on, from the place of index i
  module _ (from i : ℕ) (at_i : from ≡ suc i) (found : Option ℕ) (f : Following from found) (place : ℕ)
      (e : place ≡ last i (in_slot slots words (slot slots (at words i)))) where
    below : place ≡ last i of_chain
    below = e ∙ ap (λ (s : ℕ). last i (in_slot slots words s)) (f.own_slot i at_i)

    from_here : position word (take count words) ≡ or_else (least (suc i) 0 here) found
    from_here = f.whole ∙ ap (λ (x : ℕ). or_else (least x 0 here) found) at_i

    pub falls : place < from
    falls = rw below (omega (arith, last_at_most of_chain i))

    next : (now : Option ℕ) → position word (take count words) ≡ or_else (least i 0 here) now → Following place now
    next now h = record {
      inside = let a = f.inside in rw below (omega (arith, last_at_most of_chain i));
      own_slot = λ j q. eqb-true _ _ (last_passes of_chain i j (sym below ∙ q));
      whole = h ∙ ap (λ (s : Option ℕ). or_else s now) (chain_only i ∙ ap (λ (x : ℕ). least x 0 here) (sym below));
    }

    pub following_hit : at words i ≡ word → Following place (Some i)
    following_hit h = next (Some i) (from_here ∙ least_top here i found (eq-eqb _ _ h))

    pub following_miss : at words i ≢ word → Following place found
    following_miss h =
        next found (from_here ∙ ap (λ (s : Option ℕ). or_else s found) (least_shrinks here i (suc i) (omega arith)
        (λ z l m. let q : z ≡ i = omega arith in rw q (ne_eqb _ _ h))))

  pub following_end : (place : ℕ) (found : Option ℕ) → place ≡ 0 → Following place found → found ≡ position word (take count words)
  unfolding least
  following_end place found e f = sym (f.whole ∙ ap (λ (x : ℕ). or_else (least x 0 here) found) e)
