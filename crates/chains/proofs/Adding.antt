-- One word more in its chain.
use Rattle.std.proofs.Common.{◌≡◌, sym, ap, ◌∙◌, subst, ⊎_elim, ◌≢◌, List, ℕ, suc, ◌+◌, ◌≤◌, ◌<◌, not-suc-le-zero}
use Rattle.std.proofs.Common.{le_refl, add-one, arith, eqb, length, set, replicate, length-set, get_or-set_same}
use Rattle.std.proofs.Common.{get_or-set_other, eq-eqb, ne_eqb, eqb-true}
use lib.ListN.{length-replicate, get_or-replicate}
use borrow.Author.Tests.{eqb-false}
use Rattle.words.specs.Bits.{at}
use Rattle.words.proofs.Tests.{cases, less_or_not}
use Rattle.chains.specs.Chains.{slot, last, in_slot, Chains}
use Rattle.chains.proofs.Last.{last_yes, last_no, last_same}

-- no words yet: no slot has one
pub chains_first : (words links : List ℕ) (slots : ℕ) → 0 < slots → Chains words links (replicate slots 0) 0
unfolding last
chains_first words links slots l = record {
  some_slot = rw (length-replicate {A = ℕ} slots 0) l;
  words_room = omega arith;
  links_room = omega arith;
  linked = λ i m. absurd (not-suc-le-zero m);
  headed = λ s m. get_or-replicate slots s 0 0 (rw (length-replicate {A = ℕ} slots 0) at m);
}

module _ (words links heads : List ℕ) (count word s : ℕ) (c : Chains words links heads count) (s_is : s ≡ slot (length heads) word)
    (s_inside : s < length heads) (lw : count < length words) (ll : count < length links) where
  abbrev after_words : List ℕ
  after_words = set words count word

  abbrev after_links : List ℕ
  after_links = set links count (at heads s)

  abbrev after_heads : List ℕ
  after_heads = set heads s (suc count)

  abbrev slots : ℕ
  slots = length heads

  early : (i : ℕ) → i < count → at after_words i ≡ at words i
  early i l = get_or-set_other words count i word 0 (λ e. omega arith)

  newest : at after_words count ≡ word
  newest = get_or-set_same words count word 0 lw

  same_last : (r n : ℕ) → n ≤ count → last n (in_slot slots after_words r) ≡ last n (in_slot slots words r)
  same_last r n l = last_same _ _ n (λ z m. ap (λ (x : ℕ). eqb (slot slots x) r) (early z (omega arith)))

  linked_old : (i : ℕ) → i < count → at after_links i ≡ last i (in_slot slots after_words (slot slots (at after_words i)))
  linked_old i l =
      get_or-set_other links count i (at heads s) 0 (λ e. omega arith) ∙ c.linked i l
      ∙ sym (ap (λ (x : ℕ). last i (in_slot slots after_words (slot slots x))) (early i l)
      ∙ same_last (slot slots (at words i)) i (omega arith))

  linked_new : at after_links count ≡ last count (in_slot slots after_words (slot slots (at after_words count)))
  linked_new =
      get_or-set_same links count (at heads s) 0 ll ∙ c.headed s s_inside
      ∙ sym (ap (λ (x : ℕ). last count (in_slot slots after_words (slot slots x))) newest
      ∙ ap (λ (r : ℕ). last count (in_slot slots after_words r)) (sym s_is) ∙ same_last s count (le_refl count))

  headed_own : at after_heads s ≡ last (suc count) (in_slot slots after_words s)
  headed_own =
      get_or-set_same heads s (suc count) 0 s_inside ∙ sym (last_yes _ count (eq-eqb _ _ (ap (slot slots) newest ∙ sym s_is)))

  headed_other : (r : ℕ) → r < length heads → s ≢ r → at after_heads r ≡ last (suc count) (in_slot slots after_words r)
  headed_other r l e =
      get_or-set_other heads s r (suc count) 0 (λ q. e (sym q)) ∙ c.headed r l
      ∙ sym (last_no _ count (ne_eqb _ _ (λ q. e (s_is ∙ sym (ap (slot slots) newest) ∙ q))) ∙ same_last r count (le_refl count))

  linked_all : (i : ℕ) → i < suc count → at after_links i ≡ last i (in_slot slots after_words (slot slots (at after_words i)))
  linked_all i l =
      ⊎_elim (linked_old i)
      (λ m. let e : count ≡ i = omega arith in
      subst (λ (x : ℕ). at after_links x ≡ last x (in_slot slots after_words (slot slots (at after_words x)))) e linked_new)
      (less_or_not i count)

  headed_all : (r : ℕ) → r < length heads → at after_heads r ≡ last (suc count) (in_slot slots after_words r)
  headed_all r l =
      ⊎_elim (λ e. subst (λ (x : ℕ). at after_heads x ≡ last (suc count) (in_slot slots after_words x)) (eqb-true s r e) headed_own)
      (λ e. headed_other r l (eqb-false s r e)) (cases (eqb s r))

  -- the word is linked to its slot's head, and its place is the new head
  pub chains_next : Chains after_words after_links (set heads s (count + 1)) (count + 1)
  chains_next =
      rw (add-one count) (record {
        some_slot = rw (length-set heads s (suc count)) c.some_slot;
        words_room = rw (length-set words count word) lw;
        links_room = rw (length-set links count (at heads s)) ll;
        linked = λ i l. rw (length-set heads s (suc count)) (linked_all i l);
        headed = λ r l. rw (length-set heads s (suc count)) (headed_all r (rw (length-set heads s (suc count)) at l));
      })
