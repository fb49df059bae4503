-- The sets of the class seen so far, what each reads kept: what one set more adds, and what it finds.
use Rattle.std.proofs.Common.{◌≡◌, refl, sym, ap, ◌∙◌, subst, Bool, true, false, ◌&&◌, ⊎_elim, List, [], ◌∷◌, ◌++◌}
use Rattle.std.proofs.Common.{map, ℕ, ◌+◌, ◌^◌, ◌≤◌, ◌<◌, zero-le, not-suc-le-zero, add-one, arith, eqb, leb, length}
use Rattle.std.proofs.Common.{pow_pos, pow_mono, le-leb}
use lib.Count.{ones}
use lib.ListN.{length-map}
use borrow.Author.Tests.{lt-leb}
use Rattle.std.specs.Prelude.{Option}
use Rattle.std.specs.Prelude.{Some, None}
use Rattle.words.specs.Bits.{at}
use Rattle.words.specs.Searching.{least, is_found, passing, sets_of_class, position}
use Rattle.words.proofs.Tests.{less_or_not}
use Rattle.words.proofs.Searching.{Least, first, nowhere, least_same, position_is}
use Rattle.words.proofs.Making.{map_at, map_snoc}
use Rattle.words.proofs.Counting.{sets_with, sets_gap, sets_front, sets_grow, least_in_class, none_in_class}
use Rattle.network.specs.declared.Network.{Network}
use Rattle.network.specs.Reading.{sequential_response}
use Rattle.network.specs.States.{few_drivers}
use Rattle.network.proofs.States.{few_by_ones}
use Rattle.checker.specs.declared.Verdict.TheVariants.{Pass, Pair}
use Rattle.checker.specs.Rule.{smaller_alike, bounded_verdict}
use Rattle.checker.specs.Seen.{Seen}
use Rattle.checker.proofs.Ascending.{confused_at, none_alike, first_pair, all_pass}

module _ (net : Network) (k : ℕ) (vectors : List ℕ) where
  abbrev reads_as : ℕ → ℕ
  reads_as set = sequential_response net vectors set

  pub seen_none : Seen net k vectors [] 0
  unfolding sets_of_class passing
  seen_none = record { readings = refl; none_confused = λ z l m. absurd (not-suc-le-zero l) }

  module _ (table : List ℕ) (next : ℕ) (seen : Seen net k vectors table next) where
    pub seen_count : length table ≡ length (sets_of_class k next)
    seen_count = ap length seen.readings ∙ length-map (sets_of_class k next) (sequential_response net vectors)

    -- numbers that are no sets of the class
    pub seen_gap : (later : ℕ) → next ≤ later → ((z : ℕ) → next ≤ z → z < later → k < ones z) → Seen net k vectors table later
    seen_gap later l h =
        let same : sets_of_class k later ≡ sets_of_class k next = sets_gap k next later l h in record {
          readings = seen.readings ∙ ap (map (sequential_response net vectors)) (sym same);
          none_confused = λ z m inside. ⊎_elim (λ before. seen.none_confused z before inside)
              (λ after. rw (few_by_ones net k z inside ∙ lt-leb (ones z) k (h z after m))) (less_or_not z next);
        }

    pub seen_moved : (later : ℕ) → next ≡ later → Seen net k vectors table later
    seen_moved later e = subst (λ (x : ℕ). Seen net k vectors table x) e seen

    -- all sets are seen
    pub seen_pass : 2 ^ net.nets ≤ next → bounded_verdict net k vectors ≡ Pass
    seen_pass l = all_pass net k vectors (λ z n. seen.none_confused z (omega arith) n)

    -- ---- the next set looked up

    read_at : (j : ℕ) → j < length (sets_of_class k next) → at table j ≡ reads_as (at (sets_of_class k next) j)
    read_at j l = ap (λ (ws : List ℕ). at ws j) seen.readings ∙ map_at (sequential_response net vectors) 0 (sets_of_class k next) j l

    -- a word found among the readings is that of the set at its index, and no smaller set reads so
    pub read_found : (answered m : ℕ) → position answered table ≡ Some m
        → (m < length (sets_of_class k next)) × (reads_as (at (sets_of_class k next) m) ≡ answered)
        × ((j : ℕ) → j < m → eqb (reads_as (at (sets_of_class k next) j)) answered ≡ false)
    read_found answered m e = go (position answered table) (position_is answered table) e
      where
        go : (s : Option ℕ) → Least (λ t. eqb (at table t) answered) 0 (length table) s → s ≡ Some m
            → (m < length (sets_of_class k next)) × (reads_as (at (sets_of_class k next) m) ≡ answered)
            × ((j : ℕ) → j < m → eqb (reads_as (at (sets_of_class k next) j)) answered ≡ false)
        go (Some x) (first a b c g) q =
            let same : x ≡ m = cc in
            let inside : m < length (sets_of_class k next) = rw same at (rw seen_count at b) in (
              inside,
              sym (read_at m inside) ∙ borrow.Author.Tests.eqb-true _ _ (rw same at c),
              λ j n. ap (λ (w : ℕ). eqb w answered) (sym (read_at j (omega arith))) ∙ g j zero-le (omega arith),
            )
        go None r q = let z : ◌≡◌ {A = ℕ} 0 1 = cc in absurd (omega arith)

    -- and a word that is not found is that of none of them
    pub read_missing : (answered : ℕ) → position answered table ≡ None
        → (j : ℕ) → j < length (sets_of_class k next) → eqb (reads_as (at (sets_of_class k next) j)) answered ≡ false
    read_missing answered e = go (position answered table) (position_is answered table) e
      where
        go : (s : Option ℕ) → Least (λ t. eqb (at table t) answered) 0 (length table) s → s ≡ None
            → (j : ℕ) → j < length (sets_of_class k next) → eqb (reads_as (at (sets_of_class k next) j)) answered ≡ false
        go (Some x) r q j n = let z : ◌≡◌ {A = ℕ} 0 1 = cc in absurd (omega arith)
        go None (nowhere g) q j n = ap (λ (w : ℕ). eqb w answered) (sym (read_at j n)) ∙ g j zero-le (rw seen_count n)

    module _ (inside : next < 2 ^ net.nets) (few : ones next ≤ k) where
      -- the smaller set that reads alike, by counts of ones
      by_class : smaller_alike net k vectors next ≡ least next 0 (λ a. leb (ones a) k && eqb (reads_as a) (reads_as next))
      unfolding smaller_alike
      by_class = least_same _ _ next (λ z m. ap (λ (t : Bool). t && eqb (reads_as z) (reads_as next)) (few_by_ones net k z (omega arith)))

      -- a smaller set reads alike: the rule's pair
      pub seen_pair : (m : ℕ) → net.nets ≤ 48 → position (reads_as next) table ≡ Some m
          → (m < length (sets_of_class k (2 ^ 48))) × (bounded_verdict net k vectors ≡ Pair (at (sets_of_class k (2 ^ 48)) m) next)
      seen_pair m most e =
          let r = read_found (reads_as next) m e in
          let up : next ≤ 2 ^ 48 = let h = pow_mono {i = net.nets} {j = 48} most in omega arith in
          let found : smaller_alike net k vectors next ≡ Some (at (sets_of_class k (2 ^ 48)) m) =
          by_class ∙ least_in_class k next (λ z. eqb (reads_as z) (reads_as next)) m r.0
          (borrow.Author.Tests.eq-eqb _ _ r.1) r.2 ∙ ap Some (sets_front k next (2 ^ 48) m up r.0) in
          let of_class : few_drivers net k next ≡ true = few_by_ones net k next inside ∙ le-leb (ones next) k few in (
            omega (arith, r.0, sets_grow k next (2 ^ 48) up),
            first_pair net k vectors _ next inside (λ z n. seen.none_confused z n (omega arith)) of_class found,
          )

      -- none does: one set more is seen
      pub seen_next : (word : ℕ) → word ≡ reads_as next → position word table ≡ None
          → Seen net k vectors (table ++ word ∷ []) (next + 1)
      unfolding is_found
      seen_next word w e =
          let more : sets_of_class k (next + 1) ≡ sets_of_class k next ++ next ∷ [] = rw (add-one next) (sets_with k next few) in record {
            readings =
                ap (λ (ws : List ℕ). ws ++ word ∷ []) seen.readings
                ∙ ap (λ (x : ℕ). map (sequential_response net vectors) (sets_of_class k next) ++ x ∷ []) w
                ∙ sym (map_snoc (sequential_response net vectors) (sets_of_class k next) next)
                ∙ ap (map (sequential_response net vectors)) (sym more);
            none_confused = λ z m l. ⊎_elim (λ before. seen.none_confused z before l)
                (λ after. let q : next ≡ z = omega arith in
                subst (λ (x : ℕ). confused_at net k vectors x ≡ false) q alone) (less_or_not z next);
          }
        where
          alone : confused_at net k vectors next ≡ false
          alone =
              let none : smaller_alike net k vectors next ≡ None =
              by_class ∙ none_in_class k next (λ z. eqb (reads_as z) (reads_as next))
              (read_missing (reads_as next) (ap (λ (x : ℕ). position x table) (sym w) ∙ e)) in
              none_alike net k vectors next none

-- the empty set is seen first
pub seen_empty : (net : Network) (k : ℕ) (vectors : List ℕ) (word : ℕ) → word ≡ sequential_response net vectors 0
    → Seen net k vectors (word ∷ []) 1
unfolding ones position least
seen_empty net k vectors word e =
    seen_next net k vectors [] 0 (seen_none net k vectors) (pow_pos net.nets) zero-le word e refl
