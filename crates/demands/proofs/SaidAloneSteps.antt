-- One receiver a net: the same nets are clear, step two has the same vectors, and the fault-free state is the same.
use Rattle.std.proofs.Common.{◌≡◌, sym, ap, ◌∙◌, not, ◌&&◌, ◌≢◌, List, ℕ, ◌^◌, ◌<◌, eqb, length, ext_get_or}
use lib.ListN.{length-map}
use Rattle.words.specs.Answers.{Decides}
use Rattle.words.specs.Bits.{at}
use Rattle.words.specs.Turning.{column, transpose}
use Rattle.words.proofs.Tests.{same_truth, test_passes, decides_same, decides_equal, decides_not, decides_and, equal_if_not_unequal}
use Rattle.words.proofs.Searching.{decides_any}
use Rattle.words.proofs.Columns.{length_tabulate, tabulate_at, transpose_size, transpose_at}
use Rattle.words.proofs.Passing.{passing_same}
use Rattle.network.specs.declared.Network.{Network}
use Rattle.network.specs.OwnReceivers.{own_receivers}
use Rattle.network.proofs.OwnReceivers.{own_size, own_at}
use Rattle.steps.specs.FirstStep.{sequential_words}
use Rattle.steps.specs.SecondStep.{Clear, is_clear, unclear, settling_vectors, second_vectors, fault_free_state}
use Rattle.steps.proofs.BothSteps.{decides_clear, fault_free_at}
use Rattle.demands.specs.SaidAlone.{only_at, clear_alone, unclear_alone, second_vectors_alone, fault_free_alone}

-- ---- clear nets

-- entry i is this word, and no other entry is
decides_only_at : (word : ℕ) (words : List ℕ) (i : ℕ)
    → Decides (only_at word words i) ((at words i ≡ word) × (¬ ((j : ℕ) × (j < length words) × ((j ≢ i) × (at words j ≡ word)))))
unfolding only_at
decides_only_at word words i =
    decides_and (decides_equal (at words i) word)
    (decides_not (decides_any (λ j. not (eqb j i) && eqb (at words j) word) (λ j. (j ≢ i) × (at words j ≡ word)) (length words)
    (λ j. decides_and (decides_not (decides_equal j i)) (decides_equal (at words j) word))))

module _ (net : Network) (answers : List ℕ) where
  abbrev own : List ℕ
  own = own_receivers net.nets

  -- what receiver r returned
  abbrev returned : ℕ → ℕ
  returned r = column answers r

  -- receiver i returned its own word, and no other receiver did
  abbrev ClearAlone : ℕ → Type 0
  ClearAlone i =
      (returned i ≡ at (sequential_words net) i)
      × (¬ ((j : ℕ) × (j < net.nets) × ((j ≢ i) × (returned j ≡ at (sequential_words net) i))))

  decides_clear_alone : (i : ℕ) → i < net.nets → Decides (clear_alone net answers i) (ClearAlone i)
  unfolding clear_alone
  decides_clear_alone i l =
      let d = decides_only_at (at (sequential_words net) i) (transpose net.nets answers) i in
      let size = transpose_size net.nets answers in
      decides_same
      (λ (own_word, none). (
        sym (transpose_at net.nets answers i l) ∙ own_word,
        λ (j, m, (other, e)). none (j, rw size m, (other, transpose_at net.nets answers j m ∙ e)),
      ))
      (λ (own_word, none). (
        transpose_at net.nets answers i l ∙ own_word,
        λ (j, m, (other, e)). let below : j < net.nets = rw size at m in
            none (j, below, (other, sym (transpose_at net.nets answers j below) ∙ e)),
      )) d

  -- of own receivers the two say the same
  clear_there : (i : ℕ) → i < net.nets → Clear net own answers i → ClearAlone i
  clear_there i l clear = (
    clear.own i (rw (own_size net.nets) l) (own_at net.nets i l),
    λ (j, m, (other, e)). other (sym (own_at net.nets j m) ∙ clear.alone j (rw (own_size net.nets) m) e),
  )

  clear_back : (i : ℕ) → i < net.nets → ClearAlone i → Clear net own answers i
  clear_back i l (own_word, none) = record {
    own = λ r m e. ap returned (sym (own_at net.nets r (below r m)) ∙ e) ∙ own_word;
    alone = λ r m e. own_at net.nets r (below r m) ∙ equal_if_not_unequal r i (λ other. none (r, below r m, (other, e)));
  }
    where
      below : (r : ℕ) → r < length own → r < net.nets
      below r m = rw (own_size net.nets) at m

  same_clear : (i : ℕ) → i < net.nets → is_clear net own answers i ≡ clear_alone net answers i
  same_clear i l =
      let d = decides_clear net own answers i in
      let a = decides_clear_alone i l in
      same_truth (is_clear net own answers i) (clear_alone net answers i) (λ e. test_passes a (clear_there i l (d.0 e)))
      (λ e. test_passes d (clear_back i l (a.0 e)))

  -- ---- the vectors of step two

  pub same_unclear : unclear net own answers ≡ unclear_alone net answers
  unfolding unclear unclear_alone
  same_unclear =
      passing_same (λ i. not (is_clear net own answers i)) (λ i. not (clear_alone net answers i)) net.nets
      (λ i l. ap not (same_clear i l))

  pub same_second : second_vectors net own answers ≡ second_vectors_alone net answers
  unfolding second_vectors second_vectors_alone
  same_second = ap (settling_vectors net) same_unclear

-- ---- the fault-free state

pub alone_size : (net : Network) → length (fault_free_alone net) ≡ net.nets
unfolding fault_free_alone
alone_size net = length_tabulate net.nets (λ i. 2 ^ i)

pub same_fault_free : (net : Network) → fault_free_state (own_receivers net.nets) ≡ fault_free_alone net
unfolding fault_free_state fault_free_alone
same_fault_free net =
    let own = own_receivers net.nets in
    let size : length (fault_free_state own) ≡ net.nets = length-map own (λ i. 2 ^ i) ∙ own_size net.nets in
    ext_get_or 0 (fault_free_state own) (fault_free_alone net) (size ∙ sym (alone_size net))
    (λ i l. let below : i < net.nets = rw size at l in
    fault_free_at own i (rw (own_size net.nets) below)
    ∙ ap (λ (j : ℕ). 2 ^ j) (own_at net.nets i below)
    ∙ sym (tabulate_at net.nets (λ j. 2 ^ j) i below))
