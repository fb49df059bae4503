-- No first step is shorter than the session's.
use Rattle.std.proofs.Common.{◌≡◌, subst, true, false, ◌≢◌, List, ℕ, ◌^◌, ◌<◌, arith, length}
use Rattle.words.specs.Bits.{has, at}
use Rattle.words.specs.Turning.{transpose}
use Rattle.words.proofs.Tests.{contrary, not_less}
use Rattle.words.proofs.Columns.{transpose_size, transpose_below, transpose_back}
use Rattle.network.specs.declared.Network.{Network}
use Rattle.network.specs.Rows.{AdmittedNetwork}
use Rattle.network.proofs.Rows.{nets_admitted}
use Rattle.steps.specs.FirstStep.{word_length, sequential_words, first_vectors}
use Rattle.steps.proofs.StepOneWords.{length_bounds, word_length_is, words_apart, first_size}
use Rattle.fewest.specs.Fewest.{SomeCovers, NoneCovers, UncoveredWords, Uncovered, ShortestWords, Fewest}
use Rattle.fewest.proofs.CoverChains.{one_covers_another}

-- each word has a 0 where another has a 1: none covers another
pub apart_none_covers : (q : ℕ) (words : List ℕ)
    → ((i j : ℕ) → i < length words → j < length words → i ≢ j
    → (t : ℕ) × (t < q) × (has (at words j) t ≡ true) × (has (at words i) t ≡ false))
    → NoneCovers words
apart_none_covers q words apart s =
    let r = apart s.one s.other s.one_inside s.other_inside s.differ in
    contrary (s.covers r.0 r.2) r.3

module _ (net : Network) (admitted : AdmittedNetwork net) where
  -- n words with fewer than p bits
  too_short : (q : ℕ) (words : List ℕ) → length words ≡ net.nets → ((i : ℕ) → i < length words → at words i < 2 ^ q)
      → q < word_length net → SomeCovers words
  too_short q words size below short =
      let nets = nets_admitted net admitted.0 in
      one_covers_another q (omega (arith, short, length_bounds net nets.0 nets.1)) words below
      (omega (arith, size, (word_length_is net nets.0 nets.1).smallest q short))

  pub two_nets : (vectors : List ℕ) → length vectors < word_length net → SomeCovers (transpose net.nets vectors)
  two_nets vectors short =
      too_short (length vectors) (transpose net.nets vectors) (transpose_size net.nets vectors)
      (λ i l. transpose_below net.nets vectors i (rw (transpose_size net.nets vectors) at l)) short

  own_words : UncoveredWords net (word_length net) (sequential_words net)
  own_words =
      let nets = nets_admitted net admitted.0 in
      let apart = words_apart net nets.0 nets.1 in record {
        one_a_net = apart.size;
        below = λ i l. apart.below i (rw apart.size at l);
        none_covers = apart_none_covers (word_length net) (sequential_words net)
            (λ i j l m d. apart.uncovered i j (rw apart.size at l) (rw apart.size at m) d);
      }

  own_turned : transpose net.nets (first_vectors net) ≡ sequential_words net
  unfolding first_vectors
  own_turned =
      let nets = nets_admitted net admitted.0 in
      let apart = words_apart net nets.0 nets.1 in
      subst (λ (n : ℕ). transpose n (transpose (word_length net) (sequential_words net)) ≡ sequential_words net) apart.size
      (transpose_back (word_length net) (sequential_words net) own_words.below)

pub shortest_words : ShortestWords
shortest_words = record {
  own = own_words;
  at_least = λ net admitted q words h. not_less q (word_length net)
      (λ short. h.none_covers (too_short net admitted q words h.one_a_net h.below short));
  else_covered = too_short;
}

pub first_step : Fewest Uncovered first_vectors word_length
first_step = record {
  of_kind = λ net admitted. rw (own_turned net admitted) (own_words net admitted).none_covers;
  exactly = λ net admitted. first_size net;
  at_least = λ net admitted vectors none. not_less (length vectors) (word_length net)
      (λ short. none (two_nets net admitted vectors short));
}
