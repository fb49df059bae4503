-- The loop that gathers the sequential words of step one: each number is tried, and taken if it has half ones and words
-- are missing.
use Rattle.std.proofs.Common.{◌≡◌, sym, ap, subst, ◌∙◌, refl, List, [], ◌∷◌, ◌++◌, ℕ, zero, suc, ◌+◌, ◌-◌, ◌/◌, ◌^◌, ◌<◌, ◌≤◌, length, take}
use Rattle.std.proofs.Common.{arith, add-one, eq-eqb, length-append, length-take, ne_eqb, take_all, ⊎_elim}
use lib.Count.{ones}
use lib.Seq.{take-append-le}
use Rattle.words.specs.Searching.{passing}
use Rattle.words.proofs.Classes.{ones_counted}
use Rattle.words.proofs.Passing.{passing_yes, passing_no}
use Rattle.words.proofs.Tests.{cases}
use Rattle.network.specs.declared.Network.{Network}
use Rattle.steps.specs.FirstStep.{word_length, balanced_words, sequential_words}
use Rattle.steps.proofs.StepOneWords.{balanced}

-- the words taken of the numbers below this one
unfoldable pub words_taken : Network → ℕ → List ℕ
words_taken net word = take net.nets (passing (balanced net) word)

module _ (net : Network) where
  pub none_taken : words_taken net 0 ≡ []
  unfolding words_taken passing
  none_taken = take_all net.nets [] (omega arith)

  module _ (word : ℕ) (low : word < 2 ^ word_length net) where
    pub word_taken : length (words_taken net word) < net.nets → ones word ≡ word_length net / 2
        → words_taken net word ++ word ∷ [] ≡ words_taken net (word + 1)
    unfolding words_taken
    word_taken missing half =
        let before = passing (balanced net) word in
        let few : length before < net.nets = omega (arith, length-take net.nets before) in
        let passes = eq-eqb _ _ (ones_counted (word_length net) word low ∙ half) in
        rw (
          add-one word,
          passing_yes (balanced net) word passes,
          take_all net.nets before (omega arith),
          take_all net.nets (before ++ word ∷ []) (omega (arith, length-append before (word ∷ []))),
        )

    pub word_left : (ones word ≡ word_length net / 2 → ⊥) → words_taken net word ≡ words_taken net (word + 1)
    unfolding words_taken
    word_left d =
        rw (
          add-one word,
          passing_no (balanced net) word (ne_eqb _ _ (λ e. d (sym (ones_counted (word_length net) word low) ∙ e))),
        )

  pub none_missing : (word : ℕ) → net.nets ≤ length (words_taken net word)
      → words_taken net word ≡ words_taken net (word + 1)
  unfolding words_taken
  none_missing word many =
      let enough : net.nets ≤ length (passing (balanced net) word) =
      omega (arith, length-take net.nets (passing (balanced net) word)) in
      rw (add-one word)
      (⊎_elim (λ e. rw (passing_yes (balanced net) word e)
      (sym (take-append-le net.nets (passing (balanced net) word) (word ∷ []) enough)))
      (λ e. rw (passing_no (balanced net) word e)) (cases (balanced net word)))

  pub taken_most : (word : ℕ) → length (words_taken net word) ≤ net.nets
  unfolding words_taken
  taken_most word = omega (arith, length-take net.nets (passing (balanced net) word))

  pub all_taken : words_taken net (2 ^ word_length net) ≡ sequential_words net
  unfolding words_taken sequential_words balanced_words
  all_taken = refl

  -- so once none is missing, these are all
  enough_kept : (d word : ℕ) → net.nets ≤ length (words_taken net word)
      → words_taken net word ≡ words_taken net (word + d)
  enough_kept zero word many = ap (words_taken net) (omega arith)
  enough_kept (suc d) word many =
      let one = none_missing word many in
      let more : net.nets ≤ length (words_taken net (word + 1)) =
      subst (λ (words : List ℕ). net.nets ≤ length words) one many in
      let same : word + 1 + d ≡ word + suc d = omega arith in
      one ∙ enough_kept d (word + 1) more ∙ ap (words_taken net) same

  pub enough_taken : (word : ℕ) → word ≤ 2 ^ word_length net → net.nets ≤ length (words_taken net word)
      → words_taken net word ≡ sequential_words net
  enough_taken word l many =
      let end : word + (2 ^ word_length net - word) ≡ 2 ^ word_length net = omega arith in
      enough_kept (2 ^ word_length net - word) word many ∙ ap (words_taken net) end ∙ all_taken
