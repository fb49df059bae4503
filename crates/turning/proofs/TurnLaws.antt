-- The calls *turn* and *turn back* answer as their rows and their results say, with nothing left open; and either after
-- the other gives back what went in.
use Rattle.std.proofs.Common.{◌≡◌, refl, sym, ap, ◌∙◌, subst, false, inl, inr, ⊎_elim, List, ℕ, ◌≤◌, ◌<◌, arith}
use Rattle.std.proofs.Common.{length, ext_get_or, le-ltb}
use Rattle.words.specs.Answers.{Answer, full, ByTable, Decides, by_tests}
use Rattle.words.specs.Bits.{at}
use Rattle.words.specs.Turning.{transpose}
use Rattle.words.proofs.Bits.{words_equal}
use Rattle.words.proofs.Tests.{decides_equal, decides_or, decides_not, test_fails, equal_if_not_unequal}
use Rattle.words.proofs.Answers.{tests_by_table, table_determined, none_passed}
use Rattle.words.proofs.Columns.{transpose_size, transpose_below, transpose_bits, transpose_back}
use Rattle.network.specs.Reading.{network_of}
use Rattle.network.specs.Rows.{HighBit, bad_vector_count, has_high_bit}
use Rattle.network.proofs.Rows.{decides_row_5, decides_count, decides_row_7, decides_high_bit, decides_row_12, no_high_bit}
use Rattle.turning.specs.Turn.{Exchanged, TurnRows, turn_tests, turn_answer, WrongWords, TurnBackRows}
use Rattle.turning.specs.Turn.{bad_nets, wrong_words, turn_back_tests, turn_back_answer}

-- ---- row 7 of sequential words

pub decides_words : (nets count : ℕ) (words : List ℕ) → Decides (wrong_words nets count words) (WrongWords nets count words)
decides_words nets count words = decides_or (decides_count count) (decides_not (decides_equal (length words) nets))

pub words_admitted : (nets count : ℕ) (words : List ℕ) → wrong_words nets count words ≡ false
    → ((1 ≤ count) × (count ≤ 64)) × (length words ≡ nets)
words_admitted nets count words e =
    let h = (decides_words nets count words).1 e in
    let low : count < 1 → ⊥ = λ l. h (inl (inl l)) in
    let high : 64 < count → ⊥ = λ l. h (inl (inr l)) in
    ((omega (arith, low), omega (arith, high)), equal_if_not_unequal (length words) nets (λ n. h (inr n)))

-- ---- what is written

-- rows and columns are exchanged, and no other words have these bits
module _ (columns : ℕ) (rows : List ℕ) where
  pub exchanged : Exchanged columns rows (transpose columns rows)
  exchanged = record {
    word_per_column = transpose_size columns rows;
    bit_per_row = λ i l. transpose_below columns rows i l;
    bits = λ i t l m. transpose_bits columns rows i t m l;
  }

  pub exchanged_determined : (x y : List ℕ) → Exchanged columns rows x → Exchanged columns rows y → x ≡ y
  exchanged_determined x y p q =
      ext_get_or 0 x y (p.word_per_column ∙ sym q.word_per_column)
      (λ i l. let inside : i < columns = omega (arith, l, p.word_per_column) in
      words_equal (length rows) (at x i) (at y i) (p.bit_per_row i inside) (q.bit_per_row i inside)
      (λ t m. p.bits i t inside m ∙ sym (q.bits i t inside m)))

module _ (nets : ℕ) (vectors : List ℕ) (room : ℕ) where
  pub turn_by_table : ByTable (TurnRows nets vectors room) (Exchanged nets vectors) (turn_answer nets vectors room)
  unfolding turn_answer
  turn_by_table =
      tests_by_table (Exchanged nets vectors) (TurnRows nets vectors room) (turn_tests nets vectors room) (transpose nets vectors) (
        refl,
        decides_row_5 (network_of nets),
        λ _. (refl, decides_row_7 vectors, λ _. (refl, decides_high_bit nets vectors, λ _. (refl, decides_row_12 nets room, λ _. tt))),
      )
      (λ _. exchanged nets vectors)

  pub turn_determined : (a b : Answer (List ℕ)) → ByTable (TurnRows nets vectors room) (Exchanged nets vectors) a
      → ByTable (TurnRows nets vectors room) (Exchanged nets vectors) b → a ≡ b
  turn_determined a b =
      table_determined (Exchanged nets vectors) (TurnRows nets vectors room) a b (λ _ x y. exchanged_determined nets vectors x y)

module _ (nets count : ℕ) (words : List ℕ) (room : ℕ) where
  pub turn_back_by_table : ByTable (TurnBackRows nets count words room) (Exchanged count words) (turn_back_answer nets count words room)
  unfolding turn_back_answer
  turn_back_by_table =
      tests_by_table (Exchanged count words) (TurnBackRows nets count words room) (turn_back_tests nets count words room)
      (transpose count words) (
        refl,
        decides_row_5 (network_of nets),
        λ _. (
          refl,
          decides_words nets count words,
          λ _. (refl, decides_high_bit count words, λ _. (refl, decides_row_12 count room, λ _. tt)),
        ),
      )
      (λ _. exchanged count words)

  pub turn_back_determined : (a b : Answer (List ℕ)) → ByTable (TurnBackRows nets count words room) (Exchanged count words) a
      → ByTable (TurnBackRows nets count words room) (Exchanged count words) b → a ≡ b
  turn_back_determined a b =
      table_determined (Exchanged count words) (TurnBackRows nets count words room) a b
      (λ _ x y. exchanged_determined count words x y)

-- ---- there and back

-- a word of a column has no bit at or above the number of rows
pub no_bit_above : (columns : ℕ) (rows : List ℕ) → ¬ (HighBit (length rows) (transpose columns rows))
no_bit_above columns rows (i, l, h) =
    let below = transpose_below columns rows i (omega (arith, l, transpose_size columns rows)) in omega (arith, below, h)

module _ (nets : ℕ) (vectors : List ℕ) (room : ℕ) where
  -- vectors that were turned, turned back
  back_again : bad_nets nets ≡ false → bad_vector_count vectors ≡ false → has_high_bit nets vectors ≡ false
      → length vectors ≤ room → turn_back_answer nets (length vectors) (transpose nets vectors) room ≡ full vectors
  unfolding turn_back_answer by_tests
  back_again a b c enough =
      let size = transpose_size nets vectors in
      rw (
        a,
        test_fails (decides_words nets (length vectors) (transpose nets vectors))
            (⊎_elim ((decides_row_7 vectors).1 b) (λ n. n size)),
        test_fails (decides_high_bit (length vectors) (transpose nets vectors)) (no_bit_above nets vectors),
        le-ltb room (length vectors) enough,
      ) (ap full (transpose_back nets vectors (no_high_bit nets vectors ((decides_high_bit nets vectors).1 c))))

  pub turned_back : (words : List ℕ) (room_then : ℕ) → turn_answer nets vectors room_then ≡ full words
      → length vectors ≤ room → turn_back_answer nets (length vectors) words room ≡ full vectors
  unfolding turn_answer
  turned_back words room_then e enough =
      let p = none_passed (turn_tests nets vectors room_then) (transpose nets vectors) words e in
      subst (λ (w : List ℕ). turn_back_answer nets (length vectors) w room ≡ full vectors) p.1
      (back_again p.0.0 p.0.1.0 p.0.1.1.0 enough)

module _ (nets count : ℕ) (words : List ℕ) (room : ℕ) where
  -- and words that were turned back, turned
  there_again : bad_nets nets ≡ false → wrong_words nets count words ≡ false → has_high_bit count words ≡ false
      → nets ≤ room → turn_answer nets (transpose count words) room ≡ full words
  unfolding turn_answer by_tests
  there_again a b c enough =
      let size = transpose_size count words in
      let admitted = words_admitted nets count words b in
      let back : transpose (length words) (transpose count words) ≡ words =
      transpose_back count words (no_high_bit count words ((decides_high_bit count words).1 c)) in
      let high : ¬ (HighBit nets (transpose count words)) =
      subst (λ (n : ℕ). ¬ (HighBit n (transpose count words))) admitted.1 (no_bit_above count words) in
      rw (
        a,
        test_fails (decides_row_7 (transpose count words))
            (⊎_elim (λ l. omega (arith, l, size, admitted.0.0)) (λ l. omega (arith, l, size, admitted.0.1))),
        test_fails (decides_high_bit nets (transpose count words)) high,
        le-ltb room nets enough,
      ) (ap full (ap (λ (n : ℕ). transpose n (transpose count words)) (sym admitted.1) ∙ back))

  pub turned_again : (vectors : List ℕ) (room_then : ℕ) → turn_back_answer nets count words room_then ≡ full vectors
      → nets ≤ room → (length vectors ≡ count) × (turn_answer nets vectors room ≡ full words)
  unfolding turn_back_answer
  turned_again vectors room_then e enough =
      let p = none_passed (turn_back_tests nets count words room_then) (transpose count words) vectors e in (
        ap length (sym p.1) ∙ transpose_size count words,
        subst (λ (w : List ℕ). turn_answer nets w room ≡ full words) p.1
            (there_again p.0.0 p.0.1.0 p.0.1.1.0 enough),
      )

-- an accepted turning back had as many words as nets
pub words_number : (nets count : ℕ) (words : List ℕ) (room : ℕ) (vectors : List ℕ)
    → turn_back_answer nets count words room ≡ full vectors → length words ≡ nets
unfolding turn_back_answer
words_number nets count words room vectors e =
    (words_admitted nets count words (none_passed (turn_back_tests nets count words room) (transpose count words) vectors e).0.1.0).1
