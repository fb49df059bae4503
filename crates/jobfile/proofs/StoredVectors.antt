-- Laws of the vectors' body: how long it is, that its words and the vectors are each other's, and that the rows asked
-- of its words are those of the vectors.
use Rattle.std.proofs.Common.{◌≡◌, refl, sym, ap, ◌∙◌, subst, true, false, ◌⊎◌, inl, inr, ⊎_elim, List, [], ◌∷◌, ℕ}
use Rattle.std.proofs.Common.{◌+◌, ◌*◌, ◌^◌, ◌≤◌, ◌<◌, arith, length, length-append, eqb-true, eq-eqb}
use Rattle.words.specs.Answers.{full, NoneHolds, Decides, Decided}
use Rattle.words.proofs.Answers.{decided_append, let_through}
use Rattle.words.specs.Bits.{at}
use Rattle.words.specs.Turning.{transpose}
use Rattle.words.proofs.Tests.{cases, decides_equal, decides_or, decides_and, decides_not, equal_if_not_unequal}
use Rattle.words.proofs.Columns.{transpose_size, transpose_back}
use Rattle.network.specs.declared.Network.{Network}
use Rattle.network.specs.Rows.{NetworkRows, network_tests, SetRows, Row7, HighBit}
use Rattle.network.proofs.Rows.{decides_network, decides_count, decides_high_bit, no_high_bit, nets_admitted}
use Rattle.turning.proofs.TurnLaws.{no_bit_above}
use Rattle.jobfile.specs.Bytes.{word_bytes}
use Rattle.jobfile.specs.VectorsBody.{VectorsKind, vectors_kind, net_by_net, lead, words_of, vectors_of, lead_bytes}
use Rattle.jobfile.specs.VectorsBody.{vectors_bytes, BodyRow7, bad_words, width, BodyRows, body_tests}
use Rattle.jobfile.specs.VectorsBody.{body_admission, Counted}
use Rattle.jobfile.proofs.ByteLaws.{word_bytes_count}

pub decides_vectors_kind : (kind : ℕ) → Decides (vectors_kind kind) (VectorsKind kind)
decides_vectors_kind kind = decides_or (decides_equal kind 2) (decides_equal kind 4)

-- ---- by kind

module _ (kind : ℕ) (turned : net_by_net kind ≡ true) where
  pub words_turned : (nets : ℕ) (vectors : List ℕ) → words_of kind nets vectors ≡ transpose nets vectors
  unfolding words_of
  words_turned nets vectors = rw turned

  pub vectors_turned : (count : ℕ) (words : List ℕ) → vectors_of kind count words ≡ transpose count words
  unfolding vectors_of
  vectors_turned count words = rw turned

  pub bytes_turned : (nets : ℕ) (vectors : List ℕ)
      → vectors_bytes kind nets vectors ≡ length vectors ∷ word_bytes (transpose nets vectors)
  unfolding vectors_bytes words_of
  bytes_turned nets vectors = rw turned

  pub size_turned : (nets : ℕ) (vectors : List ℕ) → length (vectors_bytes kind nets vectors) ≡ 1 + 8 * nets
  size_turned nets vectors =
      let a = word_bytes_count (transpose nets vectors) in
      let b = transpose_size nets vectors in
      ap length (bytes_turned nets vectors) ∙ omega arith

module _ (kind : ℕ) (plain : net_by_net kind ≡ false) where
  pub words_plain : (nets : ℕ) (vectors : List ℕ) → words_of kind nets vectors ≡ vectors
  unfolding words_of
  words_plain nets vectors = rw plain

  pub vectors_plain : (count : ℕ) (words : List ℕ) → vectors_of kind count words ≡ words
  unfolding vectors_of
  vectors_plain count words = rw plain

  pub bytes_plain : (nets : ℕ) (vectors : List ℕ) → vectors_bytes kind nets vectors ≡ word_bytes vectors
  unfolding vectors_bytes words_of
  bytes_plain nets vectors = rw plain

  pub size_plain : (nets : ℕ) (vectors : List ℕ) → length (vectors_bytes kind nets vectors) ≡ 8 * length vectors
  size_plain nets vectors = ap length (bytes_plain nets vectors) ∙ word_bytes_count vectors

module _ (kind : ℕ) where
  pub vectors_count : (count : ℕ) (words : List ℕ) → Counted kind count words → length (vectors_of kind count words) ≡ count
  vectors_count count words h =
      ⊎_elim (λ e. ap length (vectors_turned kind e count words) ∙ transpose_size count words)
      (λ e. ap length (vectors_plain kind e count words) ∙ sym (h e)) (cases (net_by_net kind))

  pub lead_size : (count : ℕ) → length (lead_bytes kind count) ≡ lead kind
  lead_size count = ⊎_elim (λ e. rw e) (λ e. rw e) (cases (net_by_net kind))

  pub body_size : (nets : ℕ) (vectors : List ℕ)
      → length (vectors_bytes kind nets vectors) ≡ lead kind + 8 * length (words_of kind nets vectors)
  unfolding vectors_bytes
  body_size nets vectors =
      let a = length-append (lead_bytes kind (length vectors)) (word_bytes (words_of kind nets vectors)) in
      let b = word_bytes_count (words_of kind nets vectors) in
      let c = lead_size (length vectors) in
      omega arith

-- ---- there and back

pub vectors_back : (kind nets : ℕ) (vectors : List ℕ) → ((t : ℕ) → t < length vectors → at vectors t < 2 ^ nets)
    → vectors_of kind (length vectors) (words_of kind nets vectors) ≡ vectors
vectors_back kind nets vectors narrow =
    ⊎_elim
    (λ e. vectors_turned kind e (length vectors) (words_of kind nets vectors)
    ∙ ap (transpose (length vectors)) (words_turned kind e nets vectors) ∙ transpose_back nets vectors narrow)
    (λ e. vectors_plain kind e (length vectors) (words_of kind nets vectors) ∙ words_plain kind e nets vectors)
    (cases (net_by_net kind))

-- ---- the rows

decides_row_7 : (kind nets count : ℕ) (words : List ℕ) → Decides (bad_words kind nets count words) (BodyRow7 kind nets count words)
decides_row_7 kind nets count words =
    decides_or (decides_count count) (decides_and (decides_equal kind 4) (decides_not (decides_equal (length words) nets)))

pub decides_body : (net : Network) (k kind count : ℕ) (words : List ℕ)
    → Decided (BodyRows net k kind count words) (body_tests net k kind count words)
decides_body net k kind count words =
    decided_append (NetworkRows net k) (_ ∷ _ ∷ []) (network_tests net k) (_ ∷ _ ∷ []) (decides_network net k)
    (λ _. (
      refl,
      decides_row_7 kind net.nets count words,
      λ _. (refl, decides_high_bit (width kind net.nets count) words, λ _. tt),
    ))

-- a body of kind 4 that they let through
module _ (kind nets count : ℕ) (words : List ℕ) (turned : net_by_net kind ≡ true) (seven : ¬ (BodyRow7 kind nets count words))
    (eight : ¬ (HighBit (width kind nets count) words)) where
  pub words_are_nets : length words ≡ nets
  words_are_nets = equal_if_not_unequal (length words) nets (λ n. seven (inr (eqb-true kind 4 turned, n)))

  turned_narrow : ¬ (HighBit count words)
  turned_narrow = rw turned at eight

  turned_words_back : transpose nets (transpose count words) ≡ words
  turned_words_back =
      ap (λ (n : ℕ). transpose n (transpose count words)) (sym words_are_nets)
      ∙ transpose_back count words (no_high_bit count words turned_narrow)

  no_vector_wide : ¬ (HighBit nets (transpose count words))
  no_vector_wide = subst (λ (n : ℕ). ¬ (HighBit n (transpose count words))) words_are_nets (no_bit_above count words)

module _ (net : Network) (k kind count : ℕ) (words : List ℕ) where
  pub body_none_holds : body_admission net k kind count words ≡ full tt → NoneHolds (BodyRows net k kind count words)
  body_none_holds e = let_through (BodyRows net k kind count words) (body_tests net k kind count words) tt tt
      (decides_body net k kind count words) e

  -- at most 64 vectors, and as many words
  pub body_limits : Counted kind count words → NoneHolds (BodyRows net k kind count words) → (count ≤ 64) × (length words ≤ 64)
  body_limits counted (five, (_, (_, (_, (seven, (eight, _)))))) =
      let high : 64 < count → ⊥ = λ l. seven (inl (inr l)) in
      let few : count ≤ 64 = omega (arith, high) in
      let nets = nets_admitted net five in (
        few,
        ⊎_elim (λ e. omega (arith, words_are_nets kind net.nets count words e seven eight, nets.1))
            (λ e. omega (arith, counted e, few)) (cases (net_by_net kind)),
      )

  -- its words are those of its vectors
  pub words_back : NoneHolds (BodyRows net k kind count words) → words_of kind net.nets (vectors_of kind count words) ≡ words
  words_back (_, (_, (_, (_, (seven, (eight, _)))))) =
      ⊎_elim
      (λ e. words_turned kind e net.nets (vectors_of kind count words)
      ∙ ap (transpose net.nets) (vectors_turned kind e count words)
      ∙ turned_words_back kind net.nets count words e seven eight)
      (λ e. words_plain kind e net.nets (vectors_of kind count words) ∙ vectors_plain kind e count words)
      (cases (net_by_net kind))

  -- and no row of a test set holds of its vectors
  pub set_of_body : Counted kind count words → NoneHolds (BodyRows net k kind count words)
      → NoneHolds (SetRows net k (vectors_of kind count words))
  set_of_body counted (five, (six, (level, (gate, (seven, (eight, _)))))) =
      (five, (six, (level, (gate, (few, (narrow (cases (net_by_net kind)), tt))))))
    where
      few : ¬ (Row7 (vectors_of kind count words))
      few =
          let size = vectors_count kind count words counted in
          λ r. seven (inl (⊎_elim (λ l. inl (omega (arith, l, size))) (λ l. inr (omega (arith, l, size))) r))

      narrow : (net_by_net kind ≡ true) ⊎ (net_by_net kind ≡ false) → ¬ (HighBit net.nets (vectors_of kind count words))
      narrow (inl e) =
          subst (λ (w : List ℕ). ¬ (HighBit net.nets w)) (sym (vectors_turned kind e count words))
          (no_vector_wide kind net.nets count words e seven eight)
      narrow (inr e) =
          subst (λ (w : List ℕ). ¬ (HighBit net.nets w)) (sym (vectors_plain kind e count words)) (rw e at eight)

-- and the other way: the rows let the vectors through, so they let the body of these vectors through
module _ (net : Network) (k kind : ℕ) (vectors : List ℕ) where
  pub body_of_set : NoneHolds (SetRows net k vectors)
      → NoneHolds (BodyRows net k kind (length vectors) (words_of kind net.nets vectors))
  body_of_set (five, (six, (level, (gate, (seven, (eight, _)))))) =
      (five, (six, (level, (gate, (few, (narrow (cases (net_by_net kind)), tt))))))
    where
      few : ¬ (BodyRow7 kind net.nets (length vectors) (words_of kind net.nets vectors))
      few = ⊎_elim seven (λ w. w.1
          (ap length (words_turned kind (eq-eqb kind 4 w.0) net.nets vectors) ∙ transpose_size net.nets vectors))

      narrow : (net_by_net kind ≡ true) ⊎ (net_by_net kind ≡ false)
          → ¬ (HighBit (width kind net.nets (length vectors)) (words_of kind net.nets vectors))
      narrow (inl e) =
          subst (λ (w : List ℕ). ¬ (HighBit (width kind net.nets (length vectors)) w))
          (sym (words_turned kind e net.nets vectors)) (rw e (no_bit_above net.nets vectors))
      narrow (inr e) =
          subst (λ (w : List ℕ). ¬ (HighBit (width kind net.nets (length vectors)) w))
          (sym (words_plain kind e net.nets vectors)) (rw e eight)
