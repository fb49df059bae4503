-- The writer's file, read: its layout, and its content.
use Rattle.std.proofs.Common.{◌≡◌, refl, sym, ap, ap₂, ◌∙◌, true, false, inl, inr, ⊎_elim, List, [], ◌∷◌, ◌++◌}
use Rattle.std.proofs.Common.{append_assoc, append-nil, ℕ, zero, suc, ◌+◌, ◌*◌, ◌/◌, ◌%◌, ◌^◌, ◌≤◌, ◌<◌}
use Rattle.std.proofs.Common.{le_of_suc-le-suc, not-suc-le-zero, arith, eqb, length, take, drop, drop_at, drop-drop}
use Rattle.std.proofs.Common.{get_or-drop}
use Rattle.words.proofs.Tests.{cases}
use Rattle.words.specs.Bits.{at}
use Rattle.words.proofs.Tests.{test_fails}
use Rattle.network.specs.declared.Network.{Network}
use Rattle.network.specs.Reading.{network_with}
use Rattle.jobfile.specs.Bytes.{bytes_of, word_bytes, words_at}
use Rattle.jobfile.specs.VectorsBody.{VectorsKind, net_by_net, lead, words_of, vectors_of, lead_bytes, vectors_bytes, body_tests}
use Rattle.jobfile.specs.Layout.{KindAt, mark, entry_count, bodies_at, entry_kind, body_offset, body_length, nets_size}
use Rattle.jobfile.specs.Layout.{Layout, bad_bodies, nets_byte, file_network, file_class, body_words}
use Rattle.jobfile.specs.Layout.{file_count, file_vectors, has_responses, file_responses}
use Rattle.jobfile.proofs.StoredVectors.{words_plain, bytes_turned, size_turned, size_plain, lead_size, body_size, vectors_back}
use Rattle.reader.proofs.Bodies.{lead_most, count_stored, count_of_words}
use Rattle.jobfile.proofs.FileRows.{decides_row_3}
use Rattle.reader.specs.Reader.{content, file_body_tests}
use Rattle.writer.specs.Writer.{entries_for, head_of, bodies_of, file_of, given}
use Rattle.writer.proofs.WriterLaws.{entries_range, head_size, file_size}
use Rattle.demands.proofs.ReadBytes.{number_read, words_read}

-- ---- a fact at each number below one, two and three

below_one : (P : ℕ → Type 0) → P 0 → (i : ℕ) → i < 1 → P i
below_one P p zero l = p
below_one P p (suc i) l = absurd (not-suc-le-zero (le_of_suc-le-suc l))

below_two : (P : ℕ → Type 0) → P 0 → P 1 → (i : ℕ) → i < 2 → P i
below_two P p q zero l = p
below_two P p q (suc i) l = below_one (λ j. P (suc j)) q i (le_of_suc-le-suc l)

below_three : (P : ℕ → Type 0) → P 0 → P 1 → P 2 → (i : ℕ) → i < 3 → P i
below_three P p q r zero l = p
below_three P p q r (suc i) l = below_two (λ j. P (suc j)) q r i (le_of_suc-le-suc l)

-- ---- its entries and its bodies

-- content that the writer's rows admit
pub record AdmittedContent (kind nets : ℕ) (vectors responses : List ℕ) : Type 0 where
  pub kind_right : VectorsKind kind
  pub nets_most : nets ≤ 48
  pub vectors_most : length vectors ≤ 64
  pub responses_most : length responses ≤ 64
  pub vectors_narrow : (t : ℕ) → t < length vectors → at vectors t < 2 ^ nets
  pub words_fit : (t : ℕ) → t < length (words_of kind nets vectors) → at (words_of kind nets vectors) t < 256 ^ 8
  pub responses_fit : (t : ℕ) → t < length responses → at responses t < 256 ^ 8

module _ (kind : ℕ) (net : Network) (k : ℕ) (vectors responses : List ℕ) (h : AdmittedContent kind net.nets vectors responses) where
  abbrev made : List ℕ
  made = file_of kind net k vectors responses

  abbrev start : ℕ
  start = bodies_at (entries_for responses)

  abbrev body : List ℕ
  body = vectors_bytes kind net.nets vectors

  start_range : (23 ≤ start) × (start ≤ 32)
  start_range = let range = entries_range responses in (omega arith, omega arith)

  body_most : length body ≤ 512
  body_most =
      ⊎_elim (λ e. omega (arith, size_turned kind e net.nets vectors, h.nets_most))
      (λ e. omega (arith, size_plain kind e net.nets vectors, h.vectors_most)) (cases (net_by_net kind))

  pub mark_made : take 4 made ≡ mark
  unfolding file_of
  mark_made = refl

  count_made : entry_count made ≡ entries_for responses
  unfolding file_of
  count_made = refl

  kind_0 : entry_kind made 0 ≡ 1
  unfolding file_of bytes_of entry_kind
  kind_0 = refl

  kind_made : entry_kind made 1 ≡ kind
  unfolding file_of bytes_of entry_kind
  kind_made = refl

  kind_1 : KindAt 1 (entry_kind made 1)
  kind_1 = ⊎_elim (λ q. inl (kind_made ∙ q)) (λ q. inr (refl, kind_made ∙ q)) h.kind_right

  offset_0 : body_offset made 0 ≡ start
  unfolding body_offset file_of bytes_of
  offset_0 = number_read made 6 4 start (drop 10 made) refl (let r = start_range in omega arith)

  length_0 : body_length made 0 ≡ nets_size
  unfolding body_length file_of bytes_of
  length_0 = number_read made 10 4 nets_size (drop 14 made) refl (omega arith)

  offset_1 : body_offset made 1 ≡ start + nets_size
  unfolding body_offset file_of bytes_of
  offset_1 = number_read made 15 4 (start + nets_size) (drop 19 made) refl (let r = start_range in omega arith)

  length_1 : body_length made 1 ≡ length body
  unfolding body_length file_of bytes_of
  length_1 = number_read made 19 4 (length body) (drop 23 made) refl (omega (arith, body_most))

  -- the bodies
  bodies_made : drop start made ≡ bodies_of net k body responses
  unfolding file_of
  bodies_made = drop_at (head_of kind (length body) responses) (bodies_of net k body responses) start (head_size kind (length body) responses)

  byte_made : (i : ℕ) → nets_byte made i ≡ at (bodies_of net k body responses) i
  byte_made i =
      ap (λ (n : ℕ). at made (n + i)) offset_0
      ∙ sym (get_or-drop start made i 0) ∙ ap (λ (bytes : List ℕ). at bytes i) bodies_made

  network_made : file_network made ≡ net
  unfolding file_network
  network_made = λ j. network_with (byte_made 0 j) (byte_made 2 j) (byte_made 3 j)

  class_made : file_class made ≡ k
  unfolding file_class
  class_made = byte_made 1

  vectors_stand : drop (start + nets_size) made ≡ body ++ word_bytes responses
  vectors_stand = sym (drop-drop nets_size start made) ∙ ap (λ (bytes : List ℕ). drop nets_size bytes) bodies_made

  responses_stand : drop (start + nets_size + length body) made ≡ word_bytes responses ++ []
  responses_stand =
      sym (drop-drop (length body) (start + nets_size) made) ∙ ap (λ (bytes : List ℕ). drop (length body) bytes) vectors_stand
      ∙ drop_at body (word_bytes responses) (length body) refl
      ∙ sym (append-nil (word_bytes responses))

  -- a body of words
  words_made : (i offset : ℕ) (words after : List ℕ) → body_offset made i + lead (entry_kind made i) ≡ offset
      → body_length made i ≡ lead (entry_kind made i) + 8 * length words
      → drop offset made ≡ word_bytes words ++ after → ((t : ℕ) → t < length words → at words t < 256 ^ 8) → body_words made i ≡ words
  unfolding body_words
  words_made i offset words after o l stands fit =
      let few = lead_most (entry_kind made i) in
      let count : body_length made i / 8 ≡ length words = omega arith in
      ap₂ (λ (n m : ℕ). words_at made n m) o count ∙ words_read made offset words after stands fit

  -- the vectors' body: its words, its count, and the vectors
  vector_words_stand : drop (start + nets_size + lead kind) made ≡ word_bytes (words_of kind net.nets vectors) ++ word_bytes responses
  unfolding vectors_bytes
  vector_words_stand =
      let first = lead_bytes kind (length vectors) in
      let words = word_bytes (words_of kind net.nets vectors) in
      sym (drop-drop (lead kind) (start + nets_size) made)
      ∙ ap (λ (bytes : List ℕ). drop (lead kind) bytes) (vectors_stand ∙ append_assoc first words (word_bytes responses))
      ∙ drop_at first (words ++ word_bytes responses) (lead kind) (lead_size kind (length vectors))

  lead_made : lead (entry_kind made 1) ≡ lead kind
  lead_made = ap lead kind_made

  vector_words_made : body_words made 1 ≡ words_of kind net.nets vectors
  vector_words_made =
      words_made 1 (start + nets_size + lead kind) (words_of kind net.nets vectors) (word_bytes responses)
      (ap₂ (λ (a b : ℕ). a + b) offset_1 lead_made)
      (length_1 ∙ body_size kind net.nets vectors ∙ ap (λ (n : ℕ). n + 8 * length (words_of kind net.nets vectors)) (sym lead_made))
      vector_words_stand h.words_fit

  vector_count_made : file_count made ≡ length vectors
  vector_count_made = ⊎_elim turned plain (cases (net_by_net kind))
    where
      turned : net_by_net kind ≡ true → file_count made ≡ length vectors
      turned e =
          count_stored made (ap net_by_net kind_made ∙ e)
          ∙ ap (λ (n : ℕ). at made n) (let none : body_offset made 1 ≡ start + nets_size + 0 = omega (arith, offset_1) in none)
          ∙ sym (get_or-drop (start + nets_size) made 0 0)
          ∙ ap (λ (bytes : List ℕ). at bytes 0) (vectors_stand ∙ ap (λ (b : List ℕ). b ++ word_bytes responses) (bytes_turned kind e net.nets vectors))

      plain : net_by_net kind ≡ false → file_count made ≡ length vectors
      plain e = count_of_words made (ap net_by_net kind_made ∙ e)
          ∙ ap length (vector_words_made ∙ words_plain kind e net.nets vectors)

  vectors_made : file_vectors made ≡ vectors
  unfolding file_vectors
  vectors_made =
      ap₂ (λ (a b : ℕ). vectors_of a b (body_words made 1)) kind_made vector_count_made
      ∙ ap (vectors_of kind (length vectors)) vector_words_made
      ∙ vectors_back kind net.nets vectors h.vectors_narrow

  whole_1 : body_length made 1 % 8 ≡ lead (entry_kind made 1)
  whole_1 =
      let few = lead_most kind in
      let size : body_length made 1 ≡ lead kind + 8 * length (words_of kind net.nets vectors) = length_1 ∙ body_size kind net.nets vectors in
      let rest : body_length made 1 % 8 ≡ lead kind = omega arith in
      rest ∙ sym lead_made

-- with no responses
module _ (kind : ℕ) (net : Network) (k : ℕ) (vectors : List ℕ) (h : AdmittedContent kind net.nets vectors []) where
  abbrev short : List ℕ
  short = file_of kind net k vectors []

  layout_short : Layout short
  unfolding file_of
  layout_short =
      let size = file_size kind vectors [] net k in
      let most = body_most kind net k vectors [] h in
      let o0 = offset_0 kind net k vectors [] h in
      let l0 = length_0 kind net k vectors [] h in
      let o1 = offset_1 kind net k vectors [] h in
      let l1 = length_1 kind net k vectors [] h in
      let gap : body_offset short 1 ≡ body_offset short 0 + body_length short 0 = omega arith in
      let end : body_offset short 1 + body_length short 1 ≡ length short = omega arith in record {
        size = omega arith;
        entries = inl refl;
        table = omega arith;
        kinds = below_two (λ i. KindAt i (entry_kind short i)) (inl (kind_0 kind net k vectors [] h)) (kind_1 kind net k vectors [] h);
        first_body = o0;
        no_gaps = λ i l. below_one (λ j. body_offset short (suc j) ≡ body_offset short j + body_length short j) gap i (le_of_suc-le-suc l);
        to_the_end = λ i q. let last : i ≡ 1 = omega arith in rw last end;
      }

  whole_short : (i : ℕ) → i < entry_count short → 0 < i → body_length short i % 8 ≡ lead (entry_kind short i)
  unfolding file_of
  whole_short =
      below_two (λ i. 0 < i → body_length short i % 8 ≡ lead (entry_kind short i)) (λ l. absurd (not-suc-le-zero l)) (λ _. whole_1 kind net k vectors [] h)

-- with responses
module _ (kind : ℕ) (net : Network) (k : ℕ) (vectors : List ℕ) (word : ℕ) (words : List ℕ) (h : AdmittedContent kind net.nets vectors (word ∷ words)) where
  abbrev long : List ℕ
  long = file_of kind net k vectors (word ∷ words)

  kind_2 : entry_kind long 2 ≡ 3
  unfolding file_of bytes_of entry_kind
  kind_2 = refl

  offset_2 : body_offset long 2 ≡ bodies_at 3 + nets_size + length (vectors_bytes kind net.nets vectors)
  unfolding body_offset file_of bytes_of
  offset_2 =
      number_read long 24 4 (bodies_at 3 + nets_size + length (vectors_bytes kind net.nets vectors)) (drop 28 long) refl
      (omega (arith, body_most kind net k vectors (word ∷ words) h))

  length_2 : body_length long 2 ≡ 8 * length (word ∷ words)
  unfolding body_length file_of bytes_of
  length_2 = number_read long 28 4 (8 * length (word ∷ words)) (drop 32 long) refl (omega (arith, h.responses_most))

  layout_long : Layout long
  unfolding file_of
  layout_long =
      let size = file_size kind vectors (word ∷ words) net k in
      let most = body_most kind net k vectors (word ∷ words) h in
      let few = h.responses_most in
      let o0 = offset_0 kind net k vectors (word ∷ words) h in
      let l0 = length_0 kind net k vectors (word ∷ words) h in
      let o1 = offset_1 kind net k vectors (word ∷ words) h in
      let l1 = length_1 kind net k vectors (word ∷ words) h in
      let o2 = offset_2 in
      let l2 = length_2 in
      let gap : body_offset long 1 ≡ body_offset long 0 + body_length long 0 = omega arith in
      let next : body_offset long 2 ≡ body_offset long 1 + body_length long 1 = omega arith in
      let end : body_offset long 2 + body_length long 2 ≡ length long = omega arith in record {
        size = omega arith;
        entries = inr refl;
        table = omega arith;
        kinds = below_three (λ i. KindAt i (entry_kind long i)) (inl (kind_0 kind net k vectors (word ∷ words) h))
            (kind_1 kind net k vectors (word ∷ words) h) (inl kind_2);
        first_body = o0;
        no_gaps = λ i l. below_two (λ j. body_offset long (suc j) ≡ body_offset long j + body_length long j) gap next i
            (le_of_suc-le-suc l);
        to_the_end = λ i q. let last : i ≡ 2 = omega arith in rw last end;
      }

  whole_long : (i : ℕ) → i < entry_count long → 0 < i → body_length long i % 8 ≡ lead (entry_kind long i)
  unfolding file_of
  whole_long =
      let l2 = length_2 in
      below_three (λ i. 0 < i → body_length long i % 8 ≡ lead (entry_kind long i)) (λ l. absurd (not-suc-le-zero l))
      (λ _. whole_1 kind net k vectors (word ∷ words) h) (λ _. rw kind_2 (omega arith))

-- with or without them
module _ (kind : ℕ) (net : Network) (k : ℕ) (vectors : List ℕ) where
  pub layout_made : (responses : List ℕ) → AdmittedContent kind net.nets vectors responses → Layout (file_of kind net k vectors responses)
  layout_made [] h = layout_short kind net k vectors h
  layout_made (word ∷ words) h = layout_long kind net k vectors word words h

  whole_made : (responses : List ℕ) → AdmittedContent kind net.nets vectors responses → (i : ℕ)
      → i < entry_count (file_of kind net k vectors responses) → 0 < i
      → body_length (file_of kind net k vectors responses) i % 8 ≡ lead (entry_kind (file_of kind net k vectors responses) i)
  whole_made [] h = whole_short kind net k vectors h
  whole_made (word ∷ words) h = whole_long kind net k vectors word words h

  responses_made : (responses : List ℕ) → AdmittedContent kind net.nets vectors responses → file_responses (file_of kind net k vectors responses) ≡ responses
  unfolding file_responses file_of
  responses_made [] h = refl
  responses_made (word ∷ words) h =
      let offset = bodies_at 3 + nets_size + length (vectors_bytes kind net.nets vectors) in
      let o2 = offset_2 kind net k vectors word words h in
      let l2 = length_2 kind net k vectors word words h in
      let third : lead (entry_kind (file_of kind net k vectors (word ∷ words)) 2) ≡ 0 = ap lead (kind_2 kind net k vectors word words h) in
      words_made kind net k vectors (word ∷ words) h 2 offset (word ∷ words) [] (omega (arith, o2, third)) (omega (arith, l2, third))
      (responses_stand kind net k vectors (word ∷ words) h) h.responses_fit

third_given : (responses : List ℕ) → eqb (entries_for responses) 3 ≡ given responses
third_given [] = refl
third_given (word ∷ words) = refl

module _ (kind : ℕ) (net : Network) (k : ℕ) (vectors responses : List ℕ) (h : AdmittedContent kind net.nets vectors responses) where
  pub bodies_pass : bad_bodies (file_of kind net k vectors responses) ≡ false
  bodies_pass =
      test_fails (decides_row_3 (file_of kind net k vectors responses))
      (λ w. ⊎_elim (λ n. n (length_0 kind net k vectors responses h)) (λ v. v.3 (whole_made kind net k vectors responses h v.0 v.2 v.1)) w)

  pub content_made : content (file_of kind net k vectors responses)
      ≡ record { network = net; class = k; kind = kind; vectors = vectors; responses = responses }
  unfolding content
  content_made =
      rw (
        network_made kind net k vectors responses h,
        class_made kind net k vectors responses h,
        kind_made kind net k vectors responses h,
        vectors_made kind net k vectors responses h,
        responses_made kind net k vectors responses h,
      )

  -- what the reader asks of the vectors' body is asked of the words put there
  pub body_tests_made : file_body_tests (file_of kind net k vectors responses)
      ≡ body_tests net k kind (length vectors) (words_of kind net.nets vectors)
  body_tests_made =
      rw (
        network_made kind net k vectors responses h,
        class_made kind net k vectors responses h,
        kind_made kind net k vectors responses h,
        vector_count_made kind net k vectors responses h,
        vector_words_made kind net k vectors responses h,
      )

  pub given_made : has_responses (file_of kind net k vectors responses) ≡ given responses
  given_made = ap (λ (n : ℕ). eqb n 3) (count_made kind net k vectors responses h) ∙ third_given responses
