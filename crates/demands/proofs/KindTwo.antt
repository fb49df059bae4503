-- Files of kind 2 are read and written as before kind 4.
use Rattle.std.proofs.Common.{◌≡◌, refl, sym, ap, ap₂, ◌∙◌, Bool, true, false, not, cond, ◌&&◌, ◌||◌, ◌≢◌, ⊎_elim}
use Rattle.std.proofs.Common.{List, [], ◌∷◌, ◌++◌, ℕ, suc, ◌+◌, ◌-◌, ◌/◌, ◌%◌, ◌<◌, arith, eqb, ltb, length, eqb-true}
use Rattle.words.specs.Answers.{Answer, refused, by_tests, lent_after, count_of}
use Rattle.words.specs.Searching.{any}
use Rattle.words.proofs.Tests.{cases, test_fails, decides_equal, or_false, and_false, same_truth}
use Rattle.words.proofs.Searching.{any_at, any_some}
use Rattle.network.specs.declared.Network.{Network}
use Rattle.network.specs.Rows.{set_tests, bad_count, network_tests, has_high_bit, bad_response_count, no_room}
use Rattle.jobfile.specs.Bytes.{word_bytes, words_at}
use Rattle.jobfile.specs.VectorsBody.{net_by_net, lead, words_of, vectors_bytes}
use Rattle.jobfile.specs.Layout.{most_bytes, kind_at, nets_bytes, entry_count, bodies_at, entry_kind, body_offset, body_length, nets_size}
use Rattle.jobfile.specs.Layout.{bad_mark, bad_entry, bad_layout, bad_bodies, body_words, file_kind, file_count}
use Rattle.jobfile.specs.Layout.{file_network, file_class, has_responses, file_responses}
use Rattle.jobfile.proofs.ByteLaws.{word_bytes_count}
use Rattle.jobfile.proofs.FileRows.{test→layout}
use Rattle.reader.specs.Reader.{JobContent, content, file_body_tests, list_tests, read_answer, vectors_read, responses_read}
use Rattle.reader.specs.Reader.{counted}
use Rattle.reader.proofs.Bodies.{count_of_words, vectors_of_plain, three_entries}
use Rattle.writer.specs.Writer.{head_of, given, file_of, write_answer}
use Rattle.demands.specs.KindTwo.{file_before, write_before, entry_breaks, layout_breaks, bodies_break, words_before}
use Rattle.demands.specs.KindTwo.{content_before, read_before, KindTwoAsBefore}
use Rattle.demands.specs.Programs.{our_reader, our_writer}

-- ---- the writer

file_same : (net : Network) (k : ℕ) (vectors responses : List ℕ)
    → file_of 2 net k vectors responses ≡ file_before net k vectors responses
unfolding file_of vectors_bytes words_of
file_same net k vectors responses =
    ap (λ (size : ℕ). head_of 2 size responses ++ (nets_bytes net k ++ word_bytes vectors ++ word_bytes responses))
    (word_bytes_count vectors)

written : (net : Network) (k : ℕ) (vectors responses : List ℕ) (room : ℕ)
    → write_answer 2 net k vectors responses room ≡ write_before net k vectors responses room
unfolding write_answer by_tests
written net k vectors responses room =
    ap (λ (file : List ℕ). by_tests (set_tests net k vectors
    ++ (9, given responses && bad_response_count (length vectors) (length responses))
    ∷ (10, given responses && has_high_bit net.nets responses)
    ∷ (12, no_room (length file) room) ∷ []) file) (file_same net k vectors responses)

-- ---- the reader

any_same : (n : ℕ) (p q : ℕ → Bool) → ((i : ℕ) → i < n → p i ≡ q i) → any n p ≡ any n q
any_same n p q same =
    same_truth (any n p) (any n q)
    (λ e. let r = any_some p n e in any_at q n r.0 r.1 (sym (same r.0 r.1) ∙ r.2))
    (λ e. let r = any_some q n e in any_at p n r.0 r.1 (same r.0 r.1 ∙ r.2))

-- rows 1, 2 and 3 and then others: 3 need be the same only if 2 does not hold, and the others if neither does
rows_same : {A : Type 0} (a b b' c c' : Bool) (rest rest' : List (ℕ × Bool)) (x x' : A) → b ≡ b' → (b ≡ false → c ≡ c')
    → (b ≡ false → by_tests rest x ≡ by_tests rest' x')
    → by_tests ((1, a) ∷ (2, b) ∷ (3, c) ∷ rest) x ≡ by_tests ((1, a) ∷ (2, b') ∷ (3, c') ∷ rest') x'
unfolding by_tests
rows_same true b b' c c' rest rest' x x' e f g = refl
rows_same false true b' c c' rest rest' x x' e f g = ap (λ (t : Bool). cond t (refused 2) (cond c' (refused 3) (by_tests rest' x'))) e
rows_same false false b' c c' rest rest' x x' e f g =
    ap₂ (λ (t : Bool) (y : Answer _). cond t (refused 3) y) (f refl) (g refl)
    ∙ ap (λ (t : Bool). cond t (refused 2) (cond c' (refused 3) (by_tests rest' x'))) e

module _ (file : List ℕ) (plain : entry_kind file 1 ≢ 4) where
  second_plain : eqb (entry_kind file 1) 4 ≡ false
  second_plain = test_fails (decides_equal (entry_kind file 1) 4) plain

  -- of the second entry kind 4 is left out, and of the others it was never asked
  never_four : (i : ℕ) → eqb i 1 && eqb (entry_kind file i) 4 ≡ false
  never_four i =
      ⊎_elim
      (λ e. ap (λ (b : Bool). eqb i 1 && b) (ap (λ (j : ℕ). eqb (entry_kind file j) 4) (eqb-true i 1 e) ∙ second_plain)
      ∙ and_false (eqb i 1))
      (λ e. ap (λ (b : Bool). b && eqb (entry_kind file i) 4) e) (cases (eqb i 1))

  kind_same : (i : ℕ) → kind_at i (entry_kind file i) ≡ eqb (entry_kind file i) (suc i)
  kind_same i =
      ap (λ (b : Bool). eqb (entry_kind file i) (suc i) || b) (never_four i) ∙ or_false (eqb (entry_kind file i) (suc i))

  entry_same : (i : ℕ) → bad_entry file i ≡ entry_breaks file i
  unfolding bad_entry
  entry_same i =
      let before = cond (eqb i 0) (bodies_at (entry_count file)) (body_offset file (i - 1) + body_length file (i - 1)) in
      let last = eqb (suc i) (entry_count file) && not (eqb (body_offset file i + body_length file i) (length file)) in
      ap (λ (k : Bool). not k || (not (eqb (body_offset file i) before) || last)) (kind_same i)

  layout_same : bad_layout file ≡ layout_breaks file
  unfolding bad_layout
  layout_same =
      let table = ltb (length file) (bodies_at (entry_count file)) in
      let count = not (eqb (entry_count file) 2 || eqb (entry_count file) 3) in
      ap (λ (entry : Bool). ltb most_bytes (length file) || (count || (table || entry)))
      (any_same (entry_count file) (bad_entry file) (entry_breaks file) (λ i _. entry_same i))

  module _ (laid : bad_layout file ≡ false) where
    -- no byte stands before the words of a body
    no_lead : (i : ℕ) → i < entry_count file → net_by_net (entry_kind file i) ≡ false
    no_lead i l =
        let shape = test→layout file laid in
        let few : entry_count file < 4 = ⊎_elim (λ q. omega arith) (λ q. omega arith) shape.entries in
        ⊎_elim (λ q. test_fails (decides_equal (entry_kind file i) 4) (λ four. omega (arith, q, four, l, few)))
        (λ w. absurd (plain (ap (entry_kind file) (sym w.0) ∙ w.1))) (shape.kinds i l)

    bodies_same : bad_bodies file ≡ bodies_break file
    unfolding bad_bodies
    bodies_same =
        ap (λ (words : Bool). not (eqb (body_length file 0) nets_size) || words)
        (any_same (entry_count file) (λ i. ltb 0 i && not (eqb (body_length file i % 8) (lead (entry_kind file i))))
        (λ i. ltb 0 i && not (eqb (body_length file i % 8) 0))
        (λ i l. ap (λ (b : Bool). ltb 0 i && not (eqb (body_length file i % 8) (cond b 1 0))) (no_lead i l)))

    words_same : (i : ℕ) → i < entry_count file → body_words file i ≡ words_before file i
    unfolding body_words
    words_same i l =
        let none : body_offset file i + 0 ≡ body_offset file i = omega arith in
        ap (λ (b : Bool). words_at file (body_offset file i + cond b 1 0) (body_length file i / 8)) (no_lead i l)
        ∙ ap (λ (offset : ℕ). words_at file offset (body_length file i / 8)) none

    responses_same : file_responses file ≡ cond (has_responses file) (words_before file 2) []
    unfolding file_responses
    responses_same =
        ⊎_elim (λ e. rw e (words_same 2 (three_entries file e))) (λ e. rw e) (cases (has_responses file))

    second : 1 < entry_count file
    second = ⊎_elim (λ q. omega arith) (λ q. omega arith) (test→layout file laid).entries

    kind_two : file_kind file ≡ 2
    kind_two = ⊎_elim (λ q. q) (λ w. absurd (plain w.1)) ((test→layout file laid).kinds 1 second)

    content_same : content file ≡ content_before file
    unfolding content
    content_same = λ j. record {
      network = file_network file;
      class = file_class file;
      kind = kind_two j;
      vectors = (vectors_of_plain file (no_lead 1 second) ∙ words_same 1 second) j;
      responses = responses_same j;
    }

    -- the tests of a body, by whether it is of kind 4
    abbrev tests_with : Bool → ℕ → List ℕ → List (ℕ × Bool)
    tests_with turned count words =
        network_tests (file_network file) (file_class file)
        ++ (7, bad_count count || (turned && not (eqb (length words) (file_network file).nets)))
        ∷ (8, has_high_bit (cond turned count (file_network file).nets) words) ∷ []

    tests_same : file_body_tests file ≡ set_tests (file_network file) (file_class file) (words_before file 1)
    tests_same =
        let plainly = no_lead 1 second in
        ap (λ (b : Bool). tests_with b (file_count file) (body_words file 1)) plainly
        ∙ ap₂ (tests_with false) (count_of_words file plainly ∙ ap length (words_same 1 second)) (words_same 1 second)
        ∙ ap (λ (seven : Bool). network_tests (file_network file) (file_class file)
        ++ (7, seven) ∷ (8, has_high_bit (file_network file).nets (words_before file 1)) ∷ [])
        (or_false (bad_count (length (words_before file 1))))

read : (file : List ℕ) (vectors_room responses_room : ℕ) → entry_kind file 1 ≢ 4
    → read_answer file vectors_room responses_room ≡ read_before file vectors_room responses_room
unfolding read_answer
read file vectors_room responses_room plain =
    rows_same (bad_mark file) (bad_layout file) (layout_breaks file) (bad_bodies file) (bodies_break file) _ _ (content file)
    (content_before file) (layout_same file plain) (bodies_same file plain)
    (λ laid. ap₂ (λ (tests : List (ℕ × Bool)) (job : JobContent). by_tests (tests ++ list_tests file job vectors_room responses_room) job)
    (tests_same file plain laid) (content_same file plain laid))

pub kind_two_as_before : KindTwoAsBefore our_reader our_writer
kind_two_as_before = record {
  written = λ net k vectors responses lent. ap (λ (answer : Answer (List ℕ)).
      record { returned = count_of answer; list = lent_after answer lent }) (written net k vectors responses (length lent));
  read = λ file vectors responses plain. ap (λ (answer : Answer JobContent). record {
    returned = counted answer;
    vectors = lent_after (vectors_read answer) vectors;
    responses = lent_after (responses_read answer) responses;
  }) (read file (length vectors) (length responses) plain);
}
