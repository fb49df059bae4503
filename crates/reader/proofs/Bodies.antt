-- What a file of the right layout has: each body inside it, and its words.
use Rattle.std.proofs.Common.{eq-eqb}
use Rattle.std.proofs.Common.{◌≡◌, ap, ◌∙◌, true, false, inl, inr, ⊎_elim, ◌≢◌, List, [], ℕ, zero, suc, ◌+◌, ◌*◌, ◌-◌}
use Rattle.std.proofs.Common.{◌/◌, ◌%◌, ◌≤◌, ◌<◌, arith, length, take, drop, length-drop, take_all, eqb-true}
use Rattle.std.proofs.lemmas.List.{drop-drop, drop-take, get_or-take, get_or-drop, length-take}
use Rattle.words.specs.Bits.{at}
use Rattle.words.specs.Turning.{transpose}
use Rattle.words.proofs.Tests.{cases, contrary, equal_if_not_unequal}
use Rattle.words.proofs.Columns.{length_tabulate}
use Rattle.jobfile.specs.Bytes.{number_at, words_at}
use Rattle.jobfile.specs.Layout.{Layout, entry_count, bodies_at, body_offset, body_length, nets_size, bad_layout}
use Rattle.jobfile.specs.Layout.{entry_kind, bad_bodies, body_words, file_kind, file_count, file_vectors, has_responses, file_responses}
use Rattle.jobfile.specs.VectorsBody.{lead, net_by_net}
use Rattle.jobfile.proofs.FileRows.{test→layout, two_entries, decides_row_3}
use Rattle.jobfile.proofs.StoredVectors.{vectors_turned, vectors_plain}
use Rattle.reader.proofs.StoredWords.{words_of_part}

pub lead_most : (kind : ℕ) → lead kind ≤ 1
lead_most kind = ⊎_elim (λ e. rw e (omega arith)) (λ e. rw e (omega arith)) (cases (net_by_net kind))

module _ (file : List ℕ) (e : bad_layout file ≡ false) where
  layout : Layout file
  layout = test→layout file e

  pub entry_there : (i : ℕ) → i < entry_count file → bodies_at (i + 1) ≤ length file
  entry_there i l = omega (arith, layout.table)

  -- bodies end where the next begins, or where the file does
  body_ends : (d i : ℕ) → suc i + d ≡ entry_count file → body_offset file i + body_length file i ≤ length file
  body_ends zero i q =
      let last : suc i ≡ entry_count file = omega arith in
      omega (arith, layout.to_the_end i last)
  body_ends (suc d) i q =
      let next : suc i < entry_count file = omega arith in
      omega (arith, layout.no_gaps i next, body_ends d (suc i) (omega arith))

  pub body_inside : (i : ℕ) → i < entry_count file → body_offset file i + body_length file i ≤ length file
  body_inside i l = body_ends (entry_count file - suc i) i (omega arith)

  pub nets_whole : bad_bodies file ≡ false → body_length file 0 ≡ nets_size
  nets_whole f = equal_if_not_unequal (body_length file 0) nets_size (λ n. (decides_row_3 file).1 f (inl n))

  -- a body is its lead and whole words
  pub whole_words : bad_bodies file ≡ false → (i : ℕ) → 0 < i → i < entry_count file
      → body_length file i % 8 ≡ lead (entry_kind file i)
  whole_words f i p l = equal_if_not_unequal (body_length file i % 8) (lead (entry_kind file i))
      (λ n. (decides_row_3 file).1 f (inr (i, p, l, n)))

  -- a body that is net by net has its count
  pub count_inside : bad_bodies file ≡ false → net_by_net (file_kind file) ≡ true → body_offset file 1 < length file
  count_inside f turned =
      let two = two_entries file e in
      let one : body_length file 1 % 8 ≡ 1 = whole_words f 1 (omega arith) (omega arith) ∙ rw turned in
      omega (arith, body_inside 1 (omega arith))

  pub count_there : bad_bodies file ≡ false → net_by_net (file_kind file) ≡ true → 0 < body_length file 1
  count_there f turned =
      let two = two_entries file e in
      let one : body_length file 1 % 8 ≡ 1 = whole_words f 1 (omega arith) (omega arith) ∙ rw turned in
      omega arith

  -- a vectors' body that is not net by net is of kind 2
  pub plain_kind : net_by_net (file_kind file) ≡ false → file_kind file ≡ 2
  plain_kind plain =
      ⊎_elim (λ q. q) (λ w. contrary (eq-eqb (file_kind file) 4 w.1) plain) (layout.kinds 1 (omega (arith, two_entries file e)))

pub word_count : (file : List ℕ) (i : ℕ) → length (body_words file i) ≡ body_length file i / 8
unfolding body_words
word_count file i = length_tabulate (body_length file i / 8) (λ t. number_at file (body_offset file i + lead (entry_kind file i) + 8 * t) 8)

-- byte i of a part of a file
pub part_at : (file : List ℕ) (start size i : ℕ) → i < size → at (take size (drop start file)) i ≡ at file (start + i)
part_at file start size i l = get_or-take size (drop start file) i 0 l ∙ get_or-drop start file i 0

-- the words in a body, past its lead
module _ (file : List ℕ) (e : bad_layout file ≡ false) (f : bad_bodies file ≡ false) where
  abbrev body : ℕ → List ℕ
  body i = take (body_length file i) (drop (body_offset file i) file)

  words_of_body : (i n : ℕ) → 0 < i → i < entry_count file → lead (entry_kind file i) ≡ n
      → words_at (drop n (body i)) 0 (length (drop n (body i)) / 8) ≡ body_words file i
  unfolding body_words
  words_of_body i n p l lead_is =
      let start = body_offset file i in
      let size = body_length file i in
      let whole = whole_words file e f i p l in
      let few = lead_most (entry_kind file i) in
      let inside = body_inside file e i l in
      let split : size ≡ n + (size - n) = omega arith in
      let part : drop n (body i) ≡ take (size - n) (drop (start + n) file) =
      ap (λ (m : ℕ). drop n (take m (drop start file))) split ∙ drop-take n (size - n) (drop start file)
      ∙ ap (λ (xs : List ℕ). take (size - n) xs) (drop-drop n start file) in
      let long : length (drop n (body i)) ≡ size - n =
      omega (arith, length-drop n (body i), length-take size (drop start file), length-drop start file) in
      let same : length (drop n (body i)) / 8 ≡ size / 8 = omega arith in
      rw (same, part, lead_is) (words_of_part file (start + n) (size - n) (size / 8) (omega arith))

  -- net by net one byte stands before them
  pub words_of_turned : net_by_net (file_kind file) ≡ true
      → let words = take (length (body 1) - 1) (drop 1 (body 1)) in words_at words 0 (length words / 8) ≡ body_words file 1
  words_of_turned turned =
      let all : take (length (body 1) - 1) (drop 1 (body 1)) ≡ drop 1 (body 1) = take_all _ _ (omega (arith, length-drop 1 (body 1))) in
      rw all (words_of_body 1 1 (omega arith) (omega (arith, two_entries file e)) (rw turned))

  pub words_of_plain : net_by_net (file_kind file) ≡ false → words_at (body 1) 0 (length (body 1) / 8) ≡ body_words file 1
  words_of_plain plain = words_of_body 1 0 (omega arith) (omega (arith, two_entries file e)) (rw plain)

  pub words_of_third : has_responses file ≡ true → words_at (body 2) 0 (length (body 2) / 8) ≡ body_words file 2
  words_of_third third =
      let three : 2 < entry_count file = omega (arith, eqb-true (entry_count file) 3 third) in
      words_of_body 2 0 (omega arith) three
      (⊎_elim (λ q. rw q) (λ w. absurd (omega (arith, w.0))) ((test→layout file e).kinds 2 three))

-- the vectors' body: its count is in its first byte, or that of its words
module _ (file : List ℕ) where
  pub count_stored : net_by_net (file_kind file) ≡ true → file_count file ≡ at file (body_offset file 1)
  unfolding file_count
  count_stored e = rw e

  pub count_of_words : net_by_net (file_kind file) ≡ false → file_count file ≡ length (body_words file 1)
  unfolding file_count
  count_of_words e = rw e

  -- the vectors are its words, or these turned
  pub vectors_of_turned : net_by_net (file_kind file) ≡ true → file_vectors file ≡ transpose (file_count file) (body_words file 1)
  unfolding file_vectors
  vectors_of_turned e = vectors_turned (file_kind file) e (file_count file) (body_words file 1)

  pub vectors_of_plain : net_by_net (file_kind file) ≡ false → file_vectors file ≡ body_words file 1
  unfolding file_vectors
  vectors_of_plain e = vectors_plain (file_kind file) e (file_count file) (body_words file 1)

-- the responses: the words of the third body, if there is one
module _ (file : List ℕ) where
  pub three_entries : has_responses file ≡ true → 2 < entry_count file
  three_entries e = omega (arith, eqb-true (entry_count file) 3 e)

  pub responses_given : has_responses file ≡ true → file_responses file ≡ body_words file 2
  unfolding file_responses
  responses_given e = rw e

  pub responses_missing : has_responses file ≡ false → file_responses file ≡ []
  unfolding file_responses
  responses_missing e = rw e
