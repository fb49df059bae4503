-- A file that the reader's rows admit is the writer's file of its content.
use Rattle.std.proofs.Common.{◌≡◌, refl, sym, ap, ap₂, ◌∙◌, ⊎_elim, List, [], ◌∷◌, ◌++◌, append_assoc, append-nil, ℕ}
use Rattle.std.proofs.Common.{suc, ◌+◌, ◌*◌, ◌/◌, ◌%◌, ◌≤◌, ◌<◌, arith, length, take, drop, take-append-drop}
use Rattle.std.proofs.Common.{drop_of_length-le, drop-cons, true, false}
use Rattle.words.specs.Turning.{tabulate}
use Rattle.words.specs.Bits.{at}
use Rattle.words.proofs.Tests.{cases}
use Rattle.network.specs.declared.Network.{Network}
use Rattle.jobfile.specs.Bytes.{word_bytes, AllBytes}
use Rattle.jobfile.specs.Layout.{mark, entry_count, bodies_at, entry_kind, body_offset, body_length, nets_bytes}
use Rattle.jobfile.specs.Layout.{nets_size, Layout, file_network, file_class, body_words, file_kind, file_count, file_vectors}
use Rattle.jobfile.specs.VectorsBody.{net_by_net, lead, words_of, lead_bytes, vectors_bytes}
use Rattle.jobfile.proofs.StoredVectors.{body_size}
use Rattle.reader.proofs.Bodies.{lead_most, word_count, count_stored}
use Rattle.reader.proofs.ReaderAnswers.{vectors_said}
use Rattle.writer.specs.Writer.{entry_bytes, response_entry, entries_for, bodies_of, file_of}
use Rattle.writer.proofs.WriterLaws.{entries_three, response_entry_is}
use Rattle.demands.proofs.ReadBytes.{bytes_stand, words_stand, entry_stands}

-- what rows 1 to 3, 7 and 8 admit
pub record AdmittedFile (file : List ℕ) : Type 0 where
  pub small : AllBytes file
  pub marked : take 4 file ≡ mark
  pub laid : Layout file
  pub nets_body : body_length file 0 ≡ nets_size
  pub whole : (i : ℕ) → i < entry_count file → 0 < i → body_length file i % 8 ≡ lead (entry_kind file i)
  pub turns_back : words_of (file_kind file) (file_network file).nets (file_vectors file) ≡ body_words file 1
  pub count_there : net_by_net (file_kind file) ≡ true → body_offset file 1 < length file

-- the writer's file, with this number of entries
abbrev file_with : (entries kind : ℕ) → Network → ℕ → (body responses : List ℕ) → List ℕ
file_with entries kind net k body responses =
    mark
    ++ entries
    ∷ entry_bytes 1 (bodies_at entries) nets_size
    ++ entry_bytes kind (bodies_at entries + nets_size) (length body)
    ++ response_entry (bodies_at entries + nets_size + length body) responses
    ++ bodies_of net k body responses

-- the parts of a file put together
regroup : (count : ℕ) (first second third bodies : List ℕ)
    → mark ++ count ∷ (first ++ (second ++ (third ++ bodies))) ≡ mark ++ count ∷ first ++ second ++ third ++ bodies
regroup count first second third bodies = simp append_assoc

module _ (file : List ℕ) (s : AdmittedFile file) where
  two_or_three : (2 ≤ entry_count file) × (entry_count file ≤ 3)
  two_or_three = ⊎_elim (λ q. (omega arith, omega arith)) (λ q. (omega arith, omega arith)) s.laid.entries

  -- the kinds of the other two entries
  first_kind : 0 < entry_count file → entry_kind file 0 ≡ 1
  first_kind l = ⊎_elim (λ q. q) (λ w. omega (arith, w.0)) (s.laid.kinds 0 l)

  third_kind : 2 < entry_count file → entry_kind file 2 ≡ 3
  third_kind l = ⊎_elim (λ q. q) (λ w. omega (arith, w.0)) (s.laid.kinds 2 l)

  second_offset : body_offset file 1 ≡ bodies_at (entry_count file) + nets_size
  second_offset =
      let first = s.laid.first_body in
      let size = s.nets_body in
      let some = two_or_three in
      let gap = s.laid.no_gaps 0 (omega arith) in
      omega arith

  second_inside : body_offset file 1 + body_length file 1 ≤ length file
  second_inside =
      ⊎_elim (λ q. let end = s.laid.to_the_end 1 (sym q) in omega arith)
      (λ q. let end = s.laid.to_the_end 2 (sym q) in let gap = s.laid.no_gaps 1 (omega arith) in omega arith) s.laid.entries

  -- a body of words
  words_length : (i : ℕ) → i < entry_count file → 0 < i → body_length file i ≡ lead (entry_kind file i) + 8 * length (body_words file i)
  words_length i l p =
      let count = word_count file i in
      let rest = s.whole i l p in
      let few = lead_most (entry_kind file i) in
      omega arith

  words_body : (i : ℕ) → i < entry_count file → 0 < i → body_offset file i + body_length file i ≤ length file
      → drop (body_offset file i + lead (entry_kind file i)) file
      ≡ word_bytes (body_words file i) ++ drop (body_offset file i + body_length file i) file
  unfolding body_words
  words_body i l p inside =
      let rest = s.whole i l p in
      let few = lead_most (entry_kind file i) in
      let offset = body_offset file i + lead (entry_kind file i) in
      let end : offset + 8 * (body_length file i / 8) ≡ body_offset file i + body_length file i = omega arith in
      words_stand file s.small offset (body_length file i / 8) (omega arith)
      ∙ ap (λ (n : ℕ). word_bytes (body_words file i) ++ drop n file) end

  -- the vectors' body
  abbrev body : List ℕ
  body = vectors_bytes (file_kind file) (file_network file).nets (file_vectors file)

  body_is : body ≡ lead_bytes (file_kind file) (file_count file) ++ word_bytes (body_words file 1)
  unfolding vectors_bytes
  body_is = ap₂ (λ (n : ℕ) (words : List ℕ). lead_bytes (file_kind file) n ++ word_bytes words) (vectors_said file) s.turns_back

  body_length_is : body_length file 1 ≡ length body
  body_length_is =
      let some = two_or_three in
      let size = body_size (file_kind file) (file_network file).nets (file_vectors file) in
      let same = ap length s.turns_back in
      let read = words_length 1 (omega arith) (omega arith) in
      omega arith

  -- its lead
  lead_stands : drop (body_offset file 1) file
      ≡ lead_bytes (file_kind file) (file_count file) ++ drop (body_offset file 1 + lead (file_kind file)) file
  lead_stands = ⊎_elim turned plain (cases (net_by_net (file_kind file)))
    where
      turned : net_by_net (file_kind file) ≡ true → drop (body_offset file 1) file
          ≡ lead_bytes (file_kind file) (file_count file) ++ drop (body_offset file 1 + lead (file_kind file)) file
      turned e =
          let next : suc (body_offset file 1) ≡ body_offset file 1 + 1 = omega arith in
          rw (e, count_stored file e) (drop-cons file (body_offset file 1) 0 (s.count_there e)
          ∙ ap (λ (n : ℕ). at file (body_offset file 1) ∷ drop n file) next)

      plain : net_by_net (file_kind file) ≡ false → drop (body_offset file 1) file
          ≡ lead_bytes (file_kind file) (file_count file) ++ drop (body_offset file 1 + lead (file_kind file)) file
      plain e =
          let none : body_offset file 1 ≡ body_offset file 1 + 0 = omega arith in
          rw e (ap (λ (n : ℕ). drop n file) none)

  body_stands : drop (body_offset file 1) file ≡ body ++ drop (body_offset file 1 + body_length file 1) file
  body_stands =
      let some = two_or_three in
      let first = lead_bytes (file_kind file) (file_count file) in
      let words = word_bytes (body_words file 1) in
      let rest = drop (body_offset file 1 + body_length file 1) file in
      lead_stands ∙ ap (λ (bytes : List ℕ). first ++ bytes) (words_body 1 (omega arith) (omega arith) second_inside)
      ∙ sym (append_assoc first words rest) ∙ ap (λ (bytes : List ℕ). bytes ++ rest) (sym body_is)

  -- an entry
  entry_of : (i kind offset size : ℕ) → 14 + 9 * i ≤ length file → entry_kind file i ≡ kind
      → body_offset file i ≡ offset → body_length file i ≡ size
      → drop (5 + 9 * i) file ≡ entry_bytes kind offset size ++ drop (14 + 9 * i) file
  entry_of i kind offset size l a b c = rw (← a, ← b, ← c) (entry_stands file s.small i l)

  -- from the bodies on
  bodies_stand : (bytes : List ℕ) → drop (bodies_at (entry_count file) + nets_size) file ≡ bytes
      → drop (bodies_at (entry_count file)) file ≡ nets_bytes (file_network file) (file_class file) ++ bytes
  unfolding file_network file_class tabulate
  bodies_stand bytes e =
      let first = s.laid.first_body in
      let second = second_offset in
      let inside = second_inside in
      let next : body_offset file 0 + nets_size ≡ bodies_at (entry_count file) + nets_size = omega arith in
      ap (λ (n : ℕ). drop n file) (sym first) ∙ bytes_stand file (body_offset file 0) nets_size (omega arith)
      ∙ ap (λ (rest : List ℕ). nets_bytes (file_network file) (file_class file) ++ rest) (ap (λ (n : ℕ). drop n file) next ∙ e)

  -- the whole file, if these are its responses
  file_stands : (responses : List ℕ) → entry_count file ≡ entries_for responses
      → drop 23 file ≡ response_entry (bodies_at (entry_count file) + nets_size + length body) responses
      ++ drop (bodies_at (entry_count file)) file
      → drop (body_offset file 1 + body_length file 1) file ≡ word_bytes responses
      → file ≡ file_of (file_kind file) (file_network file) (file_class file) (file_vectors file) responses
  unfolding file_of
  file_stands responses counted third last =
      let start = bodies_at (entry_count file) in
      let kind = file_kind file in
      let some = two_or_three in
      let table = s.laid.table in
      let first : drop 5 file ≡ entry_bytes 1 start nets_size ++ drop 14 file =
      entry_of 0 1 start nets_size (omega arith) (first_kind (omega arith)) s.laid.first_body s.nets_body in
      let second : drop 14 file ≡ entry_bytes kind (start + nets_size) (length body) ++ drop 23 file =
      entry_of 1 kind (start + nets_size) (length body) (omega arith) refl second_offset body_length_is in
      let words : drop (start + nets_size) file ≡ body ++ word_bytes responses =
      ap (λ (n : ℕ). drop n file) (sym second_offset) ∙ body_stands
      ∙ ap (λ (bytes : List ℕ). body ++ bytes) last in
      let bodies = bodies_of (file_network file) (file_class file) body responses in
      let one = entry_bytes 1 start nets_size in
      let two = entry_bytes kind (start + nets_size) (length body) in
      let three = response_entry (start + nets_size + length body) responses in
      let table_on : drop 5 file ≡ one ++ (two ++ (three ++ bodies)) =
      first ∙ ap (λ (bytes : List ℕ). one ++ bytes)
      (second ∙ ap (λ (bytes : List ℕ). two ++ bytes)
      (third ∙ ap (λ (bytes : List ℕ). three ++ bytes) (bodies_stand (body ++ word_bytes responses) words))) in
      sym (take-append-drop 4 file)
      ∙ ap₂ (λ (a b : List ℕ). a ++ b) s.marked
      (drop-cons file 4 0 (omega arith) ∙ ap (λ (bytes : List ℕ). entry_count file ∷ bytes) table_on)
      ∙ regroup (entry_count file) one two three bodies
      ∙ ap (λ (n : ℕ). file_with n kind (file_network file) (file_class file) body responses) counted

  -- with two entries, and with three
  pub two_entries_stand : entry_count file ≡ 2
      → file ≡ file_of (file_kind file) (file_network file) (file_class file) (file_vectors file) []
  unfolding word_bytes
  two_entries_stand q =
      let end = s.laid.to_the_end 1 (sym q) in
      file_stands [] q (ap (λ (n : ℕ). drop (bodies_at n) file) (sym q))
      (drop_of_length-le file {i = body_offset file 1 + body_length file 1} (omega arith))

  pub three_entries_stand : entry_count file ≡ 3 → 0 < length (body_words file 2)
      → file ≡ file_of (file_kind file) (file_network file) (file_class file) (file_vectors file) (body_words file 2)
  three_entries_stand q some =
      let responses = body_words file 2 in
      let offset = bodies_at (entry_count file) + nets_size + length body in
      let gap = s.laid.no_gaps 1 (omega arith) in
      let end = s.laid.to_the_end 2 (sym q) in
      let table = s.laid.table in
      let second = second_offset in
      let size = body_length_is in
      let kind = third_kind (omega arith) in
      let none : lead (entry_kind file 2) ≡ 0 = ap lead kind in
      let length_2 = words_length 2 (omega arith) (omega arith) in
      let third : drop 23 file ≡ response_entry offset responses ++ drop (bodies_at (entry_count file)) file =
      entry_of 2 3 offset (8 * length responses) (omega arith) kind (omega arith) (omega arith)
      ∙ ap₂ (λ (entry : List ℕ) (n : ℕ). entry ++ drop (bodies_at n) file) (sym (response_entry_is offset responses some)) (sym q) in
      let next : body_offset file 1 + body_length file 1 ≡ body_offset file 2 + lead (entry_kind file 2) = omega arith in
      let last : drop (body_offset file 1 + body_length file 1) file ≡ word_bytes responses =
      ap (λ (n : ℕ). drop n file) next ∙ words_body 2 (omega arith) (omega arith) (omega arith)
      ∙ ap (λ (bytes : List ℕ). word_bytes responses ++ bytes)
      (drop_of_length-le file {i = body_offset file 2 + body_length file 2} (omega arith))
      ∙ append-nil (word_bytes responses) in
      file_stands responses (q ∙ sym (entries_three responses some)) third last
