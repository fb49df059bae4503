-- The reader accepts exactly the writer's files and returns their content.
use Rattle.std.proofs.Common.{◌≡◌, refl, sym, ap, ap₂, ◌∙◌, subst, Bool, true, false, not, cond, ◌&&◌, ◌||◌, inl, inr}
use Rattle.std.proofs.Common.{⊎_elim, List, [], ◌∷◌, ◌++◌, ℕ, ◌+◌, ◌^◌, ◌≤◌, ◌<◌, not-suc-le-zero, arith, eqb, length}
use Rattle.std.proofs.Common.{take, pow_mono, eqb-true, eq-eqb, le-ltb}
use mathlib.Core.Bool.{false≢true}
use borrow.Author.Tests.{not-false}
use Rattle.words.specs.Bits.{at}
use Rattle.words.specs.Answers.{Answer, full, by_tests, NoneHolds, Decided}
use Rattle.words.proofs.Tests.{cases, test_passes, test_fails, equal_if_not_unequal}
use Rattle.words.proofs.Answers.{AllFail, none_passed, full_answer, shared_pass}
use Rattle.network.specs.declared.Network.{Network}
use Rattle.network.specs.Rows.{SetRows, Row7, HighBit, set_tests, has_high_bit, bad_response_count, no_room}
use Rattle.network.proofs.Rows.{decides_high_bit, no_high_bit, decides_set, set_none_holds, admitted_set, set_admitted}
use Rattle.jobfile.specs.Bytes.{AllBytes}
use Rattle.jobfile.specs.VectorsBody.{VectorsKind, vectors_kind, net_by_net, words_of, vectors_bytes, width, BodyRows, body_tests}
use Rattle.jobfile.proofs.StoredVectors.{decides_vectors_kind, size_turned, size_plain, decides_body, body_of_set}
use Rattle.jobfile.proofs.StoredVectors.{body_none_holds, words_back}
use Rattle.jobfile.specs.Layout.{Layout, file_kind, file_count, file_vectors}
use Rattle.jobfile.specs.Layout.{mark, entry_count, body_length, nets_size, same_bytes, bad_mark, bad_layout, bad_bodies}
use Rattle.jobfile.specs.Layout.{file_network, file_class, body_words, has_responses, file_responses}
use Rattle.jobfile.proofs.FileRows.{same_if_equal, decides_same_bytes, test→layout, layout→test, decides_row_3}
use Rattle.reader.specs.Reader.{FileBodyRows, file_tests, file_body_tests, JobContent, content, list_tests, reader_tests, read_answer}
use Rattle.reader.proofs.Bodies.{whole_words, count_inside, responses_given, responses_missing}
use Rattle.reader.proofs.ReaderLaws.{set_of_file}
use Rattle.listing.specs.Report.{job_text, report}
use Rattle.writer.specs.Writer.{file_of, bad_kind, given, own_tests, writer_tests, write_answer}
use Rattle.writer.proofs.WriterLaws.{entries_range, file_size, responses_most}
use Rattle.demands.proofs.MadeFile.{AdmittedContent, mark_made, layout_made, bodies_pass, content_made, given_made}
use Rattle.demands.proofs.MadeFile.{body_tests_made}
use Rattle.demands.proofs.StandingFile.{AdmittedFile, two_entries_stand, three_entries_stand}

-- ---- of tests and others after them, all fail

fail_front : (tests more : List (ℕ × Bool)) → AllFail (tests ++ more) → AllFail tests
fail_front [] more fail = tt
fail_front ((number, test) ∷ tests) more (e, fail) = (e, fail_front tests more fail)

fail_rest : (tests more : List (ℕ × Bool)) → AllFail (tests ++ more) → AllFail more
fail_rest [] more fail = fail
fail_rest ((number, test) ∷ tests) more (e, fail) = fail_rest tests more fail

fail_both : (tests more : List (ℕ × Bool)) → AllFail tests → AllFail more → AllFail (tests ++ more)
fail_both [] more fail others = others
fail_both ((number, test) ∷ tests) more (e, fail) others = (e, fail_both tests more fail others)

-- where no row holds, each test that decides one fails
all_fail : (rows : List (ℕ × Type 0)) (tests : List (ℕ × Bool)) → Decided rows tests → NoneHolds rows → AllFail tests
all_fail [] [] d none = tt
all_fail [] (t ∷ tests) d none = absurd d
all_fail (r ∷ rows) [] d none = absurd d
all_fail ((number, holds) ∷ rows) ((same, test) ∷ tests) (q, decides, rest) (no!, none) =
    (test_fails decides no!, all_fail rows tests (rest no!) none)

-- ---- the writer's file, read

-- what it holds, and the reader's answer by row 12 alone
abbrev pub content_of : (kind : ℕ) → Network → (k : ℕ) → (vectors responses : List ℕ) → JobContent
content_of kind net k vectors responses = record { network = net; class = k; kind = kind; vectors = vectors; responses = responses }

abbrev pub read_into : (kind : ℕ) → Network → (k : ℕ) → (vectors responses : List ℕ) → (vectors_room responses_room : ℕ) → Answer JobContent
read_into kind net k vectors responses vectors_room responses_room =
    by_tests ((12, no_room (length vectors) vectors_room || no_room (length responses) responses_room) ∷ [])
    (content_of kind net k vectors responses)

-- words of at most 64 bits fit into 8 bytes
words_fit : (width : ℕ) (words : List ℕ) → width ≤ 64 → ¬ (HighBit width words) → (t : ℕ) → t < length words → at words t < 256 ^ 8
words_fit width words most narrow t l =
    let here = no_high_bit width words narrow t l in
    let power : 2 ^ width ≤ 2 ^ 64 = pow_mono {j = 64} most in
    omega arith

given_fit : (net : Network) (responses : List ℕ) → net.nets ≤ 48 → given responses && has_high_bit net.nets responses ≡ false
    → (t : ℕ) → t < length responses → at responses t < 256 ^ 8
given_fit net [] most e t l = absurd (not-suc-le-zero l)
given_fit net (word ∷ words) most e t l =
    words_fit net.nets (word ∷ words) (omega arith) ((decides_high_bit net.nets (word ∷ words)).1 e) t l

module _ (kind : ℕ) (net : Network) (k : ℕ) (vectors responses : List ℕ) (room : ℕ) (right : bad_kind kind ≡ false)
    (set : AllFail (set_tests net k vectors)) where
  set_none : NoneHolds (SetRows net k vectors)
  set_none = set_none_holds net k vectors (full_answer (set_tests net k vectors) tt set)

  -- the rows let the body of these vectors through
  body_none : NoneHolds (BodyRows net k kind (length vectors) (words_of kind net.nets vectors))
  body_none = body_of_set net k kind vectors set_none

  width_most : width kind net.nets (length vectors) ≤ 64
  width_most =
      let good = admitted_set net k vectors set_none in
      ⊎_elim (λ e. rw e good.vectors_most) (λ e. rw e (omega (arith, good.most))) (cases (net_by_net kind))

  admitted : AllFail (own_tests kind net k vectors responses room) → AdmittedContent kind net.nets vectors responses
  admitted (t9, (t10, t12)) =
      let good = admitted_set net k vectors set_none in
      let few = responses_most vectors responses t9 in record {
        kind_right = (decides_vectors_kind kind).0 (not-false (vectors_kind kind) right);
        nets_most = good.most;
        vectors_most = good.vectors_most;
        responses_most = omega (arith, good.vectors_most);
        vectors_narrow = good.narrow;
        words_fit = words_fit (width kind net.nets (length vectors)) (words_of kind net.nets vectors) width_most
            body_none.1.1.1.1.1.0;
        responses_fit = given_fit net responses good.most t10;
      }

  -- row 12 is left
  made_is_read : (vectors_room responses_room : ℕ) → AllFail (own_tests kind net k vectors responses room)
      → read_answer (file_of kind net k vectors responses) vectors_room responses_room
      ≡ read_into kind net k vectors responses vectors_room responses_room
  unfolding read_answer
  made_is_read vectors_room responses_room (t9, (t10, t12)) =
      let h = admitted (t9, (t10, t12)) in
      let file = file_of kind net k vectors responses in
      let job : JobContent = record { network = net; class = k; kind = kind; vectors = vectors; responses = responses } in
      let third = given_made kind net k vectors responses h in
      let u1 : bad_mark file ≡ false = ap not (same_if_equal (take 4 file) mark (mark_made kind net k vectors responses h)) in
      let u2 = layout→test file (layout_made kind net k vectors responses h) in
      let u3 = bodies_pass kind net k vectors responses h in
      let words = words_of kind net.nets vectors in
      let body : AllFail (file_body_tests file) =
      subst AllFail (sym (body_tests_made kind net k vectors responses h))
      (all_fail (BodyRows net k kind (length vectors) words) (body_tests net k kind (length vectors) words)
      (decides_body net k kind (length vectors) words) body_none) in
      let u9 = ap (λ (b : Bool). b && bad_response_count (length vectors) (length responses)) third ∙ t9 in
      let u10 = ap (λ (b : Bool). b && has_high_bit net.nets responses) third ∙ t10 in
      let lists : List (ℕ × Bool) =
      (9, has_responses file && bad_response_count (length vectors) (length responses))
      ∷ (10, has_responses file && has_high_bit net.nets responses) ∷ [] in
      let before : List (ℕ × Bool) = file_tests file ++ file_body_tests file ++ lists in
      let all : AllFail before = (u1, (u2, (u3, fail_both (file_body_tests file) lists body (u9, (u10, tt))))) in
      ap (λ (c : JobContent). by_tests (reader_tests file c vectors_room responses_room) c) (content_made kind net k vectors responses h)
      ∙ shared_pass job job before _ job (full_answer before job all)

-- what the writer wrote is read back, if there is room
pub written_into : (kind : ℕ) (net : Network) (k : ℕ) (vectors responses : List ℕ) (room vectors_room responses_room : ℕ) (file : List ℕ)
    → write_answer kind net k vectors responses room ≡ full file
    → read_answer file vectors_room responses_room ≡ read_into kind net k vectors responses vectors_room responses_room
unfolding write_answer
written_into kind net k vectors responses room vectors_room responses_room file e =
    let p = none_passed (writer_tests kind net k vectors responses room) (file_of kind net k vectors responses) file e in
    let set = fail_front (set_tests net k vectors) (own_tests kind net k vectors responses room) p.0.1 in
    let own = fail_rest (set_tests net k vectors) (own_tests kind net k vectors responses room) p.0.1 in
    subst (λ (bytes : List ℕ). read_answer bytes vectors_room responses_room
    ≡ read_into kind net k vectors responses vectors_room responses_room) p.1
    (made_is_read kind net k vectors responses room p.0.0 set vectors_room responses_room own)

pub written_is_read : (kind : ℕ) (net : Network) (k : ℕ) (vectors responses : List ℕ) (room vectors_room responses_room : ℕ) (file : List ℕ)
    → write_answer kind net k vectors responses room ≡ full file → length vectors ≤ vectors_room → length responses ≤ responses_room
    → read_answer file vectors_room responses_room ≡ full (content_of kind net k vectors responses)
unfolding by_tests
written_is_read kind net k vectors responses room vectors_room responses_room file e lv lr =
    written_into kind net k vectors responses room vectors_room responses_room file e
    ∙ rw (le-ltb vectors_room (length vectors) lv, le-ltb responses_room (length responses) lr)

-- ---- the reader's file, written

-- a test behind a weaker condition
behind_weaker : (a b c : Bool) → (a ≡ true → b ≡ true) → b && c ≡ false → a && c ≡ false
behind_weaker true b c h e = sym (ap (λ (t : Bool). t && c) (h refl)) ∙ e
behind_weaker false b c h e = refl

given_if : (third : Bool) (words : List ℕ) → given (cond third words []) ≡ true → third ≡ true
given_if true words e = refl
given_if false words e = absurd (false≢true e)

module _ (file : List ℕ) where
  third_there : given (file_responses file) ≡ true → has_responses file ≡ true
  unfolding file_responses
  third_there e = given_if (has_responses file) (body_words file 2) e

  no_third : entry_count file ≡ 2 → file_responses file ≡ []
  no_third q = responses_missing file (ap (λ (n : ℕ). eqb n 3) q)

  third_read : entry_count file ≡ 3 → file_responses file ≡ body_words file 2
  third_read q = responses_given file (ap (λ (n : ℕ). eqb n 3) q)

  -- where rows 7 and 9 do not hold, a third body has words
  some_responses : ¬ (Row7 (file_vectors file))
      → has_responses file && bad_response_count (length (file_vectors file)) (length (file_responses file)) ≡ false
      → entry_count file ≡ 3 → 0 < length (body_words file 2)
  some_responses seven t9 q =
      let vectors = file_vectors file in
      let none : length vectors < 1 → ⊥ = λ l. seven (inl l) in
      let test : not (eqb (length (body_words file 2)) (length vectors)) ≡ false =
      sym (ap₂ (λ (n : ℕ) (words : List ℕ). eqb n 3 && not (eqb (length words) (length vectors))) q (third_read q)) ∙ t9 in
      let equal = eqb-true (length (body_words file 2)) (length vectors)
      (not-false (eqb (length (body_words file 2)) (length vectors)) test) in
      omega (arith, none)

  -- the kind is one that the writer takes
  kind_stands : Layout file → VectorsKind (file_kind file)
  kind_stands laid =
      let some : 1 < entry_count file = ⊎_elim (λ q. omega arith) (λ q. omega arith) laid.entries in
      ⊎_elim inl (λ w. inr w.1) (laid.kinds 1 some)

  module _ (small : AllBytes file) (t1 : bad_mark file ≡ false) (t2 : bad_layout file ≡ false) (t3 : bad_bodies file ≡ false)
      (body : AllFail (file_body_tests file)) where
    body_rows : NoneHolds (FileBodyRows file)
    body_rows = body_none_holds (file_network file) (file_class file) (file_kind file) (file_count file) (body_words file 1)
        (full_answer (file_body_tests file) tt body)

    set_rows : NoneHolds (SetRows (file_network file) (file_class file) (file_vectors file))
    unfolding content
    set_rows = set_of_file file body_rows

    admitted_file : AdmittedFile file
    unfolding file_vectors
    admitted_file = record {
      small = small;
      marked = (decides_same_bytes (take 4 file) mark).0 (not-false (same_bytes (take 4 file) mark) t1);
      laid = test→layout file t2;
      nets_body = equal_if_not_unequal (body_length file 0) nets_size (λ n. (decides_row_3 file).1 t3 (inl n));
      whole = λ i l p. whole_words file t2 t3 i p l;
      turns_back = words_back (file_network file) (file_class file) (file_kind file) (file_count file) (body_words file 1) body_rows;
      count_there = count_inside file t2 t3;
    }

    content_stands : (entry_count file ≡ 3 → 0 < length (body_words file 2))
        → file_of (file_kind file) (file_network file) (file_class file) (file_vectors file) (file_responses file) ≡ file
    content_stands some =
        let put = file_of (file_kind file) (file_network file) (file_class file) (file_vectors file) in
        ⊎_elim (λ q. ap put (no_third q) ∙ sym (two_entries_stand file admitted_file q))
        (λ q. ap put (third_read q) ∙ sym (three_entries_stand file admitted_file q (some q))) admitted_file.laid.entries

  content_is_written : (vectors_room responses_room room : ℕ) → AllBytes file
      → AllFail (reader_tests file (content file) vectors_room responses_room) → length file ≤ room
      → write_answer (content file).kind (content file).network (content file).class (content file).vectors (content file).responses
      room ≡ full file
  unfolding write_answer content
  content_is_written vectors_room responses_room room small (t1, (t2, (t3, rest))) l =
      let kind = file_kind file in
      let net = file_network file in
      let vectors = file_vectors file in
      let responses = file_responses file in
      let body = fail_front (file_body_tests file) (list_tests file (content file) vectors_room responses_room) rest in
      let lists = fail_rest (file_body_tests file) (list_tests file (content file) vectors_room responses_room) rest in
      let rows = set_rows small t1 t2 t3 body in
      let set = all_fail (SetRows net (file_class file) vectors) (set_tests net (file_class file) vectors)
      (decides_set net (file_class file) vectors) rows in
      let whole = content_stands small t1 t2 t3 body (some_responses rows.1.1.1.1.0 lists.0) in
      let made = file_of kind net (file_class file) vectors responses in
      let u2 = ap not (test_passes (decides_vectors_kind kind) (kind_stands (test→layout file t2))) in
      let u9 = behind_weaker (given responses) (has_responses file)
      (bad_response_count (length vectors) (length responses)) third_there lists.0 in
      let u10 = behind_weaker (given responses) (has_responses file) (has_high_bit net.nets responses) third_there
      lists.1.0 in
      let u12 : no_room (length made) room ≡ false = le-ltb room (length made) (rw whole l) in
      full_answer (writer_tests kind net (file_class file) vectors responses room) made (
        u2,
        fail_both (set_tests net (file_class file) vectors) (own_tests kind net (file_class file) vectors responses room) set
            (u9, (u10, (u12, tt))),
      )
      ∙ ap full whole

-- what the reader accepts is what the writer writes of its content
pub read_is_written : (file : List ℕ) (vectors_room responses_room room : ℕ) (job : JobContent) → AllBytes file
    → read_answer file vectors_room responses_room ≡ full job → length file ≤ room
    → write_answer job.kind job.network job.class job.vectors job.responses room ≡ full file
unfolding read_answer
read_is_written file vectors_room responses_room room job small e l =
    let p = none_passed (reader_tests file (content file) vectors_room responses_room) (content file) job e in
    subst (λ (c : JobContent). write_answer c.kind c.network c.class c.vectors c.responses room ≡ full file) p.1
    (content_is_written file vectors_room responses_room room small p.0 l)

-- ---- the two kinds

-- What was written: the file of its content, of one of the two kinds, of at most 48 nets, 64 vectors and 64 responses.
pub record Written (kind : ℕ) (net : Network) (k : ℕ) (vectors responses file : List ℕ) : Type 0 where
  pub kind_right : VectorsKind kind
  pub is : file_of kind net k vectors responses ≡ file
  pub nets_most : net.nets ≤ 48
  pub vectors_most : length vectors ≤ 64
  pub responses_few : length responses ≤ 64

pub written : (kind : ℕ) (net : Network) (k : ℕ) (vectors responses : List ℕ) (room : ℕ) (file : List ℕ)
    → write_answer kind net k vectors responses room ≡ full file → Written kind net k vectors responses file
unfolding write_answer
written kind net k vectors responses room file e =
    let p = none_passed (writer_tests kind net k vectors responses room) (file_of kind net k vectors responses) file e in
    let set = fail_front (set_tests net k vectors) (own_tests kind net k vectors responses room) p.0.1 in
    let own = fail_rest (set_tests net k vectors) (own_tests kind net k vectors responses room) p.0.1 in
    let good = set_admitted net k vectors (full_answer (set_tests net k vectors) tt set) in record {
      kind_right = (decides_vectors_kind kind).0 (not-false (vectors_kind kind) p.0.0);
      is = p.1;
      nets_most = good.most;
      vectors_most = good.vectors_most;
      responses_few = omega (arith, good.vectors_most, responses_most vectors responses own.0);
    }

-- how long it is
module _ (kind : ℕ) (net : Network) (k : ℕ) (vectors responses file : List ℕ) (w : Written kind net k vectors responses file) where
  body_most : (most : ℕ) → length (vectors_bytes kind net.nets vectors) ≤ most → length file ≤ 548 + most
  body_most most l =
      let size = file_size kind vectors responses net k in
      let few = (entries_range responses).1 in
      subst (λ (f : List ℕ). length f ≤ 548 + most) w.is (omega (arith, w.responses_few))

  pub written_most : length file ≤ 1060
  written_most =
      ⊎_elim
      (λ e. let size = size_turned kind e net.nets vectors in body_most 512 (omega (arith, w.nets_most)))
      (λ e. let size = size_plain kind e net.nets vectors in body_most 512 (omega (arith, w.vectors_most)))
      (cases (net_by_net kind))

  pub turned_most : kind ≡ 4 → length file ≤ 933
  turned_most q =
      let size = size_turned kind (eq-eqb kind 4 q) net.nets vectors in body_most 385 (omega (arith, w.nets_most))

-- the report on the files of one content is the same, whatever their kinds
pub reports_alike : (kind other : ℕ) (net : Network) (k : ℕ) (vectors responses : List ℕ) (room other_room : ℕ) (file other_file : List ℕ)
    → write_answer kind net k vectors responses room ≡ full file
    → write_answer other net k vectors responses other_room ≡ full other_file
    → report file ≡ report other_file
unfolding report
reports_alike kind other net k vectors responses room other_room file other_file e f =
    let w = written kind net k vectors responses room file e in
    ap job_text (written_is_read kind net k vectors responses room 64 64 file e w.vectors_most w.responses_few)
    ∙ sym (ap job_text
    (written_is_read other net k vectors responses other_room 64 64 other_file f w.vectors_most w.responses_few))
