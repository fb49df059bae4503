-- The call *write a job file*: how long its file is, and that it answers as its rows and its result say, with nothing
-- left open.
use Rattle.std.proofs.Common.{◌≡◌, refl, sym, ◌∙◌, false, ◌&&◌, true≢false, ◌≢◌, List, [], ◌∷◌, ◌++◌, ℕ, ◌+◌, ◌*◌}
use Rattle.std.proofs.Common.{◌≤◌, ◌<◌, not-suc-le-zero, arith, eqb, ltb, length, length-append, lt-ltb, eqb-true}
use mathlib.Core.Bool.{false≢true}
use borrow.Author.Tests.{not-false}
use Rattle.words.specs.Answers.{Answer, ByTable, Decides, Decided}
use Rattle.words.proofs.Answers.{decided_append, tests_by_table, table_determined}
use Rattle.words.proofs.Tests.{decides_and, decides_not}
use Rattle.network.specs.declared.Network.{Network}
use Rattle.network.specs.Rows.{SetRows, set_tests, bad_response_count}
use Rattle.network.proofs.Rows.{decides_set, decides_row_9, decides_high_bit, decides_row_12}
use Rattle.jobfile.specs.Bytes.{bytes_of, word_bytes}
use Rattle.jobfile.specs.VectorsBody.{vectors_bytes}
use Rattle.jobfile.proofs.StoredVectors.{decides_vectors_kind}
use Rattle.jobfile.specs.Layout.{mark, entry_at, bodies_at, nets_bytes, nets_size}
use Rattle.jobfile.proofs.ByteLaws.{bytes_count, word_bytes_count}
use Rattle.writer.specs.Writer.{entry_bytes, response_entry, entries_for, head_of, bodies_of, file_of, OwnRows}
use Rattle.writer.specs.Writer.{WriterRows, given, own_tests, writer_tests, write_answer}

-- two entries, or three if there are responses
pub entries_two : (responses : List ℕ) → length responses ≤ 0 → entries_for responses ≡ 2
entries_two [] l = refl
entries_two (word ∷ words) l = absurd (not-suc-le-zero l)

pub entries_three : (responses : List ℕ) → 0 < length responses → entries_for responses ≡ 3
entries_three [] l = absurd (not-suc-le-zero l)
entries_three (word ∷ words) l = refl

pub entries_range : (responses : List ℕ) → (2 ≤ entries_for responses) × (entries_for responses ≤ 3)
entries_range [] = (omega arith, omega arith)
entries_range (word ∷ words) = (omega arith, omega arith)

pub no_response_entry : (offset : ℕ) (responses : List ℕ) → length responses ≤ 0 → response_entry offset responses ≡ []
no_response_entry offset [] l = refl
no_response_entry offset (word ∷ words) l = absurd (not-suc-le-zero l)

pub response_entry_is : (offset : ℕ) (responses : List ℕ) → 0 < length responses
    → response_entry offset responses ≡ entry_bytes 3 offset (8 * length responses)
response_entry_is offset [] l = absurd (not-suc-le-zero l)
response_entry_is offset (word ∷ words) l = refl

-- ---- lengths

pub entry_size : (kind offset size : ℕ) → length (entry_bytes kind offset size) ≡ 9
entry_size kind offset size =
    let first = bytes_count 4 offset in
    let second = bytes_count 4 size in
    let both = length-append (kind ∷ bytes_of 4 offset) (bytes_of 4 size) in
    omega arith

pub response_entry_size : (offset : ℕ) (responses : List ℕ)
    → entry_at 2 + length (response_entry offset responses) ≡ bodies_at (entries_for responses)
response_entry_size offset [] = omega arith
response_entry_size offset (word ∷ words) = let size = entry_size 3 offset (8 * length (word ∷ words)) in omega arith

pub head_size : (kind size : ℕ) (responses : List ℕ) → length (head_of kind size responses) ≡ bodies_at (entries_for responses)
head_size kind size responses =
    let start = bodies_at (entries_for responses) in
    let one = entry_bytes 1 start nets_size in
    let two = entry_bytes kind (start + nets_size) size in
    let three = response_entry (start + nets_size + size) responses in
    let a = length-append (mark ++ entries_for responses ∷ one ++ two) three in
    let b = length-append (mark ++ entries_for responses ∷ one) two in
    let c = length-append mark (entries_for responses ∷ one) in
    let d = entry_size 1 start nets_size in
    let e = entry_size kind (start + nets_size) size in
    let f = response_entry_size (start + nets_size + size) responses in
    omega arith

pub file_size : (kind : ℕ) (vectors responses : List ℕ) (net : Network) (k : ℕ)
    → length (file_of kind net k vectors responses)
    ≡ bodies_at (entries_for responses) + nets_size + length (vectors_bytes kind net.nets vectors) + 8 * length responses
unfolding file_of
file_size kind vectors responses net k =
    let body = vectors_bytes kind net.nets vectors in
    let a = length-append (head_of kind (length body) responses) (bodies_of net k body responses) in
    let b = length-append (nets_bytes net k ++ body) (word_bytes responses) in
    let c = length-append (nets_bytes net k) body in
    let d = word_bytes_count responses in
    let e = head_size kind (length body) responses in
    omega arith

-- ---- the rows

-- whether there are responses, by their number
pub given_is : (responses : List ℕ) → ltb 0 (length responses) ≡ given responses
given_is [] = refl
given_is (word ∷ words) = lt-ltb 0 (length (word ∷ words)) (omega arith)

decides_given : (responses : List ℕ) → Decides (given responses) (responses ≢ [])
decides_given [] = (λ e. absurd (false≢true e), λ _ n. n refl)
decides_given (word ∷ words) = (λ _ e. let z : ◌≡◌ {A = ℕ} 0 1 = cc in omega arith, λ e. absurd (true≢false e))

-- no more responses than vectors, where row 9 does not hold
pub responses_most : (vectors responses : List ℕ)
    → given responses && bad_response_count (length vectors) (length responses) ≡ false
    → length responses ≤ length vectors
responses_most vectors [] e = omega arith
responses_most vectors (word ∷ words) e =
    let same = eqb-true (length (word ∷ words)) (length vectors) (not-false (eqb (length (word ∷ words)) (length vectors)) e) in omega arith

module _ (kind : ℕ) (net : Network) (k : ℕ) (vectors responses : List ℕ) (room : ℕ) where
  decides_rows : Decided (WriterRows kind net k vectors responses room) (writer_tests kind net k vectors responses room)
  decides_rows =
      let is_given = decides_given responses in (
        refl,
        decides_not (decides_vectors_kind kind),
        λ _. decided_append (SetRows net k vectors) (OwnRows kind net k vectors responses room) (set_tests net k vectors)
            (own_tests kind net k vectors responses room)
            (decides_set net k vectors)
            (λ _. (
              refl,
              decides_and is_given (decides_row_9 (length vectors) (length responses)),
              λ _. (
                refl,
                decides_and is_given (decides_high_bit net.nets responses),
                λ _.
                    (refl, decides_row_12 (length (file_of kind net k vectors responses)) room, λ _. tt),
              ),
            )),
      )

  pub write_by_table : ByTable (WriterRows kind net k vectors responses room)
      (λ bytes. bytes ≡ file_of kind net k vectors responses) (write_answer kind net k vectors responses room)
  unfolding write_answer
  write_by_table =
      tests_by_table (λ bytes. bytes ≡ file_of kind net k vectors responses) (WriterRows kind net k vectors responses room)
      (writer_tests kind net k vectors responses room)
      (file_of kind net k vectors responses) decides_rows (λ _. refl)

  pub write_determined : (a b : Answer (List ℕ))
      → ByTable (WriterRows kind net k vectors responses room) (λ bytes. bytes ≡ file_of kind net k vectors responses) a
      → ByTable (WriterRows kind net k vectors responses room) (λ bytes. bytes ≡ file_of kind net k vectors responses) b → a ≡ b
  write_determined a b =
      table_determined (λ bytes. bytes ≡ file_of kind net k vectors responses) (WriterRows kind net k vectors responses room) a b
      (λ _ x y p q. p ∙ sym q)
