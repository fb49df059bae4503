-- What the call *write a job file* owes, row by row, and where it writes the file.
use Rattle.std.proofs.Common.{◌≡◌, ℕ, Bool, true, false, List, ◌++◌, length, sym, ap, ap₂, ◌∙◌, ◌&&◌, ltb}
use Rattle.words.specs.Answers.{Answer, refused, full, by_tests, count_of, lent_after}
use Rattle.words.proofs.Answers.{owed_refused, owed_full}
use Rattle.network.specs.declared.Network.{Network}
use Rattle.network.specs.Rows.{set_tests, set_admission, bad_response_count, has_high_bit, no_room}
use Rattle.network.proofs.Rows.{set_refuses, set_admits}
use Rattle.writer.specs.Writer.{file_of, bad_kind, given, own_tests, write_answer}
use Rattle.writer.proofs.WriterLaws.{given_is}

-- what the call owes where it refuses: by row 2, by the rows of the test set, then by its own rows
module _ (kind : ℕ) (net : Network) (k : ℕ) (vectors responses lent : List ℕ) where
  abbrev pub answer : Answer (List ℕ)
  answer = write_answer kind net k vectors responses (length lent)

  abbrev pub file : List ℕ
  file = file_of kind net k vectors responses

  abbrev pub own : List (ℕ × Bool)
  own = own_tests kind net k vectors responses (length lent)

  abbrev pub Refuses : ℕ → Type 0
  Refuses number = (refused number ≡ count_of answer) × (lent ≡ lent_after answer lent)

  pub by_row_2 : bad_kind kind ≡ true → Refuses 2
  unfolding write_answer by_tests
  by_row_2 e = owed_refused answer 2 lent (rw e)

  module _ (right : bad_kind kind ≡ false) where
    pub after_kind : answer ≡ by_tests (set_tests net k vectors ++ own) file
    unfolding write_answer by_tests
    after_kind = rw right

    pub by_set : (number : ℕ) → set_admission net k vectors ≡ refused number → Refuses number
    by_set number e = owed_refused answer number lent (after_kind ∙ set_refuses net k vectors own file number e)

    module _ (admitted : set_admission net k vectors ≡ full tt) where
      after_set : answer ≡ by_tests own file
      after_set = after_kind ∙ set_admits net k vectors own file admitted

      pub by_row_9 : given responses && bad_response_count (length vectors) (length responses) ≡ true → Refuses 9
      unfolding by_tests
      by_row_9 e = owed_refused answer 9 lent (after_set ∙ rw e)

      module _ (same_count : given responses && bad_response_count (length vectors) (length responses) ≡ false) where
        pub by_row_10 : given responses && has_high_bit net.nets responses ≡ true → Refuses 10
        unfolding by_tests
        by_row_10 e = owed_refused answer 10 lent (after_set ∙ rw (same_count, e))

        module _ (narrow : given responses && has_high_bit net.nets responses ≡ false) where
          pub by_row_12 : no_room (length file) (length lent) ≡ true → Refuses 12
          unfolding by_tests
          by_row_12 e = owed_refused answer 12 lent (after_set ∙ rw (same_count, narrow, e))

          -- where it writes the file, `size` bytes
          pub by_none : no_room (length file) (length lent) ≡ false → (size : ℕ) (list : List ℕ) → size ≡ length file
              → list ≡ lent_after (full file) lent
              → (full size ≡ count_of answer) × (list ≡ lent_after answer lent)
          unfolding by_tests
          by_none e size list s l =
              owed_full answer size file lent list (after_set ∙ rw (same_count, narrow, e)) s l

-- a test of the responses, asked only if there are any
pub asked : (responses : List ℕ) {test result outcome : Bool} → result ≡ test → ltb 0 (length responses) && result ≡ outcome
    → given responses && test ≡ outcome
asked responses e f = ap₂ (λ (a b : Bool). a && b) (sym (given_is responses)) (sym e) ∙ f

-- the test of the room, by the size that the code has
pub tested_room : {size : ℕ} (bytes : List ℕ) (room : ℕ) {result outcome : Bool} → size ≡ length bytes
    → result ≡ no_room size room → result ≡ outcome → no_room (length bytes) room ≡ outcome
tested_room bytes room s e f = ap (λ (n : ℕ). no_room n room) (sym s) ∙ sym e ∙ f

-- the file of the content is that of the call's arguments
pub same_file : (responses : List ℕ) {n kind class k : ℕ} {nets net : Network} {set vectors : List ℕ}
    → n ≡ kind → nets ≡ net → class ≡ k → set ≡ vectors
    → file_of n nets class set responses ≡ file_of kind net k vectors responses
same_file responses a b c d = rw (a, b, c, d)
