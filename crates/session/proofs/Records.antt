-- Laws of the session's record: what the tests say of the records that accepted calls leave, and of any other record.
use Rattle.std.proofs.Common.{◌≡◌, ◌≢◌, refl, sym, ap, ap₂, ◌∙◌, Bool, true, false, not, ◌&&◌, List, [], ◌∷◌, ◌++◌, ℕ}
use Rattle.std.proofs.Common.{zero, suc, ◌-◌, ◌≤◌, ◌<◌, ◌↔◌, arith, length, get_or, take, drop, replicate}
use Rattle.std.proofs.Common.{length-drop, length-take-le, ⊎_elim, le_refl, eqb, leb, take-append-drop, take_all}
use Rattle.std.proofs.Common.{ext_get_or, take_at, drop_at, eqb-true, eq-eqb, ne_eqb, leb-true, le-leb}
use Rattle.std.specs.Prelude.{Result, Ok, Err, IfOk, MatchOption}
use Rattle.std.specs.Result.{result_ok}
use lib.ListN.{length-replicate, get_or-replicate}
use borrow.Author.Tests.{eqb-false, not-true, not-false}
use Rattle.words.specs.Bits.{at}
use Rattle.words.specs.Searching.{any}
use Rattle.words.specs.Answers.{by_tests}
use Rattle.words.proofs.Answers.{refused_not_full}
use Rattle.words.proofs.Tests.{cases, contrary, same_truth, and_left, and_right, and_both, and_false}
use Rattle.words.proofs.Searching.{any_at, any_none, any_false}
use Rattle.network.specs.declared.Network.{Network}
use Rattle.network.specs.declared.admitting.Board.{Board}
use Rattle.network.specs.declared.refusal.Refusal.{Refusal}
use Rattle.network.specs.Refusing.{admission_of}
use Rattle.network.specs.Rows.{AdmittedBoard, board_refusal, board_only_admission, has_high_bit}
use Rattle.network.proofs.Rows.{board_admits, board_admitted, admitted_refusal, nets_admitted, receivers_of_board}
use Rattle.steps.specs.FirstStep.{word_length}
use Rattle.steps.specs.SecondStep.{unclear, second_vectors}
use Rattle.steps.proofs.StepOneWords.{length_bounds}
use Rattle.steps.proofs.StepTwoVectors.{second_empty}
use Rattle.session.specs.declared.Session.{Session}
use Rattle.session.specs.Record.{board_held, first_answers_held, pad, awaiting_first, awaiting_second, is_zeros}
use Rattle.session.specs.Record.{all_hold, held_owners, held_answers, awaits_first, awaits_second}
use Rattle.session.proofs.Padding.{pad_size}

-- ---- words that are all 0

pub zeros_hold : (size : ℕ) (words : List ℕ) → length words ≡ size → ((i : ℕ) → i < length words → at words i ≡ 0)
    → is_zeros size words ≡ true
unfolding is_zeros
zeros_hold size words e h =
    let none : any (length words) (λ i. not (eqb (at words i) 0)) ≡ false =
    any_none _ (length words) (λ i l. ap not (eq-eqb _ _ (h i l))) in
    and_both (eq-eqb _ _ e) (ap not none)

pub zeros_fail : (size : ℕ) (words : List ℕ) (i : ℕ) → i < length words → at words i ≢ 0 → is_zeros size words ≡ false
unfolding is_zeros
zeros_fail size words i l n =
    let some : any (length words) (λ z. not (eqb (at words z) 0)) ≡ true = any_at _ (length words) i l (ap not (ne_eqb _ _ n)) in
    rw some (and_false (eqb (length words) size))

zeros_size : (size : ℕ) (words : List ℕ) → is_zeros size words ≡ true → length words ≡ size
unfolding is_zeros
zeros_size size words e = eqb-true _ _ (and_left (eqb (length words) size) _ e)

zeros_at : (size : ℕ) (words : List ℕ) → is_zeros size words ≡ true → (i : ℕ) → i < length words → at words i ≡ 0
unfolding is_zeros
zeros_at size words e i l =
    eqb-true _ _ (not-false _
    (any_false (λ z. not (eqb (at words z) 0)) (length words) i l
    (not-true _ (and_right (eqb (length words) size) _ e))))

-- they are a list of zeros, and a list of zeros is such
zeros_are : (size : ℕ) (words : List ℕ) → is_zeros size words ≡ true → words ≡ replicate size 0
zeros_are size words e =
    ext_get_or 0 words (replicate size 0) (zeros_size size words e ∙ sym (length-replicate {A = ℕ} size 0))
    (λ i l. zeros_at size words e i l ∙ sym (get_or-replicate {A = ℕ} size i 0 0 (rw (zeros_size size words e) at l)))

zeros_of : (size : ℕ) → is_zeros size (replicate size 0) ≡ true
zeros_of size =
    zeros_hold size (replicate size 0) (length-replicate {A = ℕ} size 0)
    (λ i l. get_or-replicate {A = ℕ} size i 0 0 (rw (length-replicate {A = ℕ} size 0) at l))

-- told by a test of the whole list
pub zeros_by : (size : ℕ) (words : List ℕ) {b d : Bool} → length words ≡ size → b ≡ is_zeros (length words) words
    → b ≡ d → is_zeros size words ≡ d
zeros_by size words e h f = ap (λ (n : ℕ). is_zeros n words) (sym e) ∙ sym h ∙ f

-- told by a test of the words from p on
pub zeros_after : (size : ℕ) (words : List ℕ) (p q : ℕ) {b d : Bool} → length words ≡ size → p ≡ q
    → b ≡ is_zeros (length (take (size - p) (drop p words))) (take (size - p) (drop p words)) → b ≡ d
    → is_zeros (size - q) (drop q words) ≡ d
zeros_after size words p q sized same h f =
    let left : length (drop q words) ≡ size - q = length-drop q words ∙ ap (λ (n : ℕ). n - q) sized in
    let whole : take (size - p) (drop p words) ≡ drop q words =
    rw same (take_all (size - q) (drop q words) (rw left (le_refl (size - q)))) in
    zeros_by (size - q) (drop q words) left (rw whole at h) f

-- ---- tests one by one

pub and_true : (b : Bool) → b && true ≡ b
and_true true = refl
and_true false = refl

-- where all tests hold, the test at an index does
hold_at : (i : ℕ) (tests : List Bool) → all_hold tests ≡ true → get_or tests i true ≡ true
unfolding all_hold
hold_at i [] e = refl
hold_at zero (test ∷ tests) e = and_left test _ e
hold_at (suc i) (test ∷ tests) e = hold_at i tests (and_right test _ e)

-- where one fails, not all hold
pub fails_at : (i : ℕ) (tests : List Bool) → get_or tests i true ≡ false → all_hold tests ≡ false
fails_at i tests e = ⊎_elim (λ all. contrary (hold_at i tests all) e) (λ f. f) (cases (all_hold tests))

-- five tests, the second last
pub second_last : (a b c d e : Bool) → all_hold (a ∷ b ∷ c ∷ d ∷ e ∷ []) ≡ (a && (c && (d && e))) && b
unfolding all_hold
second_last false b c d e = refl
second_last true false false d e = refl
second_last true false true false e = refl
second_last true false true true false = refl
second_last true false true true true = refl
second_last true true false d e = refl
second_last true true true false e = refl
second_last true true true true false = refl
second_last true true true true true = refl

-- five tests, the second and the third last
pub middle_last : (a b c d e : Bool) → all_hold (a ∷ b ∷ c ∷ d ∷ e ∷ []) ≡ (a && (d && e)) && (b && c)
unfolding all_hold
middle_last false b c d e = refl
middle_last true false c false e = refl
middle_last true false c true false = refl
middle_last true false c true true = refl
middle_last true true false false e = refl
middle_last true true false true false = refl
middle_last true true false true true = refl
middle_last true true true false e = refl
middle_last true true true true false = refl
middle_last true true true true true = refl

-- a list of zeros, told entry by entry
pub zeros_told : (words : List ℕ) (b : Bool) → (b ≡ true ↔ ((i : ℕ) → i < length words → at words i ≡ 0))
    → b ≡ is_zeros (length words) words
zeros_told words b e =
    same_truth b (is_zeros (length words) words) (λ t. zeros_hold (length words) words refl (e.0 t))
    (λ t. e.1 (zeros_at (length words) words t))

-- ---- a board that a record holds

pub owners_front : (owners : List ℕ) → take (length owners) (pad 64 owners) ≡ owners
owners_front owners = take_at owners (replicate (64 - length owners) 0) (length owners) refl

board_of : (net : Network) (owners : List ℕ) → AdmittedBoard net owners
    → board_held net (length owners) (pad 64 owners) ≡ true
unfolding all_hold
board_of net owners h =
    let few : length owners ≤ 64 = (receivers_of_board net owners h).most in
    let rest : drop (length owners) (pad 64 owners) ≡ replicate (64 - length owners) 0 =
    drop_at owners (replicate (64 - length owners) 0) (length owners) refl in
    rw (
      le-leb _ _ few,
      eq-eqb _ _ (pad_size 64 owners few),
      rest,
      zeros_of (64 - length owners),
      owners_front owners,
      admitted_refusal net owners h,
    )

pub record HeldBoard (net : Network) (receivers : ℕ) (owners : List ℕ) : Type 0 where
  pub few : receivers ≤ 64
  pub room : receivers ≤ length owners
  pub count : length (take receivers owners) ≡ receivers
  pub padded : owners ≡ pad 64 (take receivers owners)
  pub admitted : AdmittedBoard net (take receivers owners)

pub board_is : (net : Network) (receivers : ℕ) (owners : List ℕ) → board_held net receivers owners ≡ true
    → HeldBoard net receivers owners
board_is net receivers owners e = record {
  few = few;
  room = room;
  count = count;
  padded = sym (take-append-drop receivers owners) ∙ ap (λ (r : List ℕ). take receivers owners ++ r) rest;
  admitted = board_admitted net (take receivers owners) (eqb-true _ 0 (hold_at 3 _ e));
}
  where
    few : receivers ≤ 64
    few = leb-true receivers 64 (hold_at 0 _ e)

    room : receivers ≤ length owners
    room = omega (arith, few, eqb-true (length owners) 64 (hold_at 1 _ e))

    count : length (take receivers owners) ≡ receivers
    count = length-take-le receivers owners room

    rest : drop receivers owners ≡ replicate (64 - length (take receivers owners)) 0
    rest = zeros_are (64 - receivers) _ (hold_at 2 _ e) ∙ ap (λ (n : ℕ). replicate (64 - n) 0) (sym count)

-- told by the rows of a board, where the other tests hold
pub held_told : (net : Network) (receivers : ℕ) (owners : List ℕ) → receivers ≤ 64 → length owners ≡ 64
    → is_zeros (64 - receivers) (drop receivers owners) ≡ true → (r : Result Board Refusal)
    → admission_of r ≡ board_only_admission net (take receivers owners)
    → IfOk r (λ board. (board.nets.network ≡ net) × (board.receivers.now ≡ take receivers owners))
    → MatchOption (result_ok r) (board_held net receivers owners ≡ false)
    (λ board. (board_held net receivers owners ≡ true)
    × (board.nets.network ≡ net) × (board.receivers.now ≡ take receivers owners))
unfolding all_hold by_tests
held_told net receivers owners few size zeros (Ok board) rows same =
    let none : board_refusal net (take receivers owners) ≡ 0 =
    admitted_refusal net (take receivers owners) (rw (same.0, same.1) at board.admitted) in
    (rw (le-leb _ _ few, eq-eqb _ _ size, zeros, none), same.0, same.1)
held_told net receivers owners few size zeros (Err refusal) rows same =
    fails_at 3
    (leb receivers 64 ∷ eqb (length owners) 64 ∷ is_zeros (64 - receivers) (drop receivers owners)
    ∷ eqb (board_refusal net (take receivers owners)) 0
    ∷ [])
    (ne_eqb _ _ (λ none. refused_not_full (sym rows)
    (board_admits net (take receivers owners) [] tt none)))

-- ---- a record that waits for first answers

pub awaits_first_of : (net : Network) (owners : List ℕ) → AdmittedBoard net owners
    → awaits_first (awaiting_first net owners) ≡ true
unfolding awaits_first all_hold
awaits_first_of net owners h =
    let board : board_held net (length owners) (pad 64 owners) ≡ true = board_of net owners h in
    rw (board, zeros_of 8, zeros_of 64)

-- the tests of a board last
pub awaits_first_parts : (s : Session) → awaits_first s
    ≡ (eqb s.step 1 && (is_zeros 8 s.first && (is_zeros 64 s.reaches && eqb s.spent 0)))
    && board_held s.network s.receivers s.owners
unfolding awaits_first
awaits_first_parts s = second_last _ _ _ _ _

module _ (s : Session) (e : awaits_first s ≡ true) where
  pub awaits_first_step : s.step ≡ 1
  unfolding awaits_first
  awaits_first_step = eqb-true s.step 1 (hold_at 0 _ e)

  pub awaits_first_board : HeldBoard s.network s.receivers s.owners
  unfolding awaits_first
  awaits_first_board = board_is s.network s.receivers s.owners (hold_at 1 _ e)

  pub awaits_first_is : (s ≡ awaiting_first s.network (held_owners s)) × AdmittedBoard s.network (held_owners s)
  unfolding awaits_first
  awaits_first_is = (
    λ j. record {
      step = awaits_first_step j;
      network = s.network;
      receivers = sym awaits_first_board.count j;
      owners = awaits_first_board.padded j;
      first = zeros_are 8 s.first (hold_at 2 _ e) j;
      reaches = zeros_are 64 s.reaches (hold_at 3 _ e) j;
      spent = eqb-true s.spent 0 (hold_at 4 _ e) j;
    },
    awaits_first_board.admitted,
  )

-- ---- a record that waits for second answers

pub held_of : (net : Network) (owners answers : List ℕ) → length answers ≡ word_length net
    → held_answers (awaiting_second net owners answers) ≡ answers
held_of net owners answers e = take_at answers (replicate (8 - length answers) 0) (word_length net) e

pub awaits_second_of : (net : Network) (owners answers : List ℕ) → AdmittedBoard net owners
    → length answers ≡ word_length net
    → word_length net ≤ 8
    → has_high_bit (length owners) answers ≡ false → length (unclear net owners answers) ≢ 0
    → awaits_second (awaiting_second net owners answers) ≡ true
unfolding awaits_second all_hold
awaits_second_of net owners answers h e l high some =
    let board : board_held net (length owners) (pad 64 owners) ≡ true = board_of net owners h in
    let size : length (pad 8 answers) ≡ 8 = pad_size 8 answers (omega arith) in
    let rest : drop (word_length net) (pad 8 answers) ≡ replicate (8 - word_length net) 0 =
    drop_at answers (replicate (8 - length answers) 0) (word_length net) e ∙ ap (λ (n : ℕ). replicate (8 - n) 0) e
    in
    rw (
      board,
      owners_front owners,
      eq-eqb _ _ size,
      rest,
      zeros_of (8 - word_length net),
      held_of net owners answers e,
      high,
      ne_eqb _ _ some,
      zeros_of 64,
    )

pub record WaitsForSecond (s : Session) : Type 0 where
  pub is : s ≡ awaiting_second s.network (held_owners s) (held_answers s)
  pub board : HeldBoard s.network s.receivers s.owners
  pub one_a_vector : length (held_answers s) ≡ word_length s.network
  pub no_high_bit : has_high_bit (length (held_owners s)) (held_answers s) ≡ false
  pub some_unclear : length (unclear s.network (held_owners s) (held_answers s)) ≢ 0

-- the tests of a board and of first answers last
pub awaits_second_parts : (s : Session) → awaits_second s
    ≡ (eqb s.step 2 && (is_zeros 64 s.reaches && eqb s.spent 0))
    && (board_held s.network s.receivers s.owners && first_answers_held s.network (held_owners s) s.first)
unfolding awaits_second
awaits_second_parts s = middle_last _ _ _ _ _

-- told by the board that it holds, and by p, the length of the words
module _ (s : Session) (board : Board) (net_is : board.nets.network ≡ s.network)
    (owners_are : board.receivers.now ≡ held_owners s)
    (held : board_held s.network s.receivers s.owners ≡ true) (p : ℕ) (p_is : p ≡ word_length board.nets.network) where
  pub length_told : p ≡ word_length s.network
  length_told = p_is ∙ ap word_length net_is

  pub answers_told : take p s.first ≡ held_answers s
  answers_told = ap (λ (n : ℕ). take n s.first) length_told

  pub short_told : p ≤ 8
  short_told = rw p_is (length_bounds board.nets.network board.two board.nets.few).1

  pub owners_count : length board.receivers.now ≡ s.receivers
  owners_count = ap length owners_are ∙ (board_is s.network s.receivers s.owners held).count

  pub high_told : {test : Bool} → test ≡ has_high_bit s.receivers (take p s.first)
      → has_high_bit (length (held_owners s)) (held_answers s) ≡ test
  high_told told =
      ap₂ has_high_bit (board_is s.network s.receivers s.owners held).count (sym answers_told) ∙ sym told

  pub vectors_told : {vectors : List ℕ} → vectors ≡ second_vectors board.nets.network board.receivers.now (take p s.first)
      → vectors ≡ second_vectors s.network (held_owners s) (held_answers s)
  vectors_told e =
      e ∙ ap₂ (λ (net : Network) (owners : List ℕ). second_vectors net owners (take p s.first)) net_is owners_are
      ∙ ap (second_vectors s.network (held_owners s)) answers_told

  pub unclear_told : {vectors : List ℕ} {test : Bool}
      → vectors ≡ second_vectors board.nets.network board.receivers.now (take p s.first) → test ≡ eqb (length vectors) 0
      → eqb (length (unclear s.network (held_owners s) (held_answers s))) 0 ≡ test
  unclear_told e told =
      sym (second_empty s.network (held_owners s) (held_answers s))
      ∙ ap (λ (vectors : List ℕ). eqb (length vectors) 0) (sym (vectors_told e)) ∙ sym told

-- all its tests of first answers hold
pub answers_hold : (net : Network) (owners first : List ℕ) → length first ≡ 8
    → is_zeros (8 - word_length net) (drop (word_length net) first) ≡ true
    → has_high_bit (length owners) (take (word_length net) first) ≡ false
    → eqb (length (unclear net owners (take (word_length net) first))) 0 ≡ false
    → first_answers_held net owners first ≡ true
unfolding all_hold
answers_hold net owners first size zeros narrow some = rw (eq-eqb _ _ size, zeros, narrow, some)

module _ (s : Session) (e : awaits_second s ≡ true) where
  pub awaits_second_step : s.step ≡ 2
  unfolding awaits_second
  awaits_second_step = eqb-true s.step 2 (hold_at 0 _ e)

  pub awaits_second_board : HeldBoard s.network s.receivers s.owners
  unfolding awaits_second
  awaits_second_board = board_is s.network s.receivers s.owners (hold_at 1 _ e)

  -- the tests of the first answers held
  tests_held : first_answers_held s.network (held_owners s) s.first ≡ true
  unfolding awaits_second
  tests_held = hold_at 2 _ e

  pub awaits_second_is : WaitsForSecond s
  unfolding awaits_second
  awaits_second_is = record {
    is = λ j. record {
      step = awaits_second_step j;
      network = s.network;
      receivers = sym awaits_second_board.count j;
      owners = awaits_second_board.padded j;
      first = padded j;
      reaches = zeros_are 64 s.reaches (hold_at 3 _ e) j;
      spent = eqb-true s.spent 0 (hold_at 4 _ e) j;
    };
    board = awaits_second_board;
    one_a_vector = size;
    no_high_bit = not-true _ (hold_at 2 _ tests_held);
    some_unclear = eqb-false _ 0 (not-true _ (hold_at 3 _ tests_held));
  }
    where
      bounds : (2 ≤ word_length s.network) × (word_length s.network ≤ 8)
      bounds =
          let nets = nets_admitted s.network awaits_second_board.admitted.0 in
          length_bounds s.network nets.0 nets.1

      eight : length s.first ≡ 8
      eight = eqb-true _ 8 (hold_at 0 _ tests_held)

      size : length (held_answers s) ≡ word_length s.network
      size = length-take-le (word_length s.network) s.first (omega (arith, eight, bounds.1))

      rest : drop (word_length s.network) s.first ≡ replicate (8 - length (held_answers s)) 0
      rest = zeros_are (8 - word_length s.network) _ (hold_at 1 _ tests_held) ∙ ap (λ (n : ℕ). replicate (8 - n) 0) (sym size)

      padded : s.first ≡ pad 8 (held_answers s)
      padded = sym (take-append-drop (word_length s.network) s.first) ∙ ap (λ (r : List ℕ). held_answers s ++ r) rest
