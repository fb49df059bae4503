-- Each row's test decides the row, and what rows that do not hold tell.
use Rattle.std.proofs.Common.{◌≡◌, refl, ◌∙◌, Bool, true, false, not, ◌⊎◌, inl, inr, ⊎_elim, ◌≢◌, List, [], ◌∷◌, ◌++◌}
use Rattle.std.proofs.Common.{ℕ, ◌^◌, ◌≤◌, ◌<◌, lt_of_not-le, eq-or-lt_of_le, arith, leb, length}
use lib.Arith.{lt-one}
use Rattle.words.specs.Bits.{at}
use Rattle.words.specs.Answers.{Decides, Decided, NoneHolds, refused, full, by_tests}
use Rattle.words.specs.Searching.{among}
use Rattle.words.proofs.Tests.{cases, decides_less, decides_at_most, decides_equal, decides_or, decides_and, decides_not}
use Rattle.words.proofs.Tests.{test_fails}
use Rattle.words.proofs.Searching.{decides_any, decides_among}
use Rattle.words.proofs.Answers.{decided_append, let_through, first_refuses, first_passes, shared_refuse, shared_pass}
use Rattle.network.specs.declared.Network.{Network}
use Rattle.network.specs.Rows.{HasReceiver, Row21, bad_receivers, ClassRows, class_tests, BoardRows, board_tests}
use Rattle.network.specs.Rows.{VectorRows, vector_tests, NetworkRows, network_tests, network_admission, BadCount, bad_count}
use Rattle.network.specs.Rows.{board_refusal, AdmittedBoard, BoardSetRows, board_set_tests, board_admission}
use Rattle.network.specs.Rows.{NoBit, no_bit, Row5, Row6, Row17, Row20, Row7, HighBit, Row9, Row12, bad_net_count}
use Rattle.network.specs.Rows.{bad_class, bad_level, bad_gate, bad_vector_count, has_high_bit, bad_response_count}
use Rattle.network.specs.Rows.{NamedClass, named_class, no_room, SetRows, set_tests, set_admission}

pub decides_row_5 : (net : Network) → Decides (bad_net_count net) (Row5 net)
decides_row_5 net = decides_or (decides_less net.nets 2) (decides_less 48 net.nets)

pub decides_row_21 : (net : Network) (owners : List ℕ) → Decides (bad_receivers net owners) (Row21 net owners)
unfolding bad_receivers
decides_row_21 net owners =
    decides_or (decides_or (decides_less (length owners) net.nets) (decides_less 64 (length owners)))
    (decides_or
    (decides_any (λ r. leb net.nets (at owners r)) (λ r. net.nets ≤ at owners r) (length owners)
    (λ r. decides_at_most net.nets (at owners r)))
    (decides_any (λ i. not (among i owners)) (λ i. ¬ (HasReceiver owners i)) net.nets
    (λ i. decides_not (decides_among i owners))))

decides_class : (net : Network) (k : ℕ) → Decides (named_class net k) (NamedClass net k)
decides_class net k =
    decides_or (decides_equal k 1)
    (decides_or (decides_equal k 2)
    (decides_or (decides_equal k 3)
    (decides_or (decides_equal k net.nets)
    (decides_and (decides_at_most net.nets 10) (decides_and (decides_at_most 4 k) (decides_less k net.nets))))))

pub decides_row_6 : (net : Network) (k : ℕ) → Decides (bad_class net k) (Row6 net k)
decides_row_6 net k = decides_or (decides_not (decides_class net k)) (decides_less net.nets k)

decides_no_bit : (x : ℕ) → Decides (no_bit x) (NoBit x)
decides_no_bit x = decides_not (decides_or (decides_equal x 0) (decides_equal x 1))

pub decides_row_17 : (net : Network) → Decides (bad_level net) (Row17 net)
decides_row_17 net = decides_no_bit net.level

pub decides_row_20 : (net : Network) → Decides (bad_gate net) (Row20 net)
decides_row_20 net = decides_no_bit net.gate

pub decides_count : (count : ℕ) → Decides (bad_count count) (BadCount count)
decides_count count = decides_or (decides_less count 1) (decides_less 64 count)

pub decides_row_7 : (vectors : List ℕ) → Decides (bad_vector_count vectors) (Row7 vectors)
decides_row_7 vectors = decides_count (length vectors)

pub decides_high_bit : (width : ℕ) (words : List ℕ) → Decides (has_high_bit width words) (HighBit width words)
unfolding has_high_bit
decides_high_bit width words =
    decides_any (λ t. leb (2 ^ width) (at words t)) (λ t. 2 ^ width ≤ at words t) (length words)
    (λ t. decides_at_most (2 ^ width) (at words t))

pub decides_row_9 : (vectors responses : ℕ) → Decides (bad_response_count vectors responses) (Row9 vectors responses)
decides_row_9 vectors responses = decides_not (decides_equal responses vectors)

pub decides_row_12 : (result room : ℕ) → Decides (no_room result room) (Row12 result room)
decides_row_12 result room = decides_less room result

-- ---- what rows that do not hold tell

pub nets_admitted : (net : Network) → ¬ (Row5 net) → (2 ≤ net.nets) × (net.nets ≤ 48)
nets_admitted net h = let low : net.nets < 2 → ⊥ = λ l. h (inl l) in let high : 48 < net.nets → ⊥ = λ l. h (inr l) in
    (omega (arith, low), omega (arith, high))

-- what receivers have that row 21 lets through, and they are all that it asks for
pub record AdmittedReceivers (net : Network) (owners : List ℕ) : Type 0 where
  pub least : net.nets ≤ length owners
  pub most : length owners ≤ 64
  pub owner : (r : ℕ) → r < length owners → at owners r < net.nets
  pub receiver : (i : ℕ) → i < net.nets → HasReceiver owners i

pub receivers_admitted : (net : Network) (owners : List ℕ) → ¬ (Row21 net owners) → AdmittedReceivers net owners
receivers_admitted net owners h =
    let low : length owners < net.nets → ⊥ = λ l. h (inl (inl l)) in
    let high : 64 < length owners → ⊥ = λ l. h (inl (inr l)) in record {
      least = omega (arith, low);
      most = omega (arith, high);
      owner = λ r l. lt_of_not-le (λ e. h (inr (inl (r, l, e))));
      receiver = λ i l. ⊎_elim (decides_among i owners).0
          (λ e. absurd (h (inr (inr (i, l, (decides_among i owners).1 e)))))
          (cases (among i owners));
    }

pub admitted_receivers : (net : Network) (owners : List ℕ) → AdmittedReceivers net owners → ¬ (Row21 net owners)
admitted_receivers net owners a =
    ⊎_elim (⊎_elim (λ l. omega (arith, l, a.least)) (λ l. omega (arith, l, a.most)))
    (⊎_elim (λ w. let l = a.owner w.0 w.1 in omega (arith, l, w.2)) (λ w. w.2 (a.receiver w.0 w.1)))

-- what rows 17 and 20 do not refuse is 0 or 1; these they do not refuse, and a greater number they do
bit_admitted : (x : ℕ) → ¬ (NoBit x) → x ≤ 1
bit_admitted x h = let high : 1 < x → ⊥ = λ l. h (λ r. ⊎_elim (λ e. omega arith) (λ e. omega arith) r) in omega (arith, high)

pub is_bit : (x : ℕ) → x ≤ 1 → ¬ (NoBit x)
is_bit x l other = other (⊎_elim inr (λ m. inl (lt-one m)) (eq-or-lt_of_le l))

pub above_bits : (x : ℕ) → 2 ≤ x → NoBit x
above_bits x high = ⊎_elim (λ e. omega (arith, e, high)) (λ e. omega (arith, e, high))

pub vectors_admitted : (vectors : List ℕ) → ¬ (Row7 vectors) → length vectors ≤ 64
vectors_admitted vectors h = let high : 64 < length vectors → ⊥ = λ l. h (inr l) in omega (arith, high)

pub no_high_bit : (width : ℕ) (words : List ℕ) → ¬ (HighBit width words) → (t : ℕ) → t < length words
    → at words t < 2 ^ width
no_high_bit width words h t l = lt_of_not-le (λ e. h (t, l, e))

-- ---- the rows of a board alone

pub decides_board : (net : Network) (owners : List ℕ) → Decided (BoardRows net owners) (board_tests net owners)
decides_board net owners = (
  refl,
  decides_row_5 net,
  λ _. (refl, decides_row_21 net owners, λ _. (refl, decides_row_17 net, λ _. (refl, decides_row_20 net, λ _. tt))),
)

-- a call that begins with them, where one holds and where none does
module _ (net : Network) (owners : List ℕ) {A : Type 0} (more : List (ℕ × Bool)) (x : A) where
  pub board_refuses : board_refusal net owners ≢ 0
      → by_tests (board_tests net owners ++ more) x ≡ refused (board_refusal net owners)
  board_refuses some = first_refuses more x (board_tests net owners) some

  pub board_admits : board_refusal net owners ≡ 0 → by_tests (board_tests net owners ++ more) x ≡ by_tests more x
  board_admits none =
      first_passes more x (board_tests net owners)
      (λ q. omega (arith, q), (λ q. omega (arith, q), (λ q. omega (arith, q), (λ q. omega (arith, q), tt)))) none

module _ (net : Network) (owners : List ℕ) where
  pub board_admitted : board_refusal net owners ≡ 0 → AdmittedBoard net owners
  unfolding by_tests
  board_admitted e =
      let_through {A = Unit {0}} (BoardRows net owners) (board_tests net owners) tt tt (decides_board net owners)
      (board_admits net owners [] tt e)

  pub admitted_refusal : AdmittedBoard net owners → board_refusal net owners ≡ 0
  admitted_refusal (five, (receivers, (level, (gate, _)))) =
      rw (
        test_fails (decides_row_5 net) five,
        test_fails (decides_row_21 net owners) receivers,
        test_fails (decides_row_17 net) level,
        test_fails (decides_row_20 net) gate,
      )

  -- the receivers of a board that is admitted
  pub receivers_of_board : AdmittedBoard net owners → AdmittedReceivers net owners
  receivers_of_board (_, (receivers, _)) = receivers_admitted net owners receivers

-- ---- rows 5, 6, 17, 20, 7 and 8, and 21

decides_class_rows : {row_6 : Type 0} {test_6 : Bool} → Decides test_6 row_6 → (net : Network)
    → Decided (ClassRows row_6 net) (class_tests test_6 net)
decides_class_rows decides_6 net =
    (refl, decides_6, λ _. (refl, decides_row_17 net, λ _. (refl, decides_row_20 net, λ _. tt)))

decides_vector_rows : (net : Network) (vectors : List ℕ) → Decided (VectorRows net vectors) (vector_tests net vectors)
decides_vector_rows net vectors =
    (refl, decides_row_7 vectors, λ _. (refl, decides_high_bit net.nets vectors, λ _. tt))

-- all but 5
pub decides_class_and_vectors : {row_6 : Type 0} {test_6 : Bool} → Decides test_6 row_6 → (net : Network) (vectors : List ℕ)
    → Decided (ClassRows row_6 net ++ VectorRows net vectors) (class_tests test_6 net ++ vector_tests net vectors)
decides_class_and_vectors {row_6} {test_6} decides_6 net vectors =
    decided_append (ClassRows row_6 net) (VectorRows net vectors) (class_tests test_6 net) (vector_tests net vectors)
    (decides_class_rows decides_6 net) (λ _. decides_vector_rows net vectors)

-- all but 7 and 8
pub decides_network : (net : Network) (k : ℕ) → Decided (NetworkRows net k) (network_tests net k)
decides_network net k = (refl, decides_row_5 net, λ _. decides_class_rows (decides_row_6 net k) net)

pub decides_set : (net : Network) (k : ℕ) (vectors : List ℕ) → Decided (SetRows net k vectors) (set_tests net k vectors)
decides_set net k vectors = (refl, decides_row_5 net, λ _. decides_class_and_vectors (decides_row_6 net k) net vectors)

pub decides_board_set : (net : Network) (owners : List ℕ) (k : ℕ) (vectors : List ℕ)
    → Decided (BoardSetRows net owners k vectors) (board_set_tests net owners k vectors)
decides_board_set net owners k vectors = (
  refl,
  decides_row_5 net,
  λ _. (refl, decides_row_21 net owners, λ _. decides_class_and_vectors (decides_row_6 net k) net vectors),
)

-- a call that takes receivers has tested all that one without them tests
pub set_of_board_set : (net : Network) (owners : List ℕ) (k : ℕ) (vectors : List ℕ)
    → NoneHolds (BoardSetRows net owners k vectors)
    → NoneHolds (SetRows net k vectors)
set_of_board_set net owners k vectors (five, (_, rest)) = (five, rest)

pub receivers_of_board_set : (net : Network) (owners : List ℕ) (k : ℕ) (vectors : List ℕ)
    → NoneHolds (BoardSetRows net owners k vectors)
    → AdmittedReceivers net owners
receivers_of_board_set net owners k vectors (_, (receivers, _)) = receivers_admitted net owners receivers

-- what a test set that they admit has
pub record AdmittedSet (net : Network) (k : ℕ) (vectors : List ℕ) : Type 0 where
  pub two : 2 ≤ net.nets
  pub most : net.nets ≤ 48
  pub class : (k ≤ 3) ⊎ ((k ≡ net.nets) ⊎ (net.nets ≤ 10))
  pub class_positive : 0 < k
  pub class_most : k ≤ net.nets
  pub level_byte : net.level ≤ 1
  pub gate_byte : net.gate ≤ 1
  pub vectors_most : length vectors ≤ 64
  pub narrow : (t : ℕ) → t < length vectors → at vectors t < 2 ^ net.nets

-- the classes that row 6 admits
admitted_class : (net : Network) (k : ℕ) → ¬ (Row6 net k) → NamedClass net k
admitted_class net k h =
    let d = decides_class net k in
    ⊎_elim d.0 (λ e. absurd (h (inl (d.1 e)))) (cases (named_class net k))

pub admitted_set : (net : Network) (k : ℕ) (vectors : List ℕ) → NoneHolds (SetRows net k vectors) → AdmittedSet net k vectors
admitted_set net k vectors (a, (b, (level, (gate, (c, (d, e)))))) =
    let nets = nets_admitted net a in record {
      two = nets.0;
      most = nets.1;
      class = small (admitted_class net k b);
      class_positive = positive nets.0 (admitted_class net k b);
      class_most = at_most (λ l. b (inr l));
      level_byte = bit_admitted net.level level;
      gate_byte = bit_admitted net.gate gate;
      vectors_most = vectors_admitted vectors c;
      narrow = no_high_bit net.nets vectors d;
    }
  where
    small : NamedClass net k → (k ≤ 3) ⊎ ((k ≡ net.nets) ⊎ (net.nets ≤ 10))
    small (inl q) = inl (omega arith)
    small (inr (inl q)) = inl (omega arith)
    small (inr (inr (inl q))) = inl (omega arith)
    small (inr (inr (inr (inl q)))) = inr (inl q)
    small (inr (inr (inr (inr q)))) = inr (inr q.0)

    positive : 2 ≤ net.nets → NamedClass net k → 0 < k
    positive l (inl q) = omega arith
    positive l (inr (inl q)) = omega arith
    positive l (inr (inr (inl q))) = omega arith
    positive l (inr (inr (inr (inl q)))) = omega arith
    positive l (inr (inr (inr (inr q)))) = omega (arith, q.1.0)

    at_most : ¬ (net.nets < k) → k ≤ net.nets
    at_most n = omega (arith, n)

-- a class that is neither n nor one that every board has is of a small board
pub small_board : {net : Network} {k : ℕ} {vectors : List ℕ} → AdmittedSet net k vectors → k ≢ net.nets → 3 < k
    → net.nets ≤ 10
small_board s differ more = ⊎_elim (λ l. omega (arith, l, more)) (⊎_elim (λ e. absurd (differ e)) (λ l. l)) s.class

-- a call by what rows 5, 6, 17 and 20 say
module _ (net : Network) (k : ℕ) {A : Type 0} (more : List (ℕ × Bool)) (x : A) where
  pub network_refuses : (number : ℕ) → network_admission net k ≡ refused number
      → by_tests (network_tests net k ++ more) x ≡ refused number
  network_refuses number e = shared_refuse tt x (network_tests net k) more number e

  pub network_admits : network_admission net k ≡ full tt → by_tests (network_tests net k ++ more) x ≡ by_tests more x
  network_admits e = shared_pass tt x (network_tests net k) more tt e

-- a call that goes on with 7 and 8, and whatever tests these are
module _ (net : Network) (k : ℕ) (seven eight : Bool) (passed : network_admission net k ≡ full tt) where
  abbrev more : List (ℕ × Bool)
  more = (7, seven) ∷ (8, eight) ∷ []

  pub then_row_7 : seven ≡ true → by_tests (network_tests net k ++ more) (tt {0}) ≡ refused 7
  unfolding by_tests
  then_row_7 e = network_admits net k more tt passed ∙ rw e

  pub then_row_8 : seven ≡ false → eight ≡ true → by_tests (network_tests net k ++ more) (tt {0}) ≡ refused 8
  unfolding by_tests
  then_row_8 e f = network_admits net k more tt passed ∙ rw (e, f)

  pub then_none : seven ≡ false → eight ≡ false → by_tests (network_tests net k ++ more) (tt {0}) ≡ full tt
  unfolding by_tests
  then_none e f = network_admits net k more tt passed ∙ rw (e, f)

-- the nets that they admit
pub network_admitted : (net : Network) (k : ℕ) → network_admission net k ≡ full tt → (2 ≤ net.nets) × (net.nets ≤ 48)
network_admitted net k e =
    nets_admitted net (let_through (NetworkRows net k) (network_tests net k) tt tt (decides_network net k) e).0

-- a call on a test set, by what those rows say
module _ (net : Network) (k : ℕ) (vectors : List ℕ) where
  pub set_refuses : {A : Type 0} (more : List (ℕ × Bool)) (x : A) (number : ℕ) → set_admission net k vectors ≡ refused number
      → by_tests (set_tests net k vectors ++ more) x ≡ refused number
  set_refuses more x number e = shared_refuse tt x (set_tests net k vectors) more number e

  pub set_admits : {A : Type 0} (more : List (ℕ × Bool)) (x : A) → set_admission net k vectors ≡ full tt
      → by_tests (set_tests net k vectors ++ more) x ≡ by_tests more x
  set_admits more x e = shared_pass tt x (set_tests net k vectors) more tt e

  pub set_none_holds : set_admission net k vectors ≡ full tt → NoneHolds (SetRows net k vectors)
  set_none_holds e = let_through (SetRows net k vectors) (set_tests net k vectors) tt tt (decides_set net k vectors) e

  pub set_admitted : set_admission net k vectors ≡ full tt → AdmittedSet net k vectors
  set_admitted e = admitted_set net k vectors (set_none_holds e)

-- and a call on receivers too
module _ (net : Network) (owners : List ℕ) (k : ℕ) (vectors : List ℕ) where
  pub board_set_refuses : {A : Type 0} (more : List (ℕ × Bool)) (x : A) (number : ℕ)
      → board_admission net owners k vectors ≡ refused number
      → by_tests (board_set_tests net owners k vectors ++ more) x ≡ refused number
  board_set_refuses more x number e = shared_refuse tt x (board_set_tests net owners k vectors) more number e

  pub board_set_admits : {A : Type 0} (more : List (ℕ × Bool)) (x : A) → board_admission net owners k vectors ≡ full tt
      → by_tests (board_set_tests net owners k vectors ++ more) x ≡ by_tests more x
  board_set_admits more x e = shared_pass tt x (board_set_tests net owners k vectors) more tt e

  pub board_set_none_holds : board_admission net owners k vectors ≡ full tt
      → NoneHolds (BoardSetRows net owners k vectors)
  board_set_none_holds e =
      let_through (BoardSetRows net owners k vectors) (board_set_tests net owners k vectors) tt tt
      (decides_board_set net owners k vectors) e
