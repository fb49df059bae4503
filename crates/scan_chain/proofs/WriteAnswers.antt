-- The answer of *write clocks* by its rows.
use Rattle.std.proofs.Common.{◌≡◌, refl, sym, Bool, false, List, [], ◌∷◌, ℕ, length}
use Rattle.words.specs.Answers.{Answer, Decided, ByTable, refused, by_tests}
use Rattle.words.proofs.Answers.{tests_by_table, none_passed, decided_append}
use Rattle.std.specs.Prelude.{Result, Ok, Err, IfOk, IfErr}
use Rattle.network.specs.declared.refusal.Refusal.{Refusal}
use Rattle.network.specs.Refusing.{row_number, admission_of}
use Rattle.network.specs.Reading.{network_of}
use Rattle.network.specs.Rows.{Row7, HighBit, Row12, bad_vector_count, has_high_bit, no_room}
use Rattle.network.specs.Rows.{bad_net_count, bad_receivers, board_tests, board_only_admission}
use Rattle.network.proofs.Rows.{decides_row_5, decides_row_21, decides_row_7, decides_high_bit, decides_row_12}
use Rattle.scan_chain.specs.Scans.{clock_count, all_zero, clocks}
use Rattle.scan_chain.specs.Rows.{Row18, bad_chain}
use Rattle.scan_chain.specs.Calls.{NetsRows, nets_tests, nets_admission, WriteRows, write_tests, write_answer}
use Rattle.scan_chain.proofs.ChainRows.{decides_chain}

-- ---- rows 5 and 21

pub decides_nets : (n : ℕ) (owners : List ℕ) → Decided (NetsRows n owners) (nets_tests n owners)
decides_nets n owners = (refl, decides_row_5 (network_of n), λ _. (refl, decides_row_21 (network_of n) owners, λ _. tt))

-- what they say of a board, from what all the rows of a board say, since a network of n nets has a level and a gate
module _ (n : ℕ) (owners : List ℕ) where
  pub owners_admitted : {A : Type 0} (r : Result A Refusal) → admission_of r ≡ board_only_admission (network_of n) owners
      → IfOk r (λ _. (bad_net_count (network_of n) ≡ false) × (bad_receivers (network_of n) owners ≡ false))
  owners_admitted (Ok x) e =
      let passed = none_passed (board_tests (network_of n) owners) tt tt (sym e) in (passed.0.0, passed.0.1.0)
  owners_admitted (Err refusal) e = tt

  pub owners_refused : {A : Type 0} (r : Result A Refusal) → admission_of r ≡ board_only_admission (network_of n) owners
      → IfErr r (λ refusal. refused (row_number refusal) ≡ nets_admission n owners)
  unfolding by_tests
  owners_refused (Ok x) e = tt
  owners_refused (Err refusal) e = e

-- ---- the answer by its rows

module _ (n : ℕ) (owners vectors : List ℕ) (L : ℕ) (drivers receivers : List ℕ) (room : ℕ) where
  abbrev answer : Answer (List ℕ)
  answer = write_answer n owners vectors L drivers receivers room

  abbrev later_tests : List (ℕ × Bool)
  later_tests = (7, bad_vector_count vectors) ∷ (8, has_high_bit n vectors)
      ∷ (18, bad_chain 200 n (length owners) L drivers receivers) ∷ (12, no_room (clock_count (length vectors) L) room) ∷ []

  abbrev later_rows : List (ℕ × Type 0)
  later_rows = (7, Row7 vectors) ∷ (8, HighBit n vectors) ∷ (18, Row18 n (length owners) L drivers receivers)
      ∷ (12, Row12 (clock_count (length vectors) L) room) ∷ []

  -- the rows as they are said
  pub write_by_table : ByTable (WriteRows n owners vectors L drivers receivers room)
      (λ bytes. bytes ≡ clocks L drivers all_zero vectors) answer
  unfolding write_answer
  write_by_table =
      tests_by_table (λ bytes. bytes ≡ clocks L drivers all_zero vectors) (WriteRows n owners vectors L drivers receivers room)
      (write_tests n owners vectors L drivers receivers room) (clocks L drivers all_zero vectors)
      (decided_append (NetsRows n owners) later_rows (nets_tests n owners) later_tests (decides_nets n owners) (λ _. (
        refl,
        decides_row_7 vectors,
        λ _. (
          refl,
          decides_high_bit n vectors,
          λ _. (
            refl,
            decides_chain 200 n (length owners) L drivers receivers,
            λ _. (refl, decides_row_12 (clock_count (length vectors) L) room, λ _. tt),
          ),
        ),
      ))) (λ _. refl)
