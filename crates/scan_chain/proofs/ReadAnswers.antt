-- The answer of *read clocks* by its rows.
use Rattle.std.proofs.Common.{◌≡◌, refl, Bool, false, inr, List, [], ◌∷◌, ℕ, ◌≤◌, ◌<◌, arith, length}
use Rattle.words.specs.Answers.{Answer, ByTable}
use Rattle.words.proofs.Answers.{tests_by_table, decided_append}
use Rattle.network.specs.Rows.{BadCount, Row12, bad_count, no_room}
use Rattle.network.proofs.Rows.{decides_count, decides_row_12}
use Rattle.scan_chain.specs.Scans.{clock_count}
use Rattle.scan_chain.specs.Responses.{responses}
use Rattle.scan_chain.specs.Rows.{Row18, Row19, bad_chain, bad_tdo}
use Rattle.scan_chain.specs.Calls.{NetsRows, nets_tests, ReadRows, read_tests, read_answer}
use Rattle.scan_chain.proofs.ChainRows.{decides_chain, decides_bits}
use Rattle.scan_chain.proofs.WriteAnswers.{decides_nets}

pub count_most : (v : ℕ) → bad_count v ≡ false → v ≤ 64
count_most v e = let high : 64 < v → ⊥ = λ l. (decides_count v).1 e (inr l) in omega (arith, high)

module _ (n : ℕ) (owners : List ℕ) (v L : ℕ) (drivers receivers tdo : List ℕ) (room : ℕ) where
  abbrev answer : Answer (List ℕ)
  answer = read_answer n owners v L drivers receivers tdo room

  abbrev later_tests : List (ℕ × Bool)
  later_tests = (7, bad_count v) ∷ (18, bad_chain 200 n (length owners) L drivers receivers) ∷ (19, bad_tdo v L tdo)
      ∷ (12, no_room v room) ∷ []

  abbrev later_rows : List (ℕ × Type 0)
  later_rows = (7, BadCount v) ∷ (18, Row18 n (length owners) L drivers receivers) ∷ (19, Row19 v L tdo) ∷ (12, Row12 v room) ∷ []

  -- the rows as they are said
  pub read_by_table : ByTable (ReadRows n owners v L drivers receivers tdo room) (λ words. words ≡ responses L receivers v tdo) answer
  unfolding read_answer
  read_by_table =
      tests_by_table (λ words. words ≡ responses L receivers v tdo) (ReadRows n owners v L drivers receivers tdo room)
      (read_tests n owners v L drivers receivers tdo room) (responses L receivers v tdo)
      (decided_append (NetsRows n owners) later_rows (nets_tests n owners) later_tests (decides_nets n owners) (λ _. (
        refl,
        decides_count v,
        λ _. (
          refl,
          decides_chain 200 n (length owners) L drivers receivers,
          λ _. (refl, decides_bits (clock_count v L) tdo, λ _. (refl, decides_row_12 v room, λ _. tt)),
        ),
      ))) (λ _. refl)
