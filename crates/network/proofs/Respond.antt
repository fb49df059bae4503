-- The call *response from a state* answers as its rows and its result say, and nothing is left open.
use Rattle.std.proofs.Common.{◌≡◌, refl, List, ℕ, length}
use Rattle.words.specs.Answers.{Answer, ByTable}
use Rattle.words.proofs.Answers.{decided_append, tests_by_table, table_determined}
use Rattle.network.specs.declared.Network.{Network}
use Rattle.network.specs.Reading.{response, Response}
use Rattle.network.specs.Rows.{BoardSetRows, board_set_tests}
use Rattle.network.specs.Respond.{OwnRows, ResponseRows, own_tests, response_tests, response_answer}
use Rattle.network.proofs.Reading.{response_is, response_determined}
use Rattle.network.proofs.States.{decides_not_a_state}
use Rattle.network.proofs.Rows.{decides_board_set, decides_row_12}

module _ (net : Network) (owners : List ℕ) (k : ℕ) (vectors state : List ℕ) (room : ℕ) where
  pub response_by_table : ByTable (ResponseRows net owners k vectors state room) (Response net state vectors)
      (response_answer net owners k vectors state room)
  unfolding response_answer
  response_by_table =
      tests_by_table (Response net state vectors) (ResponseRows net owners k vectors state room)
      (response_tests net owners k vectors state room) (response net state vectors)
      (decided_append (BoardSetRows net owners k vectors) (OwnRows net (length owners) k vectors state room)
      (board_set_tests net owners k vectors)
      (own_tests net (length owners) k vectors state room) (decides_board_set net owners k vectors)
      (λ _. (
        refl,
        decides_not_a_state net (length owners) k state,
        λ _. (refl, decides_row_12 (length vectors) room, λ _. tt),
      )))
      (λ _. response_is net state vectors)

  pub response_answer_determined : (a b : Answer (List ℕ))
      → ByTable (ResponseRows net owners k vectors state room) (Response net state vectors) a
      → ByTable (ResponseRows net owners k vectors state room) (Response net state vectors) b → a ≡ b
  response_answer_determined a b =
      table_determined (Response net state vectors) (ResponseRows net owners k vectors state room) a b
      (λ _ x y. response_determined net state vectors x y)
