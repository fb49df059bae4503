-- What a call answers, and what it leaves in the list lent to it, where a `?` ends it with the refusal of a row.
use Rattle.std.proofs.Common.{ℕ, List, ◌≡◌, true, Bool, Result}
use Rattle.std.proofs.lemmas.Result.{err_from_is_err_and}
use Rattle.std.specs.Result.{IsErrAnd}
use Rattle.words.specs.Answers.{Answer, refused, count_of, lent_after}
use Rattle.words.proofs.Answers.{owed_refused}
use Rattle.network.specs.declared.refusal.Refusal.{Refusal}
use Rattle.network.specs.Refusing.{row_number, answer_of}

-- `exit` says which refusal the `?` passes on, `rows` that the rows refuse so
pub refused_exit : {A : Type 0} (result : Result ℕ Refusal) (refusal : Refusal) (answer : Answer (List A)) (lent : List A)
    → IsErrAnd result (λ given. given ≡ refusal)
    → answer ≡ refused (row_number refusal)
    → (answer_of result ≡ count_of answer) × (lent ≡ lent_after answer lent)
refused_exit result refusal answer lent exit rows =
    let given = err_from_is_err_and result exit in
    let owed = owed_refused answer (row_number refusal) lent rows in
    (rw (given.1, given.2) owed.0, owed.1)

-- the same after `refuse_if`, whose test passed
pub row_exit : {A : Type 0} (result : Result ℕ Refusal) (refusal : Refusal) {row : Refusal} {test : Bool} (answer : Answer (List A))
    (lent : List A)
    → IsErrAnd result (λ given. given ≡ refusal)
    → (refusal ≡ row) × (test ≡ true)
    → (test ≡ true → answer ≡ refused (row_number row))
    → (answer_of result ≡ count_of answer) × (lent ≡ lent_after answer lent)
row_exit result refusal answer lent exit why rows = refused_exit result refusal answer lent exit (rw why.0 (rows why.1))
