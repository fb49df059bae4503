-- The call *write a job file*: rows 2, 5, 6, 17, 20, 7, 8, 9, 10, 12.
use Rattle.std.specs.Prelude.{ℕ, ◌+◌, ◌*◌, Bool, true, false, not, ◌&&◌, ◌≢◌, List, [], ◌∷◌, ◌++◌, length}
use Rattle.words.specs.Answers.{Answer, by_tests}
use Rattle.network.specs.declared.Network.{Network}
use Rattle.network.specs.Rows.{SetRows, Row9, HighBit, Row12, set_tests, bad_response_count, has_high_bit, no_room}
use Rattle.jobfile.specs.Bytes.{bytes_of, word_bytes}
use Rattle.jobfile.specs.VectorsBody.{VectorsKind, vectors_kind, vectors_bytes}
use Rattle.jobfile.specs.Layout.{mark, bodies_at, nets_bytes, nets_size}

-- kind, offset and length
abbrev pub entry_bytes : ℕ → ℕ → ℕ → List ℕ
entry_bytes kind offset size = kind ∷ bytes_of 4 offset ++ bytes_of 4 size

-- the entry of the responses, if there are any
abbrev pub response_entry : ℕ → List ℕ → List ℕ
response_entry offset [] = []
response_entry offset (word ∷ words) = entry_bytes 3 offset (8 * length (word ∷ words))

abbrev pub entries_for : List ℕ → ℕ
entries_for [] = 2
entries_for (word ∷ words) = 3

-- what stands before the bodies; of the vectors' body it says the kind and the size
abbrev pub head_of : (kind size : ℕ) → (responses : List ℕ) → List ℕ
head_of kind size responses =
    let start = bodies_at (entries_for responses) in
    mark
    ++ entries_for responses
    ∷ entry_bytes 1 start nets_size
    ++ entry_bytes kind (start + nets_size) size
    ++ response_entry (start + nets_size + size) responses

-- the bodies
abbrev pub bodies_of : Network → ℕ → (body responses : List ℕ) → List ℕ
bodies_of net k body responses = nets_bytes net k ++ body ++ word_bytes responses

-- the file of this content, with the vectors' body of this kind
unfoldable pub file_of : ℕ → Network → ℕ → (vectors responses : List ℕ) → List ℕ
file_of kind net k vectors responses =
    let body = vectors_bytes kind net.nets vectors in
    head_of kind (length body) responses ++ bodies_of net k body responses

-- file contents: the kind is neither 2 nor 4
abbrev pub WrongKind : ℕ → Type 0
WrongKind kind = ¬ (VectorsKind kind)

-- with no responses, rows 9 and 10 are not tested
abbrev pub OwnRows : ℕ → Network → ℕ → (vectors responses : List ℕ) → ℕ → List (ℕ × Type 0)
OwnRows kind net k vectors responses room =
    (9, (responses ≢ []) × Row9 (length vectors) (length responses))
    ∷ (10, (responses ≢ []) × HighBit net.nets responses)
    ∷ (12, Row12 (length (file_of kind net k vectors responses)) room)
    ∷ []

abbrev pub WriterRows : ℕ → Network → ℕ → (vectors responses : List ℕ) → ℕ → List (ℕ × Type 0)
WriterRows kind net k vectors responses room = (2, WrongKind kind) ∷ SetRows net k vectors ++ OwnRows kind net k vectors responses room

-- whether there are any responses
abbrev pub given : List ℕ → Bool
given [] = false
given (word ∷ words) = true

abbrev pub own_tests : ℕ → Network → ℕ → (vectors responses : List ℕ) → ℕ → List (ℕ × Bool)
own_tests kind net k vectors responses room =
    (9, given responses && bad_response_count (length vectors) (length responses))
    ∷ (10, given responses && has_high_bit net.nets responses)
    ∷ (12, no_room (length (file_of kind net k vectors responses)) room)
    ∷ []

abbrev pub bad_kind : ℕ → Bool
bad_kind kind = not (vectors_kind kind)

abbrev pub writer_tests : ℕ → Network → ℕ → (vectors responses : List ℕ) → ℕ → List (ℕ × Bool)
writer_tests kind net k vectors responses room = (2, bad_kind kind) ∷ set_tests net k vectors ++ own_tests kind net k vectors responses room

-- the call's answer, computed
unfoldable pub write_answer : ℕ → Network → ℕ → (vectors responses : List ℕ) → ℕ → Answer (List ℕ)
write_answer kind net k vectors responses room = by_tests (writer_tests kind net k vectors responses room) (file_of kind net k vectors responses)
