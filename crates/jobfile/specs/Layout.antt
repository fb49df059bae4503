-- The job file: a mark, a table of entries, and the bodies that the entries name.
use Rattle.std.specs.Prelude.{ℕ, suc, ◌+◌, ◌*◌, ◌-◌, ◌/◌, ◌%◌, ◌<◌, ◌≤◌, ◌≡◌, ◌⊎◌, ◌≢◌, Bool, true, false, not, cond, ◌&&◌, ◌||◌, List, [], ◌∷◌, eqb, ltb, length, take}
use Rattle.words.specs.Bits.{at}
use Rattle.words.specs.Searching.{any}
use Rattle.network.specs.declared.Network.{Network}
use Rattle.network.specs.Reading.{network_with}
use Rattle.jobfile.specs.Bytes.{number_at, words_at}
use Rattle.jobfile.specs.VectorsBody.{net_by_net, lead, vectors_of}

-- `BSJ3`
abbrev pub mark : List ℕ
mark = 66 ∷ 83 ∷ 74 ∷ 51 ∷ []

-- the most bytes of a file
abbrev pub most_bytes : ℕ
most_bytes = 2048

-- the number of entries
abbrev pub entry_count : List ℕ → ℕ
entry_count file = at file 4

-- where entry i of the table stands, and where the bodies begin, with this many entries
abbrev pub entry_at : ℕ → ℕ
entry_at i = 5 + 9 * i

abbrev pub bodies_at : ℕ → ℕ
bodies_at entries = entry_at entries

-- of entry i: its kind, the offset of its body, the body's length
unfoldable pub entry_kind : List ℕ → ℕ → ℕ
entry_kind file i = at file (entry_at i)

unfoldable pub body_offset : List ℕ → ℕ → ℕ
body_offset file i = number_at file (6 + 9 * i) 4

unfoldable pub body_length : List ℕ → ℕ → ℕ
body_length file i = number_at file (10 + 9 * i) 4

-- the kinds that entry i may have: 1, 2 and 3 in order, and in place of 2 also 4
abbrev pub KindAt : ℕ → ℕ → Type 0
KindAt i kind = (kind ≡ suc i) ⊎ ((i ≡ 1) × (kind ≡ 4))

abbrev pub kind_at : ℕ → ℕ → Bool
kind_at i kind = eqb kind (suc i) || (eqb i 1 && eqb kind 4)

-- the nets body, a byte each: n, k, the soft level and the gate
abbrev pub nets_bytes : Network → ℕ → List ℕ
nets_bytes net k = net.nets ∷ k ∷ net.level ∷ net.gate ∷ []

-- how many bytes it has
abbrev pub nets_size : ℕ
nets_size = 4

-- ---- rows 1, 2 and 3

-- file mark: first 4 bytes missing or different
abbrev pub Row1 : List ℕ → Type 0
Row1 file = take 4 file ≢ mark

-- A file of this layout: 2 or 3 entries, their table complete, the kinds 1, 2 or 4, 3 in order, and the bodies
-- after it without gaps, in its order, to the end of the file.
pub record Layout (file : List ℕ) : Type 0 where
  pub size : length file ≤ most_bytes
  pub entries : (entry_count file ≡ 2) ⊎ (entry_count file ≡ 3)
  pub table : bodies_at (entry_count file) ≤ length file
  pub kinds : (i : ℕ) → i < entry_count file → KindAt i (entry_kind file i)
  pub first_body : body_offset file 0 ≡ bodies_at (entry_count file)
  pub no_gaps : (i : ℕ) → suc i < entry_count file → body_offset file (suc i) ≡ body_offset file i + body_length file i
  pub to_the_end : (i : ℕ) → suc i ≡ entry_count file → body_offset file i + body_length file i ≡ length file

-- file contents: over 2,048 bytes, or count, table, kinds, offsets, lengths or end break the layout
abbrev pub Row2 : List ℕ → Type 0
Row2 file = ¬ (Layout file)

-- file bodies: nets body not 4 bytes, or another not a multiple of 8, of kind 4 not 1 byte more than one
abbrev pub Row3 : List ℕ → Type 0
Row3 file = (body_length file 0 ≢ nets_size) ⊎ ((i : ℕ) × (0 < i) × (i < entry_count file) × (body_length file i % 8 ≢ lead (entry_kind file i)))

-- ---- the same as tests

unfoldable pub same_bytes : List ℕ → List ℕ → Bool
same_bytes [] [] = true
same_bytes [] (y ∷ ys) = false
same_bytes (x ∷ xs) [] = false
same_bytes (x ∷ xs) (y ∷ ys) = let rest = same_bytes xs ys in eqb x y && rest

abbrev pub bad_mark : List ℕ → Bool
bad_mark file = not (same_bytes (take 4 file) mark)

-- entry i breaks the layout: its kind, or where its body begins, or where the last body ends
unfoldable pub bad_entry : List ℕ → ℕ → Bool
bad_entry file i =
    let before = cond (eqb i 0) (bodies_at (entry_count file)) (body_offset file (i - 1) + body_length file (i - 1)) in
    let last = eqb (suc i) (entry_count file) && not (eqb (body_offset file i + body_length file i) (length file)) in
    not (kind_at i (entry_kind file i)) || (not (eqb (body_offset file i) before) || last)

unfoldable pub bad_layout : List ℕ → Bool
bad_layout file =
    let entry = any (entry_count file) (bad_entry file) in
    let table = ltb (length file) (bodies_at (entry_count file)) in
    let count = not (eqb (entry_count file) 2 || eqb (entry_count file) 3) in
    ltb most_bytes (length file) || (count || (table || entry))

unfoldable pub bad_bodies : List ℕ → Bool
bad_bodies file =
    let words = any (entry_count file) (λ i. ltb 0 i && not (eqb (body_length file i % 8) (lead (entry_kind file i)))) in
    not (eqb (body_length file 0) nets_size) || words

-- ---- the content

-- byte i of the nets body
abbrev pub nets_byte : List ℕ → ℕ → ℕ
nets_byte file i = at file (body_offset file 0 + i)

unfoldable pub file_network : List ℕ → Network
file_network file = network_with (nets_byte file 0) (nets_byte file 2) (nets_byte file 3)

unfoldable pub file_class : List ℕ → ℕ
file_class file = nets_byte file 1

-- the words of body i
unfoldable pub body_words : List ℕ → ℕ → List ℕ
body_words file i = words_at file (body_offset file i + lead (entry_kind file i)) (body_length file i / 8)

-- of the vectors: the kind of their body, how many they are, and the vectors themselves
abbrev pub file_kind : List ℕ → ℕ
file_kind file = entry_kind file 1

unfoldable pub file_count : List ℕ → ℕ
file_count file = cond (net_by_net (file_kind file)) (at file (body_offset file 1)) (length (body_words file 1))

unfoldable pub file_vectors : List ℕ → List ℕ
file_vectors file = vectors_of (file_kind file) (file_count file) (body_words file 1)

abbrev pub has_responses : List ℕ → Bool
has_responses file = eqb (entry_count file) 3

unfoldable pub file_responses : List ℕ → List ℕ
file_responses file = let words = body_words file 2 in cond (has_responses file) words []
