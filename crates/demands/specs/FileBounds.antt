-- Job files of kind 2 on both sides of each bound of the reader's rows, and calls of the writer for kind 2 on both
-- sides of each bound of its own but row 2. Each is worked out by hand from documents 01 and 02; none is a program's
-- output. Where no level is said it is 1, where no gate is said it is OR.
use Rattle.std.specs.Prelude.{ℕ, ◌+◌, ◌*◌, ◌-◌, ◌^◌, ◌≡◌, List, [], ◌∷◌, ◌++◌, take, drop, replicate}
use Rattle.words.specs.Answers.{Answer, refused, full}
use Rattle.network.specs.declared.Network.{Network}
use Rattle.network.specs.Reading.{network_with, wired_or, wired_and, network_of}
use Rattle.reader.specs.Reader.{JobContent, read_answer}
use Rattle.writer.specs.Writer.{write_answer}
use Rattle.demands.specs.Starred.{four}
use Rattle.demands.specs.FileExamples.{text, start, entry, nets_body, nets_length, after_two, after_three}
use Rattle.demands.specs.FileExamples.{set_file_of, job_file, set_file}

-- *read a job file* with room for 5 words in either list
abbrev pub read : List ℕ → Answer JobContent
read file = read_answer file 5 5

-- the answer with this content, of a network and of n nets
abbrev pub holds_of : Network → ℕ → (vectors responses : List ℕ) → Answer JobContent
holds_of net k vectors responses = full (record { network = net; class = k; kind = 2; vectors = vectors; responses = responses })

abbrev pub holds : (n k : ℕ) → (vectors responses : List ℕ) → Answer JobContent
holds n k vectors responses = holds_of (network_of n) k vectors responses

-- n = k = 4 and a vector 0, without responses (35 bytes) and with the response 0 (52 bytes)
abbrev pub one_vector : List ℕ
one_vector = set_file 4 4 (0 ∷ [])

abbrev pub one_response : List ℕ
one_response = job_file 4 4 (0 ∷ []) (0 ∷ [])

-- the first again, of any level and gate
abbrev pub gate_file : (level gate : ℕ) → List ℕ
gate_file level gate = set_file_of (network_with 4 level gate) 4 (0 ∷ [])

-- the nets body with n = k = 4
abbrev pub four_body : List ℕ
four_body = nets_body four 4

-- these entries, then bodies with n = k = 4 and the vector 0, and with the response 0
abbrev pub with_two : (first second : List ℕ) → List ℕ
with_two first second = start 2 ++ first ++ second ++ four_body ++ replicate 8 0

abbrev pub with_three : (first second third : List ℕ) → List ℕ
with_three first second third = start 3 ++ first ++ second ++ third ++ four_body ++ replicate 16 0

-- a table of two entries, then this many bytes for each body: of the nets body with n = k = 4 and a 0 after it, and of
-- zeros
abbrev pub two_bodies : (nets vectors : ℕ) → List ℕ
two_bodies nets vectors =
    start 2 ++ entry 1 23 nets ++ entry 2 (23 + nets) vectors ++ take nets (four_body ++ 0 ∷ []) ++ replicate vectors 0

-- the same of three entries, with one vector and this many bytes for the responses
abbrev pub third_body : ℕ → List ℕ
third_body size =
    start 3 ++ entry 1 32 nets_length ++ entry 2 after_three 8 ++ entry 3 (after_three + 8) size ++ four_body ++ replicate (8 + size) 0

-- n and k are 4, and a longer body of vectors: the low two bytes of the length that its entry says, and its bytes
abbrev pub long_body : (low high : ℕ) → List ℕ → List ℕ
long_body low high bytes =
    start 2 ++ entry 1 23 nets_length ++ 2 ∷ after_two ∷ 0 ∷ 0 ∷ 0 ∷ low ∷ high ∷ 0 ∷ 0 ∷ [] ++ four_body ++ bytes

-- n = k = 48 and a vector of these bytes
abbrev pub wide_vector : List ℕ → List ℕ
wide_vector bytes = start 2 ++ entry 1 23 nets_length ++ entry 2 after_two 8 ++ nets_body (network_of 48) 48 ++ bytes

-- 2 ^ 48 - 1, and one more
abbrev pub bytes_below : List ℕ
bytes_below = 255 ∷ 255 ∷ 255 ∷ 255 ∷ 255 ∷ 255 ∷ 0 ∷ 0 ∷ []

abbrev pub bytes_at : List ℕ
bytes_at = 0 ∷ 0 ∷ 0 ∷ 0 ∷ 0 ∷ 0 ∷ 1 ∷ 0 ∷ []

-- a word of six different bytes, low byte first
abbrev pub bytes_apart : List ℕ
bytes_apart = 6 ∷ 5 ∷ 4 ∷ 3 ∷ 2 ∷ 1 ∷ 0 ∷ 0 ∷ []

abbrev pub word_apart : ℕ
word_apart = 6 + 5 * 2 ^ 8 + 4 * 2 ^ 16 + 3 * 2 ^ 24 + 2 * 2 ^ 32 + 2 ^ 40

-- the longest file that is accepted, 1,060 bytes: 64 vectors and 64 responses, 512 bytes each, from 36 and from 548 on
abbrev pub longest_file : List ℕ
longest_file =
    start 3
    ++ entry 1 32 nets_length
    ++ 2 ∷ after_three ∷ 0 ∷ 0 ∷ 0 ∷ 0 ∷ 2 ∷ 0 ∷ 0 ∷ []
    ++ 3 ∷ after_three ∷ 2 ∷ 0 ∷ 0 ∷ 0 ∷ 2 ∷ 0 ∷ 0 ∷ []
    ++ four_body
    ++ replicate 1024 0

pub record ReaderBounds : Type 0 where
  -- row 1: missing bytes, and each byte another
  pub bytes_0 : read [] ≡ refused 1
  pub bytes_1 : read (66 ∷ []) ≡ refused 1
  pub bytes_2 : read (66 ∷ 83 ∷ []) ≡ refused 1
  pub bytes_3 : read (66 ∷ 83 ∷ 74 ∷ []) ≡ refused 1
  pub bytes_4 : read (66 ∷ 83 ∷ 74 ∷ 51 ∷ []) ≡ refused 2
  pub mark_0 : read (65 ∷ 83 ∷ 74 ∷ 51 ∷ drop 4 one_vector) ≡ refused 1
  pub mark_1 : read (66 ∷ 84 ∷ 74 ∷ 51 ∷ drop 4 one_vector) ≡ refused 1
  pub mark_2 : read (66 ∷ 83 ∷ 73 ∷ 51 ∷ drop 4 one_vector) ≡ refused 1
  pub mark_3 : read (66 ∷ 83 ∷ 74 ∷ 52 ∷ drop 4 one_vector) ≡ refused 1
  -- the marks of files without a gate, also before a nets body of 2 bytes and of 3, as those files have
  pub mark_BSJ1 : read (text "BSJ1" ++ drop 4 one_vector) ≡ refused 1
  pub file_BSJ1 : read (text "BSJ1" ++ drop 4 (two_bodies 2 8)) ≡ refused 1
  pub mark_BSJ2 : read (text "BSJ2" ++ drop 4 one_vector) ≡ refused 1
  pub file_BSJ2 : read (text "BSJ2" ++ drop 4 (two_bodies 3 8)) ≡ refused 1
  -- row 2: the size. A file of 2,048 bytes passes this row; its 2,021 bytes of vectors are not a multiple of 8. One of
  -- 2,049 does not, whether its bodies end at its end or one byte before; of the last, 2,048 bytes would not tell
  pub size_2048 : read (long_body (256 - after_two) 7 (replicate (2048 - after_two) 0)) ≡ refused 3
  pub size_2049 : read (long_body (257 - after_two) 7 (replicate (2049 - after_two) 0)) ≡ refused 2
  pub size_2049_ends_2048 : read (long_body (256 - after_two) 7 (replicate (2049 - after_two) 0)) ≡ refused 2
  -- the number of entries
  pub entries_0 : read (start 0) ≡ refused 2
  pub entries_1 : read (start 1 ++ entry 1 14 nets_length ++ four_body) ≡ refused 2
  pub entries_2 : read one_vector ≡ holds 4 4 (0 ∷ []) []
  pub entries_3 : read one_response ≡ holds 4 4 (0 ∷ []) (0 ∷ [])
  pub entries_4 : read
      (start 4 ++ entry 1 41 nets_length ++ entry 2 (41 + nets_length) 8 ++ entry 3 (49 + nets_length) 8 ++ entry 4 (57 + nets_length) 8
      ++ four_body ++ replicate 24 0) ≡ refused 2
  -- the table: its last byte missing, or there and two empty bodies
  pub table_22 : read (take 22 (two_bodies 0 0)) ≡ refused 2
  pub table_23 : read (two_bodies 0 0) ≡ refused 3
  -- kinds: out of order, and each another
  pub kinds_2_1 : read (with_two (entry 2 23 nets_length) (entry 1 after_two 8)) ≡ refused 2
  pub kinds_1_3_2 : read (with_three (entry 1 32 nets_length) (entry 3 after_three 8) (entry 2 (after_three + 8) 8)) ≡ refused 2
  pub kinds_0_2 : read (with_two (entry 0 23 nets_length) (entry 2 after_two 8)) ≡ refused 2
  pub kinds_1_3 : read (with_two (entry 1 23 nets_length) (entry 3 after_two 8)) ≡ refused 2
  pub kinds_1_2_4 : read (with_three (entry 1 32 nets_length) (entry 2 after_three 8) (entry 4 (after_three + 8) 8)) ≡ refused 2
  -- offsets, one early and one late, with lengths that go with them
  pub first_early : read (with_two (entry 1 22 (nets_length + 1)) (entry 2 after_two 8)) ≡ refused 2
  pub first_late : read (with_two (entry 1 24 (nets_length - 1)) (entry 2 after_two 8)) ≡ refused 2
  pub second_early : read (with_two (entry 1 23 nets_length) (entry 2 (after_two - 1) 9)) ≡ refused 2
  pub second_late : read (with_two (entry 1 23 nets_length) (entry 2 (after_two + 1) 7)) ≡ refused 2
  pub third_early : read (with_three (entry 1 32 nets_length) (entry 2 after_three 8) (entry 3 (after_three + 7) 9)) ≡ refused 2
  pub third_late : read (with_three (entry 1 32 nets_length) (entry 2 after_three 8) (entry 3 (after_three + 9) 7)) ≡ refused 2
  -- the end, one short and one long
  pub end_short : read (one_vector ++ 0 ∷ []) ≡ refused 2
  pub end_long : read (take 34 one_vector) ≡ refused 2
  pub third_end_short : read (one_response ++ 0 ∷ []) ≡ refused 2
  pub third_end_long : read (take 51 one_response) ≡ refused 2
  -- sums past 2 ^ 32; if they wrapped, the layout would be right: the second body would end 8 bytes before it begins,
  -- where the third begins; or one byte before it begins, at the end of the file; and a third body that begins at
  -- 2 ^ 32 - 8 would end there
  pub offset_wraps : read
      (start 3 ++ entry 1 32 nets_length ++ 2 ∷ after_three ∷ 0 ∷ 0 ∷ 0 ∷ 248 ∷ 255 ∷ 255 ∷ 255 ∷ entry 3 (after_three - 8) 16
      ++ four_body ++ replicate 8 0) ≡ refused 2
  pub end_wraps : read
      (start 2 ++ entry 1 23 nets_length ++ 2 ∷ after_two ∷ 0 ∷ 0 ∷ 0 ∷ 255 ∷ 255 ∷ 255 ∷ 255 ∷ take (nets_length - 1) four_body)
      ≡ refused 2
  pub third_end_wraps : read
      (start 3 ++ entry 1 32 nets_length ++ 2 ∷ after_three ∷ 0 ∷ 0 ∷ 0 ∷ (248 - after_three) ∷ 255 ∷ 255 ∷ 255
      ∷ 3 ∷ 248 ∷ 255 ∷ 255 ∷ 255 ∷ (after_three + 16) ∷ 0 ∷ 0 ∷ 0 ∷ four_body ++ replicate 8 0) ≡ refused 2
  -- row 3: the nets body, the vectors and the responses
  pub nets_body_3 : read (two_bodies 3 8) ≡ refused 3
  pub nets_body_4 : read (two_bodies 4 8) ≡ holds 4 4 (0 ∷ []) []
  pub nets_body_5 : read (two_bodies 5 8) ≡ refused 3
  pub vectors_body_7 : read (two_bodies nets_length 7) ≡ refused 3
  pub vectors_body_9 : read (two_bodies nets_length 9) ≡ refused 3
  pub responses_body_7 : read (third_body 7) ≡ refused 3
  pub responses_body_8 : read (third_body 8) ≡ holds 4 4 (0 ∷ []) (0 ∷ [])
  pub responses_body_9 : read (third_body 9) ≡ refused 3
  -- row 5: n
  pub nets_1 : read (set_file 1 1 (0 ∷ [])) ≡ refused 5
  pub nets_2 : read (set_file 2 2 (0 ∷ [])) ≡ holds 2 2 (0 ∷ []) []
  pub nets_48 : read (set_file 48 48 (0 ∷ [])) ≡ holds 48 48 (0 ∷ []) []
  pub nets_49 : read (set_file 49 49 (0 ∷ [])) ≡ refused 5
  -- row 6: k at n = 5
  pub class_0 : read (set_file 5 0 (0 ∷ [])) ≡ refused 6
  pub class_1 : read (set_file 5 1 (0 ∷ [])) ≡ holds 5 1 (0 ∷ []) []
  pub class_3 : read (set_file 5 3 (0 ∷ [])) ≡ holds 5 3 (0 ∷ []) []
  pub class_4 : read (set_file 5 4 (0 ∷ [])) ≡ holds 5 4 (0 ∷ []) []
  pub class_5 : read (set_file 5 5 (0 ∷ [])) ≡ holds 5 5 (0 ∷ []) []
  pub class_6 : read (set_file 5 6 (0 ∷ [])) ≡ refused 6
  pub class_above : read (set_file 2 3 (0 ∷ [])) ≡ refused 6
  -- at n = 10 and 11
  pub class_9_of_10 : read (set_file 10 9 (0 ∷ [])) ≡ holds 10 9 (0 ∷ []) []
  pub class_11_of_10 : read (set_file 10 11 (0 ∷ [])) ≡ refused 6
  pub class_3_of_11 : read (set_file 11 3 (0 ∷ [])) ≡ holds 11 3 (0 ∷ []) []
  pub class_4_of_11 : read (set_file 11 4 (0 ∷ [])) ≡ refused 6
  pub class_9_of_11 : read (set_file 11 9 (0 ∷ [])) ≡ refused 6
  -- rows 17 and 20: the soft level and the gate. Either gate goes with either level (`OR_0` is OR with level 0), and a
  -- level that is refused is 17 whatever the gate
  pub OR_0 : read (gate_file 0 0) ≡ holds_of (wired_or 4 0) 4 (0 ∷ []) []
  pub OR_1 : read (gate_file 1 0) ≡ holds_of (wired_or 4 1) 4 (0 ∷ []) []
  pub AND_0 : read (gate_file 0 1) ≡ holds_of (wired_and 4 0) 4 (0 ∷ []) []
  pub AND_1 : read (gate_file 1 1) ≡ holds_of (wired_and 4 1) 4 (0 ∷ []) []
  pub level_2 : (gate : ℕ) → read (gate_file 2 gate) ≡ refused 17
  pub level_255 : (gate : ℕ) → read (gate_file 255 gate) ≡ refused 17
  pub gate_2_at_0 : read (gate_file 0 2) ≡ refused 20
  pub gate_2_at_1 : read (gate_file 1 2) ≡ refused 20
  pub gate_255 : read (gate_file 1 255) ≡ refused 20
  -- row 7: vectors
  pub vectors_0 : read (two_bodies nets_length 0) ≡ refused 7
  pub vectors_64 : read_answer (long_body 0 2 (replicate 512 0)) 64 0 ≡ holds 4 4 (replicate 64 0) []
  pub vectors_65 : read_answer (long_body 8 2 (replicate 520 0)) 65 0 ≡ refused 7
  -- row 8: a bit at n
  pub vector_below : read (set_file 4 4 (15 ∷ [])) ≡ holds 4 4 (15 ∷ []) []
  pub vector_at : read (set_file 4 4 (16 ∷ [])) ≡ refused 8
  pub wide_below : read (wide_vector bytes_below) ≡ holds 48 48 ((2 ^ 48 - 1) ∷ []) []
  pub wide_at : read (wide_vector bytes_at) ≡ refused 8
  pub wide_apart : read (wide_vector bytes_apart) ≡ holds 48 48 (word_apart ∷ []) []
  -- row 9: as many responses as vectors, also where the third body is empty; without a third entry it is not tested
  pub one_response_short : read (job_file 4 4 (0 ∷ 1 ∷ []) (0 ∷ [])) ≡ refused 9
  pub one_response_more : read (job_file 4 4 (0 ∷ 1 ∷ []) (0 ∷ 1 ∷ 2 ∷ [])) ≡ refused 9
  pub as_many : read (job_file 4 4 (0 ∷ 1 ∷ []) (2 ∷ 3 ∷ [])) ≡ holds 4 4 (0 ∷ 1 ∷ []) (2 ∷ 3 ∷ [])
  pub empty_third_body : read (third_body 0) ≡ refused 9
  pub no_third_entry : read (set_file 4 4 (0 ∷ 1 ∷ [])) ≡ holds 4 4 (0 ∷ 1 ∷ []) []
  -- row 10: a bit at n
  pub response_below : read (job_file 4 4 (0 ∷ []) (15 ∷ [])) ≡ holds 4 4 (0 ∷ []) (15 ∷ [])
  pub response_at : read (job_file 4 4 (0 ∷ []) (16 ∷ [])) ≡ refused 10
  -- row 12: the room of either list; without a third entry none of the second
  pub vectors_room_0 : read_answer one_response 0 1 ≡ refused 12
  pub responses_room_0 : read_answer one_response 1 0 ≡ refused 12
  pub room_1 : read_answer one_response 1 1 ≡ holds 4 4 (0 ∷ []) (0 ∷ [])
  pub set_room_0 : read_answer one_vector 0 0 ≡ refused 12
  pub set_room_1 : read_answer one_vector 1 0 ≡ holds 4 4 (0 ∷ []) []
  pub longest_short : read_answer longest_file 64 63 ≡ refused 12
  pub longest : read_answer longest_file 64 64 ≡ holds 4 4 (replicate 64 0) (replicate 64 0)
  -- several rows at once: the uppermost
  pub rows_1_2 : read (replicate 2049 0) ≡ refused 1
  pub rows_2_3 : read (two_bodies (nets_length + 1) 7 ++ 0 ∷ []) ≡ refused 2
  pub rows_3_5 : read (start 2 ++ entry 1 23 nets_length ++ entry 2 after_two 7 ++ nets_body (network_of 1) 1 ++ replicate 7 0) ≡ refused 3
  pub rows_5_6 : read (set_file 1 4 (0 ∷ [])) ≡ refused 5
  pub rows_5_17_20 : (level gate : ℕ) → read (set_file_of (network_with 1 level gate) 1 (0 ∷ [])) ≡ refused 5
  pub rows_6_17_20 : (level gate : ℕ) → read (set_file_of (network_with 4 level gate) 0 (0 ∷ [])) ≡ refused 6
  pub rows_6_7 : read (set_file 4 0 []) ≡ refused 6
  pub rows_17_20_7 : (gate : ℕ) → read (set_file_of (network_with 4 2 gate) 4 []) ≡ refused 17
  pub rows_20_7 : read (set_file_of (network_with 4 1 2) 4 []) ≡ refused 20
  pub rows_7_8 : read (long_body 8 2 (replicate 520 255)) ≡ refused 7
  pub rows_8_9 : read (job_file 4 4 (16 ∷ []) (0 ∷ 0 ∷ [])) ≡ refused 8
  pub rows_9_10 : read (job_file 4 4 (0 ∷ []) (16 ∷ 16 ∷ [])) ≡ refused 9
  pub rows_10_12 : read_answer (job_file 4 4 (0 ∷ []) (16 ∷ [])) 0 0 ≡ refused 10

-- *write a job file* with this much room
abbrev pub write_into : ℕ → Network → ℕ → (vectors responses : List ℕ) → Answer (List ℕ)
write_into room net k vectors responses = write_answer 2 net k vectors responses room

-- with room for every job file, of a network and of n nets
abbrev pub write_of : Network → ℕ → (vectors responses : List ℕ) → Answer (List ℕ)
write_of net k vectors responses = write_into 2048 net k vectors responses

abbrev pub write : (n k : ℕ) → (vectors responses : List ℕ) → Answer (List ℕ)
write n k vectors responses = write_of (network_of n) k vectors responses

pub record WriterBounds : Type 0 where
  -- row 5: n
  pub nets_1 : write 1 1 (0 ∷ []) [] ≡ refused 5
  pub nets_2 : write 2 2 (0 ∷ []) [] ≡ full (set_file 2 2 (0 ∷ []))
  pub nets_48 : write 48 48 (0 ∷ []) [] ≡ full (set_file 48 48 (0 ∷ []))
  pub nets_49 : write 49 49 (0 ∷ []) [] ≡ refused 5
  -- row 6: k at n = 5
  pub class_0 : write 5 0 (0 ∷ []) [] ≡ refused 6
  pub class_1 : write 5 1 (0 ∷ []) [] ≡ full (set_file 5 1 (0 ∷ []))
  pub class_3 : write 5 3 (0 ∷ []) [] ≡ full (set_file 5 3 (0 ∷ []))
  pub class_4 : write 5 4 (0 ∷ []) [] ≡ full (set_file 5 4 (0 ∷ []))
  pub class_5 : write 5 5 (0 ∷ []) [] ≡ full (set_file 5 5 (0 ∷ []))
  pub class_6 : write 5 6 (0 ∷ []) [] ≡ refused 6
  pub class_above : write 2 3 (0 ∷ []) [] ≡ refused 6
  -- at n = 10 and 11
  pub class_9_of_10 : write 10 9 (0 ∷ []) [] ≡ full (set_file 10 9 (0 ∷ []))
  pub class_11_of_10 : write 10 11 (0 ∷ []) [] ≡ refused 6
  pub class_3_of_11 : write 11 3 (0 ∷ []) [] ≡ full (set_file 11 3 (0 ∷ []))
  pub class_4_of_11 : write 11 4 (0 ∷ []) [] ≡ refused 6
  pub class_9_of_11 : write 11 9 (0 ∷ []) [] ≡ refused 6
  -- rows 17 and 20: the soft level and the gate, as in the reader, also where the low byte is 0
  pub OR_0 : write_of (wired_or 4 0) 4 (0 ∷ []) [] ≡ full (gate_file 0 0)
  pub OR_1 : write_of (wired_or 4 1) 4 (0 ∷ []) [] ≡ full (gate_file 1 0)
  pub AND_0 : write_of (wired_and 4 0) 4 (0 ∷ []) [] ≡ full (gate_file 0 1)
  pub AND_1 : write_of (wired_and 4 1) 4 (0 ∷ []) [] ≡ full (gate_file 1 1)
  pub level_2 : (gate : ℕ) → write_of (network_with 4 2 gate) 4 (0 ∷ []) [] ≡ refused 17
  pub level_256 : (gate : ℕ) → write_of (network_with 4 256 gate) 4 (0 ∷ []) [] ≡ refused 17
  pub level_greatest : (gate : ℕ) → write_of (network_with 4 (2 ^ 64 - 1) gate) 4 (0 ∷ []) [] ≡ refused 17
  pub gate_2_at_0 : write_of (network_with 4 0 2) 4 (0 ∷ []) [] ≡ refused 20
  pub gate_2_at_1 : write_of (network_with 4 1 2) 4 (0 ∷ []) [] ≡ refused 20
  pub gate_256 : write_of (network_with 4 1 256) 4 (0 ∷ []) [] ≡ refused 20
  pub gate_greatest : write_of (network_with 4 1 (2 ^ 64 - 1)) 4 (0 ∷ []) [] ≡ refused 20
  -- row 7: vectors
  pub vectors_0 : write 4 4 [] [] ≡ refused 7
  pub vectors_64 : write 4 4 (replicate 64 0) [] ≡ full (long_body 0 2 (replicate 512 0))
  pub vectors_65 : write 4 4 (replicate 65 0) [] ≡ refused 7
  -- row 8: a bit at n
  pub vector_below : write 4 4 (15 ∷ []) [] ≡ full (set_file 4 4 (15 ∷ []))
  pub vector_at : write 4 4 (16 ∷ []) [] ≡ refused 8
  pub wide_below : write 48 48 ((2 ^ 48 - 1) ∷ []) [] ≡ full (wide_vector bytes_below)
  pub wide_at : write 48 48 (2 ^ 48 ∷ []) [] ≡ refused 8
  pub wide_apart : write 48 48 (word_apart ∷ []) [] ≡ full (wide_vector bytes_apart)
  -- row 9: as many responses as vectors; without responses it is not tested
  pub one_response_short : write 4 4 (0 ∷ 1 ∷ []) (0 ∷ []) ≡ refused 9
  pub one_response_more : write 4 4 (0 ∷ 1 ∷ []) (0 ∷ 1 ∷ 2 ∷ []) ≡ refused 9
  pub as_many : write 4 4 (0 ∷ 1 ∷ []) (2 ∷ 3 ∷ []) ≡ full (job_file 4 4 (0 ∷ 1 ∷ []) (2 ∷ 3 ∷ []))
  pub no_responses : write 4 4 (0 ∷ 1 ∷ []) [] ≡ full (set_file 4 4 (0 ∷ 1 ∷ []))
  -- row 10: a bit at n
  pub response_below : write 4 4 (0 ∷ []) (15 ∷ []) ≡ full (job_file 4 4 (0 ∷ []) (15 ∷ []))
  pub response_at : write 4 4 (0 ∷ []) (16 ∷ []) ≡ refused 10
  -- row 12: the room, without responses and with them
  pub room_34 : write_into 34 four 4 (0 ∷ []) [] ≡ refused 12
  pub room_35 : write_into 35 four 4 (0 ∷ []) [] ≡ full one_vector
  pub room_51 : write_into 51 four 4 (0 ∷ []) (0 ∷ []) ≡ refused 12
  pub room_52 : write_into 52 four 4 (0 ∷ []) (0 ∷ []) ≡ full one_response
  pub longest_short : write_into 1059 four 4 (replicate 64 0) (replicate 64 0) ≡ refused 12
  pub longest : write_into 1060 four 4 (replicate 64 0) (replicate 64 0) ≡ full longest_file
  -- several rows at once: the uppermost
  pub rows_5_6 : write 1 4 (0 ∷ []) [] ≡ refused 5
  pub rows_5_17_20 : (level gate : ℕ) → write_of (network_with 1 level gate) 1 (0 ∷ []) [] ≡ refused 5
  pub rows_6_17_20 : (level gate : ℕ) → write_of (network_with 4 level gate) 0 (0 ∷ []) [] ≡ refused 6
  pub rows_6_7 : write 4 0 [] [] ≡ refused 6
  pub rows_17_20_7 : (gate : ℕ) → write_of (network_with 4 2 gate) 4 [] [] ≡ refused 17
  pub rows_20_7 : write_of (network_with 4 1 2) 4 [] [] ≡ refused 20
  pub rows_7_8 : write 4 4 (replicate 65 16) [] ≡ refused 7
  pub rows_8_9 : write 4 4 (16 ∷ []) (0 ∷ 0 ∷ []) ≡ refused 8
  pub rows_9_10 : write 4 4 (0 ∷ []) (16 ∷ 16 ∷ []) ≡ refused 9
  pub rows_10_12 : write_into 0 four 4 (0 ∷ []) (16 ∷ []) ≡ refused 10
