-- Sets stored net by net: turning and turning back, job files of kind 4, and both sides of each of their bounds. Each
-- is worked out by hand from documents 01 and 02; none is a program's output. What is said of every kind is by theorem.
use Rattle.std.specs.Prelude.{ℕ, ◌+◌, ◌*◌, ◌-◌, ◌^◌, ◌≡◌, ◌≢◌, List, [], ◌∷◌, ◌++◌, length, replicate}
use Rattle.words.specs.Answers.{Answer, refused, full}
use Rattle.network.specs.declared.Network.{Network}
use Rattle.network.specs.Reading.{network_of, wired_and}
use Rattle.turning.specs.Turn.{turn_answer, turn_back_answer}
use Rattle.reader.specs.Reader.{JobContent, read_answer}
use Rattle.writer.specs.Writer.{write_answer}
use Rattle.listing.specs.Report.{report}
use Rattle.packing.specs.Packed.{job_words}
use Rattle.demands.specs.Programs.{our_turn, our_turn_back}
use Rattle.demands.specs.Starred.{two, four}
use Rattle.demands.specs.FileExamples.{text, start, entry, nets_body, words, nets_length, after_two, after_three}

-- ---- turning, with room for all that there can be

abbrev pub turn : (nets : ℕ) → List ℕ → Answer (List ℕ)
turn nets vectors = turn_answer nets vectors 64

abbrev pub back : (nets count : ℕ) → List ℕ → Answer (List ℕ)
back nets count list = turn_back_answer nets count list 64

-- document 01's example, as vectors and as sequential words
abbrev pub five_vectors : List ℕ
five_vectors = 0 ∷ 1 ∷ 2 ∷ 4 ∷ 8 ∷ []

abbrev pub four_words : List ℕ
four_words = 2 ∷ 4 ∷ 8 ∷ 16 ∷ []

-- 64 vectors of which driver 47 alone drives 1, on the last; and their 48 words
abbrev pub last_vector : List ℕ
last_vector = replicate 63 0 ++ 2 ^ 47 ∷ []

abbrev pub last_net : List ℕ
last_net = replicate 47 0 ++ 2 ^ 63 ∷ []

-- ---- files, by bytes

-- document 01's example, stored net by net
abbrev pub archive_file : List ℕ
archive_file =
    66 ∷ 83 ∷ 74 ∷ 51 ∷ 3 ∷ []
    ++ 1 ∷ 32 ∷ 0 ∷ 0 ∷ 0 ∷ 4 ∷ 0 ∷ 0 ∷ 0 ∷ []
    ++ 4 ∷ 36 ∷ 0 ∷ 0 ∷ 0 ∷ 33 ∷ 0 ∷ 0 ∷ 0 ∷ []
    ++ 3 ∷ 69 ∷ 0 ∷ 0 ∷ 0 ∷ 40 ∷ 0 ∷ 0 ∷ 0 ∷ []
    ++ 4 ∷ 4 ∷ 1 ∷ 0 ∷ []
    ++ 5 ∷ []
    ++ 2 ∷ 0 ∷ 0 ∷ 0 ∷ 0 ∷ 0 ∷ 0 ∷ 0 ∷ []
    ++ 4 ∷ 0 ∷ 0 ∷ 0 ∷ 0 ∷ 0 ∷ 0 ∷ 0 ∷ []
    ++ 8 ∷ 0 ∷ 0 ∷ 0 ∷ 0 ∷ 0 ∷ 0 ∷ 0 ∷ []
    ++ 16 ∷ 0 ∷ 0 ∷ 0 ∷ 0 ∷ 0 ∷ 0 ∷ 0 ∷ []
    ++ 4 ∷ 0 ∷ 0 ∷ 0 ∷ 0 ∷ 0 ∷ 0 ∷ 0 ∷ []
    ++ 7 ∷ 0 ∷ 0 ∷ 0 ∷ 0 ∷ 0 ∷ 0 ∷ 0 ∷ []
    ++ 7 ∷ 0 ∷ 0 ∷ 0 ∷ 0 ∷ 0 ∷ 0 ∷ 0 ∷ []
    ++ 4 ∷ 0 ∷ 0 ∷ 0 ∷ 0 ∷ 0 ∷ 0 ∷ 0 ∷ []
    ++ 12 ∷ 0 ∷ 0 ∷ 0 ∷ 0 ∷ 0 ∷ 0 ∷ 0 ∷ []

-- a body of this kind, with a byte and then words: k = 4, and n = 4 unless a network is given; and with responses
abbrev pub stored_of : Network → (kind count : ℕ) → List ℕ → List ℕ
stored_of net kind count list =
    start 2 ++ entry 1 23 nets_length ++ entry kind after_two (1 + 8 * length list) ++ nets_body net 4 ++ count ∷ words list

abbrev pub stored : (kind count : ℕ) → List ℕ → List ℕ
stored kind count list = stored_of four kind count list

abbrev pub answered : ℕ → (list responses : List ℕ) → List ℕ
answered count list responses =
    start 3 ++ entry 1 32 nets_length ++ entry 4 after_three (1 + 8 * length list)
    ++ entry 3 (after_three + 1 + 8 * length list) (8 * length responses) ++ nets_body four 4 ++ count ∷ words list ++ words responses

-- a body of kind 4 with this many bytes, each a 1
abbrev pub sized : ℕ → List ℕ
sized size = start 2 ++ entry 1 23 nets_length ++ entry 4 after_two size ++ nets_body four 4 ++ replicate size 1

-- n = k = 2 and a body of kind 4: this count, the word 2 ^ 63, and 0
abbrev pub highest_bit : ℕ → List ℕ
highest_bit count =
    start 2 ++ entry 1 23 nets_length ++ entry 4 after_two 17 ++ nets_body two 2
    ++ count ∷ 0 ∷ 0 ∷ 0 ∷ 0 ∷ 0 ∷ 0 ∷ 0 ∷ 128 ∷ replicate 8 0

-- the longest file of kind 4 that is accepted, 933 bytes: 48 nets, 64 vectors and 64 responses, 385 bytes and 512, from
-- 36 and from 421 on
abbrev pub longest_file : List ℕ
longest_file =
    start 3
    ++ entry 1 32 nets_length
    ++ 4 ∷ 36 ∷ 0 ∷ 0 ∷ 0 ∷ 129 ∷ 1 ∷ 0 ∷ 0 ∷ []
    ++ 3 ∷ 165 ∷ 1 ∷ 0 ∷ 0 ∷ 0 ∷ 2 ∷ 0 ∷ 0 ∷ []
    ++ nets_body (network_of 48) 48
    ++ 64 ∷ replicate 896 0

abbrev pub read : List ℕ → Answer JobContent
read file = read_answer file 64 64

-- the answer with this content of kind 4, of a network and of n = k = 4
abbrev pub holds_of : Network → ℕ → (vectors responses : List ℕ) → Answer JobContent
holds_of net k vectors responses = full (record { network = net; class = k; kind = 4; vectors = vectors; responses = responses })

abbrev pub holds : (vectors responses : List ℕ) → Answer JobContent
holds vectors responses = holds_of four 4 vectors responses

abbrev pub zeros : List ℕ
zeros = 0 ∷ 0 ∷ 0 ∷ 0 ∷ []

pub record TurningCases : Type 0 where
  pub turned : turn 4 five_vectors ≡ full four_words
  pub turned_back : back 4 5 four_words ≡ full five_vectors
  -- more nets than vectors: drivers 0 and 1 drive 1 on the first, driver 2 on the second
  pub two_vectors : turn 3 (3 ∷ 4 ∷ []) ≡ full (1 ∷ 1 ∷ 2 ∷ [])
  pub two_vectors_back : back 3 2 (1 ∷ 1 ∷ 2 ∷ []) ≡ full (3 ∷ 4 ∷ [])
  -- the least and the most nets and vectors
  pub least : turn 2 (2 ∷ []) ≡ full (0 ∷ 1 ∷ [])
  pub least_back : back 2 1 (0 ∷ 1 ∷ []) ≡ full (2 ∷ [])
  pub most : turn 48 last_vector ≡ full last_net
  pub most_back : back 48 64 last_net ≡ full last_vector
  pub all_ones : turn 48 (replicate 64 (2 ^ 48 - 1)) ≡ full (replicate 48 (2 ^ 64 - 1))
  pub all_ones_back : back 48 64 (replicate 48 (2 ^ 64 - 1)) ≡ full (replicate 64 (2 ^ 48 - 1))
  -- row 5: n
  pub nets_1 : turn 1 (0 ∷ []) ≡ refused 5
  pub nets_49 : turn 49 (0 ∷ []) ≡ refused 5
  pub back_nets_1 : back 1 1 (0 ∷ []) ≡ refused 5
  pub back_nets_49 : back 49 1 (replicate 49 0) ≡ refused 5
  -- row 7: vectors; and turning back the number of words
  pub vectors_0 : turn 4 [] ≡ refused 7
  pub vectors_65 : turn 4 (replicate 65 0) ≡ refused 7
  pub back_count_0 : back 4 0 zeros ≡ refused 7
  pub back_count_65 : back 4 65 zeros ≡ refused 7
  pub back_words_3 : back 4 1 (0 ∷ 0 ∷ 0 ∷ []) ≡ refused 7
  pub back_words_5 : back 4 1 (0 ∷ zeros) ≡ refused 7
  -- row 8: a bit at n; and turning back at the number of vectors, also where that is above n
  pub vector_below : turn 4 (15 ∷ []) ≡ full (1 ∷ 1 ∷ 1 ∷ 1 ∷ [])
  pub vector_at : turn 4 (16 ∷ []) ≡ refused 8
  pub wide_at : turn 48 (2 ^ 48 ∷ []) ≡ refused 8
  pub back_bit_below : back 4 2 (3 ∷ 0 ∷ 0 ∷ 2 ∷ []) ≡ full (1 ∷ 9 ∷ [])
  pub back_bit_at : back 4 2 (0 ∷ 0 ∷ 0 ∷ 4 ∷ []) ≡ refused 8
  pub back_bit_62 : back 2 63 (2 ^ 62 ∷ 0 ∷ []) ≡ full (replicate 62 0 ++ 1 ∷ [])
  pub back_bit_63 : back 2 63 (2 ^ 63 ∷ 0 ∷ []) ≡ refused 8
  -- row 12: the room
  pub room_3 : turn_answer 4 five_vectors 3 ≡ refused 12
  pub room_4 : turn_answer 4 five_vectors 4 ≡ full four_words
  pub back_room_4 : turn_back_answer 4 5 four_words 4 ≡ refused 12
  pub back_room_5 : turn_back_answer 4 5 four_words 5 ≡ full five_vectors
  -- several rows at once: the uppermost
  pub rows_5_7 : turn 1 [] ≡ refused 5
  pub rows_7_8 : turn 4 (replicate 65 16) ≡ refused 7
  pub rows_8_12 : turn_answer 4 (16 ∷ []) 3 ≡ refused 8
  pub back_rows_5_7 : back 1 0 [] ≡ refused 5
  pub back_rows_7_8 : back 4 2 (4 ∷ []) ≡ refused 7
  pub back_rows_7_8_count : back 4 0 (1 ∷ 1 ∷ 1 ∷ 1 ∷ []) ≡ refused 7
  pub back_rows_8_12 : turn_back_answer 4 2 (4 ∷ 0 ∷ 0 ∷ 0 ∷ []) 1 ≡ refused 8
  -- the lent list: its tail kept, and after a refusal as it was
  pub list : our_turn 4 five_vectors (9 ∷ 9 ∷ 9 ∷ 9 ∷ 9 ∷ [])
      ≡ record { returned = full 4; list = 2 ∷ 4 ∷ 8 ∷ 16 ∷ 9 ∷ [] }
  pub list_refused : our_turn 4 (16 ∷ []) (9 ∷ 9 ∷ 9 ∷ 9 ∷ [])
      ≡ record { returned = refused 8; list = 9 ∷ 9 ∷ 9 ∷ 9 ∷ [] }
  pub back_list : our_turn_back 4 2 (3 ∷ 0 ∷ 0 ∷ 2 ∷ []) (7 ∷ 7 ∷ 7 ∷ [])
      ≡ record { returned = full 2; list = 1 ∷ 9 ∷ 7 ∷ [] }
  pub back_list_refused : our_turn_back 4 2 (4 ∷ 0 ∷ 0 ∷ 0 ∷ []) (7 ∷ 7 ∷ []) ≡ record { returned = refused 8; list = 7 ∷ 7 ∷ [] }

pub record NetByNetCases : Type 0 where
  -- the file: what is written, what is read, and the report
  pub archive_bytes : write_answer 4 four 4 five_vectors (4 ∷ 7 ∷ 7 ∷ 4 ∷ 12 ∷ []) 109 ≡ full archive_file
  pub archive_content : read archive_file ≡ holds five_vectors (4 ∷ 7 ∷ 7 ∷ 4 ∷ 12 ∷ [])
  pub archive_report : report archive_file ≡ text "pass 4 4 5\n0 2 3 2\n1 2 3 1\n2 1 0 0\n3 0 8 0\n"
  -- the kind among the words for C, after the class
  pub words_of_a_job : job_words
      (record { network = wired_and 4 0; class = 3; kind = 4; vectors = five_vectors; responses = [] })
      ≡ 4 ∷ 0 ∷ 1 ∷ 3 ∷ 4 ∷ 5 ∷ 0 ∷ []
  -- row 2: the kind that is written, before all other rows; also one whose low bits are those of 2 or 4
  pub no_other_kind : (kind : ℕ) → kind ≢ 2 → kind ≢ 4 → (net : Network) (k : ℕ) (vectors responses : List ℕ) (room : ℕ)
      → write_answer kind net k vectors responses room ≡ refused 2
  pub kind_3_written : write_answer 3 (network_of 1) 0 [] [] 0 ≡ refused 2
  pub kind_258_written : write_answer (2 + 2 ^ 8) four 4 (0 ∷ []) [] 64 ≡ refused 2
  pub kind_bit_63_written : write_answer (4 + 2 ^ 63) four 4 (0 ∷ []) [] 64 ≡ refused 2
  -- the kind that is read: 4 in place of 2, and nowhere else
  pub kind_4_read : read (stored 4 1 zeros) ≡ holds (0 ∷ []) []
  pub kind_0_read : read (stored 0 1 zeros) ≡ refused 2
  pub kind_1_read : read (stored 1 1 zeros) ≡ refused 2
  pub kind_3_read : read (stored 3 1 zeros) ≡ refused 2
  pub kind_5_read : read (stored 5 1 zeros) ≡ refused 2
  pub kind_6_read : read (stored 6 1 zeros) ≡ refused 2
  pub kind_255_read : read (stored 255 1 zeros) ≡ refused 2
  pub kind_4_first : read (start 2 ++ entry 4 23 nets_length ++ entry 2 after_two 8 ++ nets_body four 4 ++ replicate 8 0) ≡ refused 2
  pub kind_4_third : read
      (start 3 ++ entry 1 32 nets_length ++ entry 2 after_three 8 ++ entry 4 (after_three + 8) 9 ++ nets_body four 4 ++ replicate 17 0)
      ≡ refused 2
  pub kind_4_twice : read
      (start 3 ++ entry 1 32 nets_length ++ entry 4 after_three 33 ++ entry 4 (after_three + 33) 8 ++ nets_body four 4 ++ 1 ∷ replicate 40 0)
      ≡ refused 2
  -- row 3: a body that is not 1 byte more than a multiple of 8; the same body of kind 2
  pub size_0 : read (sized 0) ≡ refused 3
  pub size_1 : read (sized 1) ≡ refused 7
  pub size_2 : read (sized 2) ≡ refused 3
  pub size_8 : read (sized 8) ≡ refused 3
  pub size_9 : read (sized 9) ≡ refused 7
  pub size_32 : read (sized 32) ≡ refused 3
  pub size_34 : read (sized 34) ≡ refused 3
  pub as_kind_2 : read (stored 2 1 zeros) ≡ refused 3
  -- row 7: the count, and the number of the words
  pub count_0 : read (stored 4 0 zeros) ≡ refused 7
  pub count_1 : read (stored 4 1 (1 ∷ 0 ∷ 1 ∷ 0 ∷ [])) ≡ holds (5 ∷ []) []
  pub count_63 : read (stored 4 63 zeros) ≡ holds (replicate 63 0) []
  pub count_64 : read (stored 4 64 zeros) ≡ holds (replicate 64 0) []
  pub count_65 : read (stored 4 65 zeros) ≡ refused 7
  pub count_255 : read (stored 4 255 zeros) ≡ refused 7
  pub words_0 : read (stored 4 1 []) ≡ refused 7
  pub words_3 : read (stored 4 1 (0 ∷ 0 ∷ 0 ∷ [])) ≡ refused 7
  pub words_5 : read (stored 4 1 (0 ∷ zeros)) ≡ refused 7
  -- row 8: a bit below the count, and at it
  pub bit_below : read (stored 4 2 (2 ∷ 0 ∷ 0 ∷ 0 ∷ [])) ≡ holds (0 ∷ 1 ∷ []) []
  pub bit_at : read (stored 4 2 (4 ∷ 0 ∷ 0 ∷ 0 ∷ [])) ≡ refused 8
  pub bit_above_n : read (stored 4 6 (0 ∷ 0 ∷ 0 ∷ 32 ∷ [])) ≡ holds (0 ∷ 0 ∷ 0 ∷ 0 ∷ 0 ∷ 8 ∷ []) []
  pub bit_63_of_63 : read (highest_bit 63) ≡ refused 8
  pub bit_63_of_64 : read (highest_bit 64) ≡ holds_of two 2 (replicate 63 0 ++ 1 ∷ []) []
  -- row 9: the responses against the count; 10: their bits against n
  pub as_many : read (answered 1 zeros (3 ∷ [])) ≡ holds (0 ∷ []) (3 ∷ [])
  pub as_many_as_words : read (answered 1 zeros (3 ∷ 3 ∷ 3 ∷ 3 ∷ [])) ≡ refused 9
  pub none_of_one : read (answered 1 zeros []) ≡ refused 9
  pub response_below : read (answered 1 zeros (15 ∷ [])) ≡ holds (0 ∷ []) (15 ∷ [])
  pub response_at : read (answered 1 zeros (16 ∷ [])) ≡ refused 10
  -- row 12: the room, by the count
  pub room_1 : read_answer (stored 4 2 zeros) 1 0 ≡ refused 12
  pub room_2 : read_answer (stored 4 2 zeros) 2 0 ≡ holds (0 ∷ 0 ∷ []) []
  -- the longest, read and written
  pub longest_size : length longest_file ≡ 933
  pub longest_read : read longest_file ≡ holds_of (network_of 48) 48 (replicate 64 0) (replicate 64 0)
  pub longest_written : write_answer 4 (network_of 48) 48 (replicate 64 0) (replicate 64 0) 933 ≡ full longest_file
  pub longest_short : write_answer 4 (network_of 48) 48 (replicate 64 0) (replicate 64 0) 932 ≡ refused 12
  -- several rows at once: the uppermost
  pub rows_2_5 : write_answer 5 (network_of 1) 1 (0 ∷ []) [] 64 ≡ refused 2
  pub rows_2_3 : read (start 2 ++ entry 1 23 nets_length ++ entry 5 after_two 7 ++ nets_body four 4 ++ replicate 7 0) ≡ refused 2
  pub rows_3_5 : read (start 2 ++ entry 1 23 nets_length ++ entry 4 after_two 8 ++ nets_body (network_of 1) 1 ++ replicate 8 0)
      ≡ refused 3
  pub rows_5_7 : read (stored_of (network_of 1) 4 0 zeros) ≡ refused 5
  pub rows_7_8 : read (stored 4 0 (255 ∷ 255 ∷ 255 ∷ 255 ∷ [])) ≡ refused 7
  pub rows_7_8_words : read (stored 4 1 (2 ∷ [])) ≡ refused 7
  pub rows_7_9 : read (answered 0 zeros (0 ∷ [])) ≡ refused 7
  pub rows_8_9 : read (answered 1 (2 ∷ 0 ∷ 0 ∷ 0 ∷ []) (0 ∷ 0 ∷ [])) ≡ refused 8
  pub rows_9_10 : read (answered 2 zeros (16 ∷ [])) ≡ refused 9
  pub rows_10_12 : read_answer (answered 1 zeros (16 ∷ [])) 0 0 ≡ refused 10
