-- Job files and the reports on them, byte for byte. Each is worked out by hand from documents 01 and 02; none is a
-- program's output.
use Rattle.std.specs.Prelude.{ℕ, ◌+◌, ◌*◌, ◌≡◌, List, [], ◌∷◌, ◌++◌, length}
use Prim.Native.Char.{code}
use Prim.Native.String.{String, [] as []ˢ, ◌∷◌ as ◌∷ˢ◌}
use Rattle.words.specs.Answers.{full}
use Rattle.network.specs.declared.Network.{Network}
use Rattle.network.specs.Reading.{network_with, wired_or, wired_and, network_of}
use Rattle.reader.specs.Reader.{read_answer}
use Rattle.writer.specs.Writer.{file_of}
use Rattle.listing.specs.Report.{report}
use Rattle.demands.specs.Starred.{two, four}

-- a text as bytes
abbrev pub text : String → List ℕ
text []ˢ = []
text (letter ∷ˢ rest) = code letter ∷ text rest

-- ---- files: a line each for the mark with the number of entries, for an entry, for the nets body, and for a word

-- document 01's example, wired OR and soft level 1 as the next two: n = 4, k = 4, vectors 0 1 2 4 8, responses
-- 4 7 7 4 12
abbrev pub example_file : List ℕ
example_file =
    66 ∷ 83 ∷ 74 ∷ 51 ∷ 3 ∷ []
    ++ 1 ∷ 32 ∷ 0 ∷ 0 ∷ 0 ∷ 4 ∷ 0 ∷ 0 ∷ 0 ∷ []
    ++ 2 ∷ 36 ∷ 0 ∷ 0 ∷ 0 ∷ 40 ∷ 0 ∷ 0 ∷ 0 ∷ []
    ++ 3 ∷ 76 ∷ 0 ∷ 0 ∷ 0 ∷ 40 ∷ 0 ∷ 0 ∷ 0 ∷ []
    ++ 4 ∷ 4 ∷ 1 ∷ 0 ∷ []
    ++ 0 ∷ 0 ∷ 0 ∷ 0 ∷ 0 ∷ 0 ∷ 0 ∷ 0 ∷ []
    ++ 1 ∷ 0 ∷ 0 ∷ 0 ∷ 0 ∷ 0 ∷ 0 ∷ 0 ∷ []
    ++ 2 ∷ 0 ∷ 0 ∷ 0 ∷ 0 ∷ 0 ∷ 0 ∷ 0 ∷ []
    ++ 4 ∷ 0 ∷ 0 ∷ 0 ∷ 0 ∷ 0 ∷ 0 ∷ 0 ∷ []
    ++ 8 ∷ 0 ∷ 0 ∷ 0 ∷ 0 ∷ 0 ∷ 0 ∷ 0 ∷ []
    ++ 4 ∷ 0 ∷ 0 ∷ 0 ∷ 0 ∷ 0 ∷ 0 ∷ 0 ∷ []
    ++ 7 ∷ 0 ∷ 0 ∷ 0 ∷ 0 ∷ 0 ∷ 0 ∷ 0 ∷ []
    ++ 7 ∷ 0 ∷ 0 ∷ 0 ∷ 0 ∷ 0 ∷ 0 ∷ 0 ∷ []
    ++ 4 ∷ 0 ∷ 0 ∷ 0 ∷ 0 ∷ 0 ∷ 0 ∷ 0 ∷ []
    ++ 12 ∷ 0 ∷ 0 ∷ 0 ∷ 0 ∷ 0 ∷ 0 ∷ 0 ∷ []

-- both receivers reached by driver 1: n = 2, k = 2, vectors 0 1 2, and the responses 0 0 3 of the state 2 2
abbrev pub both_file : List ℕ
both_file =
    66 ∷ 83 ∷ 74 ∷ 51 ∷ 3 ∷ []
    ++ 1 ∷ 32 ∷ 0 ∷ 0 ∷ 0 ∷ 4 ∷ 0 ∷ 0 ∷ 0 ∷ []
    ++ 2 ∷ 36 ∷ 0 ∷ 0 ∷ 0 ∷ 24 ∷ 0 ∷ 0 ∷ 0 ∷ []
    ++ 3 ∷ 60 ∷ 0 ∷ 0 ∷ 0 ∷ 24 ∷ 0 ∷ 0 ∷ 0 ∷ []
    ++ 2 ∷ 2 ∷ 1 ∷ 0 ∷ []
    ++ 0 ∷ 0 ∷ 0 ∷ 0 ∷ 0 ∷ 0 ∷ 0 ∷ 0 ∷ []
    ++ 1 ∷ 0 ∷ 0 ∷ 0 ∷ 0 ∷ 0 ∷ 0 ∷ 0 ∷ []
    ++ 2 ∷ 0 ∷ 0 ∷ 0 ∷ 0 ∷ 0 ∷ 0 ∷ 0 ∷ []
    ++ 0 ∷ 0 ∷ 0 ∷ 0 ∷ 0 ∷ 0 ∷ 0 ∷ 0 ∷ []
    ++ 0 ∷ 0 ∷ 0 ∷ 0 ∷ 0 ∷ 0 ∷ 0 ∷ 0 ∷ []
    ++ 3 ∷ 0 ∷ 0 ∷ 0 ∷ 0 ∷ 0 ∷ 0 ∷ 0 ∷ []

-- walking ones without vector 0, and no responses: n = 4, k = 4, vectors 1 2 4 8
abbrev pub walking_file : List ℕ
walking_file =
    66 ∷ 83 ∷ 74 ∷ 51 ∷ 2 ∷ []
    ++ 1 ∷ 23 ∷ 0 ∷ 0 ∷ 0 ∷ 4 ∷ 0 ∷ 0 ∷ 0 ∷ []
    ++ 2 ∷ 27 ∷ 0 ∷ 0 ∷ 0 ∷ 32 ∷ 0 ∷ 0 ∷ 0 ∷ []
    ++ 4 ∷ 4 ∷ 1 ∷ 0 ∷ []
    ++ 1 ∷ 0 ∷ 0 ∷ 0 ∷ 0 ∷ 0 ∷ 0 ∷ 0 ∷ []
    ++ 2 ∷ 0 ∷ 0 ∷ 0 ∷ 0 ∷ 0 ∷ 0 ∷ 0 ∷ []
    ++ 4 ∷ 0 ∷ 0 ∷ 0 ∷ 0 ∷ 0 ∷ 0 ∷ 0 ∷ []
    ++ 8 ∷ 0 ∷ 0 ∷ 0 ∷ 0 ∷ 0 ∷ 0 ∷ 0 ∷ []

-- wired OR and soft level 0: n = 4, k = 4, the same vectors, and the responses 3 3 0 8 of the state 3 3 0 8
abbrev pub pulled_down_file : List ℕ
pulled_down_file =
    66 ∷ 83 ∷ 74 ∷ 51 ∷ 3 ∷ []
    ++ 1 ∷ 32 ∷ 0 ∷ 0 ∷ 0 ∷ 4 ∷ 0 ∷ 0 ∷ 0 ∷ []
    ++ 2 ∷ 36 ∷ 0 ∷ 0 ∷ 0 ∷ 32 ∷ 0 ∷ 0 ∷ 0 ∷ []
    ++ 3 ∷ 68 ∷ 0 ∷ 0 ∷ 0 ∷ 32 ∷ 0 ∷ 0 ∷ 0 ∷ []
    ++ 4 ∷ 4 ∷ 0 ∷ 0 ∷ []
    ++ 1 ∷ 0 ∷ 0 ∷ 0 ∷ 0 ∷ 0 ∷ 0 ∷ 0 ∷ []
    ++ 2 ∷ 0 ∷ 0 ∷ 0 ∷ 0 ∷ 0 ∷ 0 ∷ 0 ∷ []
    ++ 4 ∷ 0 ∷ 0 ∷ 0 ∷ 0 ∷ 0 ∷ 0 ∷ 0 ∷ []
    ++ 8 ∷ 0 ∷ 0 ∷ 0 ∷ 0 ∷ 0 ∷ 0 ∷ 0 ∷ []
    ++ 3 ∷ 0 ∷ 0 ∷ 0 ∷ 0 ∷ 0 ∷ 0 ∷ 0 ∷ []
    ++ 3 ∷ 0 ∷ 0 ∷ 0 ∷ 0 ∷ 0 ∷ 0 ∷ 0 ∷ []
    ++ 0 ∷ 0 ∷ 0 ∷ 0 ∷ 0 ∷ 0 ∷ 0 ∷ 0 ∷ []
    ++ 8 ∷ 0 ∷ 0 ∷ 0 ∷ 0 ∷ 0 ∷ 0 ∷ 0 ∷ []

-- a board of an old shelf, wired AND and soft level 0: n = 4, k = 4, all ones and the four vectors with a single 0, and
-- the responses 11 8 8 11 3 of the same state
abbrev pub old_shelf_file : List ℕ
old_shelf_file =
    66 ∷ 83 ∷ 74 ∷ 51 ∷ 3 ∷ []
    ++ 1 ∷ 32 ∷ 0 ∷ 0 ∷ 0 ∷ 4 ∷ 0 ∷ 0 ∷ 0 ∷ []
    ++ 2 ∷ 36 ∷ 0 ∷ 0 ∷ 0 ∷ 40 ∷ 0 ∷ 0 ∷ 0 ∷ []
    ++ 3 ∷ 76 ∷ 0 ∷ 0 ∷ 0 ∷ 40 ∷ 0 ∷ 0 ∷ 0 ∷ []
    ++ 4 ∷ 4 ∷ 0 ∷ 1 ∷ []
    ++ 15 ∷ 0 ∷ 0 ∷ 0 ∷ 0 ∷ 0 ∷ 0 ∷ 0 ∷ []
    ++ 14 ∷ 0 ∷ 0 ∷ 0 ∷ 0 ∷ 0 ∷ 0 ∷ 0 ∷ []
    ++ 13 ∷ 0 ∷ 0 ∷ 0 ∷ 0 ∷ 0 ∷ 0 ∷ 0 ∷ []
    ++ 11 ∷ 0 ∷ 0 ∷ 0 ∷ 0 ∷ 0 ∷ 0 ∷ 0 ∷ []
    ++ 7 ∷ 0 ∷ 0 ∷ 0 ∷ 0 ∷ 0 ∷ 0 ∷ 0 ∷ []
    ++ 11 ∷ 0 ∷ 0 ∷ 0 ∷ 0 ∷ 0 ∷ 0 ∷ 0 ∷ []
    ++ 8 ∷ 0 ∷ 0 ∷ 0 ∷ 0 ∷ 0 ∷ 0 ∷ 0 ∷ []
    ++ 8 ∷ 0 ∷ 0 ∷ 0 ∷ 0 ∷ 0 ∷ 0 ∷ 0 ∷ []
    ++ 11 ∷ 0 ∷ 0 ∷ 0 ∷ 0 ∷ 0 ∷ 0 ∷ 0 ∷ []
    ++ 3 ∷ 0 ∷ 0 ∷ 0 ∷ 0 ∷ 0 ∷ 0 ∷ 0 ∷ []

-- ---- a short form for such files, whose bytes, words, offsets and lengths are below 256

-- the mark and the number of entries
abbrev pub start : ℕ → List ℕ
start entries = text "BSJ3" ++ entries ∷ []

abbrev pub entry : (kind offset size : ℕ) → List ℕ
entry kind offset size = kind ∷ offset ∷ 0 ∷ 0 ∷ 0 ∷ size ∷ 0 ∷ 0 ∷ 0 ∷ []

-- the nets body, and how many bytes it has
abbrev pub nets_body : Network → ℕ → List ℕ
nets_body net k = net.nets ∷ k ∷ net.level ∷ net.gate ∷ []

abbrev pub nets_length : ℕ
nets_length = 4

abbrev pub words : List ℕ → List ℕ
words [] = []
words (word ∷ rest) = word ∷ 0 ∷ 0 ∷ 0 ∷ 0 ∷ 0 ∷ 0 ∷ 0 ∷ words rest

-- where the vectors begin, with two entries and with three
abbrev pub after_two : ℕ
after_two = 23 + nets_length

abbrev pub after_three : ℕ
after_three = 32 + nets_length

-- with responses, and without
abbrev pub job_file_of : Network → ℕ → (vectors responses : List ℕ) → List ℕ
job_file_of net k vectors responses =
    start 3
    ++ entry 1 32 nets_length
    ++ entry 2 after_three (8 * length vectors)
    ++ entry 3 (after_three + 8 * length vectors) (8 * length responses)
    ++ nets_body net k
    ++ words vectors
    ++ words responses

abbrev pub set_file_of : Network → ℕ → List ℕ → List ℕ
set_file_of net k vectors =
    start 2 ++ entry 1 23 nets_length ++ entry 2 after_two (8 * length vectors) ++ nets_body net k ++ words vectors

-- the same for n nets, wired OR and of soft level 1
abbrev pub job_file : (n k : ℕ) → (vectors responses : List ℕ) → List ℕ
job_file n k vectors responses = job_file_of (network_of n) k vectors responses

abbrev pub set_file : (n k : ℕ) → List ℕ → List ℕ
set_file n k vectors = set_file_of (network_of n) k vectors

pub record FileExamples : Type 0 where
  -- document 01's example, with the kinds 0, 1 and 2: what is written, what is read, and the report
  pub example_bytes : file_of 2 four 4 (0 ∷ 1 ∷ 2 ∷ 4 ∷ 8 ∷ []) (4 ∷ 7 ∷ 7 ∷ 4 ∷ 12 ∷ []) ≡ example_file
  pub example_content : read_answer example_file 5 5
      ≡ full (record { network = four; class = 4; kind = 2; vectors = 0 ∷ 1 ∷ 2 ∷ 4 ∷ 8 ∷ []; responses = 4 ∷ 7 ∷ 7 ∷ 4 ∷ 12 ∷ [] })
  pub example_report : report example_file ≡ text "pass 4 4 5\n0 2 3 2\n1 2 3 1\n2 1 0 0\n3 0 8 0\n"
  -- kind 3, at net 0
  pub both_bytes : file_of 2 two 2 (0 ∷ 1 ∷ 2 ∷ []) (0 ∷ 0 ∷ 3 ∷ []) ≡ both_file
  pub both_report : report both_file ≡ text "pass 2 2 3\n0 3 2 2\n1 2 2 1\n"
  -- and at both nets of a crossed pair
  pub crossed_report : report (job_file 2 2 (0 ∷ 1 ∷ 2 ∷ []) (0 ∷ 2 ∷ 1 ∷ [])) ≡ text "pass 2 2 3\n0 3 2 2\n1 3 1 1\n"
  -- without responses line one alone, here with a pair
  pub walking_bytes : file_of 2 four 4 (1 ∷ 2 ∷ 4 ∷ 8 ∷ []) [] ≡ walking_file
  pub walking_report : report walking_file ≡ text "pair 4 4 4 0 15\n"
  -- wired OR and soft level 0: the set passes without vector 0, and a line says of each net what the example says of it
  pub pulled_down_bytes : file_of 2 (wired_or 4 0) 4 (1 ∷ 2 ∷ 4 ∷ 8 ∷ []) (3 ∷ 3 ∷ 0 ∷ 8 ∷ []) ≡ pulled_down_file
  pub pulled_down_report : report pulled_down_file ≡ text "pass 4 4 4\n0 2 3 2\n1 2 3 1\n2 1 0 0\n3 0 8 0\n"
  -- wired AND and soft level 0: the set passes, and a line says of each net the same again
  pub old_shelf_bytes : file_of 2 (wired_and 4 0) 4 (15 ∷ 14 ∷ 13 ∷ 11 ∷ 7 ∷ []) (11 ∷ 8 ∷ 8 ∷ 11 ∷ 3 ∷ []) ≡ old_shelf_file
  pub old_shelf_content : read_answer old_shelf_file 5 5
      ≡ full
      (record { network = wired_and 4 0; class = 4; kind = 2; vectors = 15 ∷ 14 ∷ 13 ∷ 11 ∷ 7 ∷ []; responses = 11 ∷ 8 ∷ 8 ∷ 11 ∷ 3 ∷ [] })
  pub old_shelf_report : report old_shelf_file ≡ text "pass 4 4 5\n0 2 3 2\n1 2 3 1\n2 1 0 0\n3 0 8 0\n"
  -- without all ones it does not pass there, and does at soft level 1
  pub no_ones_report : report (set_file_of (wired_and 4 0) 4 (14 ∷ 13 ∷ 11 ∷ 7 ∷ [])) ≡ text "pair 4 4 4 0 15\n"
  pub no_ones_needed_report : report (set_file_of (wired_and 4 1) 4 (14 ∷ 13 ∷ 11 ∷ 7 ∷ [])) ≡ text "pass 4 4 4\n"
  -- a class from 4 to n - 1: n = 5, k = 4, walking ones alone, and four nets shorted
  pub class_4_report : report (job_file 5 4 (1 ∷ 2 ∷ 4 ∷ 8 ∷ 16 ∷ []) (15 ∷ 15 ∷ 15 ∷ 15 ∷ 16 ∷ []))
      ≡ text "pass 5 4 5\n0 2 15 14\n1 2 15 13\n2 2 15 11\n3 2 15 7\n4 0 16 0\n"
  pub class_4_pair_report : report (set_file 5 4 (16 ∷ 1 ∷ 20 ∷ 5 ∷ 8 ∷ 2 ∷ 14 ∷ [])) ≡ text "pair 5 4 7 19 23\n"
  pub class_4_of_11_report : report (set_file 11 4 (1 ∷ [])) ≡ text "refused 6\n"
  -- line one, then a refusal
  pub not_passed_report : report (job_file 4 4 (1 ∷ 2 ∷ 4 ∷ 8 ∷ []) (7 ∷ 7 ∷ 4 ∷ 12 ∷ [])) ≡ text "pair 4 4 4 0 15\nrefused 13\n"
  pub no_state_report : report (job_file 4 4 (0 ∷ 1 ∷ 2 ∷ 4 ∷ 8 ∷ []) (4 ∷ 7 ∷ 7 ∷ 4 ∷ 4 ∷ [])) ≡ text "pass 4 4 5\nrefused 14\n"
  -- a refusal alone
  pub empty_report : report [] ≡ text "refused 1\n"
  pub high_response_report : report (job_file 4 4 (0 ∷ []) (16 ∷ [])) ≡ text "refused 10\n"
  pub no_gate_report : report (set_file_of (network_with 4 1 2) 4 (0 ∷ [])) ≡ text "refused 20\n"
  -- the short form gives the files above
  pub example_short : job_file 4 4 (0 ∷ 1 ∷ 2 ∷ 4 ∷ 8 ∷ []) (4 ∷ 7 ∷ 7 ∷ 4 ∷ 12 ∷ []) ≡ example_file
  pub pulled_down_short : job_file_of (wired_or 4 0) 4 (1 ∷ 2 ∷ 4 ∷ 8 ∷ []) (3 ∷ 3 ∷ 0 ∷ 8 ∷ []) ≡ pulled_down_file
  pub old_shelf_short : job_file_of (wired_and 4 0) 4 (15 ∷ 14 ∷ 13 ∷ 11 ∷ 7 ∷ []) (11 ∷ 8 ∷ 8 ∷ 11 ∷ 3 ∷ []) ≡ old_shelf_file
  pub walking_short : set_file 4 4 (1 ∷ 2 ∷ 4 ∷ 8 ∷ []) ≡ walking_file
  -- and texts are bytes so
  pub text_bytes : text "pass 4 4 5\n" ≡ 112 ∷ 97 ∷ 115 ∷ 115 ∷ 32 ∷ 52 ∷ 32 ∷ 52 ∷ 32 ∷ 53 ∷ 10 ∷ []
