-- Each wrong program for turning and for the kinds of job files fails its promise at one input.
use Rattle.std.proofs.Common.{ℕ, zero, suc, ◌^◌, not-suc-le-zero, le_of_suc-le-suc, arith, ◌≡◌, refl, ap, Bool, true}
use Rattle.std.proofs.Common.{false, ◌&&◌, true≢false, List, [], ◌∷◌, ◌++◌, ltb, length, replicate, ltb-true}
use Rattle.words.specs.Answers.{Answer, refused, full, Filled}
use Rattle.words.specs.Bits.{at}
use Rattle.words.proofs.Tests.{and_left, and_right}
use Rattle.network.specs.Reading.{network_of}
use Rattle.turning.specs.Open.{open_turning}
use Rattle.jobfile.specs.Bytes.{AllBytes}
use Rattle.reader.specs.declared.Job.{Job}
use Rattle.reader.specs.Open.{open_reader}
use Rattle.writer.specs.Open.{open_writer}
use Rattle.listing.specs.Open.{open_listing}
use Rattle.demands.specs.Starred.{two}
use Rattle.demands.specs.FileExamples.{start, entry, nets_body, nets_length, after_two}
use Rattle.demands.specs.FileBounds.{longest_file as longest_2}
use Rattle.demands.specs.NetByNetCases.{last_vector, last_net, longest_file as longest_4}
use Rattle.demands.specs.TurnCalls.{Turns, TurnsBack, ThereAndBack}
use Rattle.demands.specs.JobFiles.{ReadDone, Writes, Reads, Exact, ReadsExchanged, KindsReadAlike, SizeLimits}
use Rattle.demands.specs.Reports.{KindsReportAlike}
use Rattle.demands.specs.KindTwo.{KindTwoAsBefore}
use Rattle.demands.specs.Programs.{our_turn, our_turn_back, our_reader, our_writer}
use Rattle.demands.specs.Refuted.{copies_vectors, copies_words, ignores_kind, writes_parallel, names_kind_2}
use Rattle.demands.specs.Refuted.{turns_but_most, turns_back_but_most, reads_but, writes_but, reports_but, accepts_longer}
use Rattle.demands.proofs.TurnCalls.{turns, turns_back, turn_determined_program, turn_back_determined_program}
use Rattle.demands.proofs.JobFiles.{writes, reads_files, writer_determined, reader_determined}

-- the first word of the list
first_word : Filled ℕ → ℕ
first_word did = at did.list 0

-- vectors 2 and 0 are turned into the words 0 and 1, and back
pub vectors_copied : ¬ (Turns copies_vectors)
unfolding open_turning first_word
vectors_copied claim =
    let z : ◌≡◌ {A = ℕ} 2 0 =
    ap first_word (turn_determined_program copies_vectors our_turn claim turns 2 (2 ∷ 0 ∷ []) (9 ∷ 9 ∷ [])) in
    omega arith

pub words_copied : ¬ (TurnsBack copies_words)
unfolding open_turning first_word
words_copied claim =
    let z : ◌≡◌ {A = ℕ} 0 2 =
    ap first_word (turn_back_determined_program copies_words our_turn_back claim turns_back 2 2 (0 ∷ 1 ∷ []) (9 ∷ 9 ∷ [])) in
    omega arith

-- two nets, vectors 2 and 0, and room for 64 bytes: byte 14 has the kind of the vectors' body
pub kind_ignored : ¬ (Writes ignores_kind)
unfolding open_writer
kind_ignored claim =
    let z : ◌≡◌ {A = ℕ} 2 4 =
    ap (λ (did : Filled ℕ). at did.list 14)
    (writer_determined ignores_kind our_writer claim writes 4 two 2 (2 ∷ 0 ∷ []) [] (replicate 64 9)) in
    omega arith

-- byte 28 has the low byte of the first word
pub written_parallel : ¬ (Writes writes_parallel)
unfolding open_writer
written_parallel claim =
    let z : ◌≡◌ {A = ℕ} 2 0 =
    ap (λ (did : Filled ℕ). at did.list 28)
    (writer_determined writes_parallel our_writer claim writes 4 two 2 (2 ∷ 0 ∷ []) [] (replicate 64 9)) in
    omega arith

-- two nets, a vector 0, net by net
abbrev file : List ℕ
file = start 2 ++ entry 1 23 nets_length ++ entry 4 after_two 17 ++ nets_body two 2 ++ 1 ∷ replicate 16 0

kind_said : Answer Job → ℕ
kind_said (refused number) = 0
kind_said (full job) = job.kind

pub kind_not_named : ¬ (Reads names_kind_2)
unfolding open_reader kind_said
kind_not_named claim =
    let z : ◌≡◌ {A = ℕ} 2 4 =
    ap (λ (did : ReadDone). kind_said did.returned)
    (reader_determined names_kind_2 our_reader claim reads_files file (9 ∷ []) []) in
    omega arith

-- ---- at the most nets and vectors, and at the longest files (`longest_2` is of 4 nets)

-- the last entry lent is still 0
pub most_not_turned : ¬ (Turns turns_but_most)
unfolding open_turning
most_not_turned claim =
    let z : ◌≡◌ {A = ℕ} 0 (2 ^ 63) =
    ap (λ (did : Filled ℕ). at did.list 47)
    (turn_determined_program turns_but_most our_turn claim turns 48 last_vector (replicate 48 0)) in
    omega arith

pub most_not_turned_back : ¬ (TurnsBack turns_back_but_most)
unfolding open_turning
most_not_turned_back claim =
    let z : ◌≡◌ {A = ℕ} 0 (2 ^ 47) =
    ap (λ (did : Filled ℕ). at did.list 63)
    (turn_back_determined_program turns_back_but_most our_turn_back claim turns_back 48 64 last_net (replicate 64 0)) in
    omega arith

pub there_not_back : ¬ (ThereAndBack our_turn turns_back_but_most)
unfolding open_turning
there_not_back claim =
    let z : ◌≡◌ {A = ℕ} 0 (2 ^ 47) =
    ap (λ (list : List ℕ). at list 63)
    (claim.turned_back 48 last_vector (replicate 48 0) (replicate 64 0) 48 refl (omega arith)).1 in
    omega arith

pub back_not_there : ¬ (ThereAndBack turns_but_most our_turn_back)
unfolding open_turning
back_not_there claim =
    let z : ◌≡◌ {A = ℕ} 0 (2 ^ 63) =
    ap (λ (list : List ℕ). at list 47)
    (claim.turned_again 48 64 last_net (replicate 64 0) (replicate 48 0) 64 refl (omega arith)).1 in
    omega arith

-- 48 nets, and 64 vectors and as many responses, all 0: the longest files
abbrev zeros : List ℕ
zeros = replicate 64 0

abbrev nines : List ℕ
nines = replicate 64 9

-- a list of bytes, by a test
all_small : List ℕ → Bool
all_small [] = true
all_small (byte ∷ rest) = ltb byte 256 && all_small rest

bytes_by_test : (file : List ℕ) → all_small file ≡ true → AllBytes file
unfolding all_small
bytes_by_test [] e i l = absurd (not-suc-le-zero l)
bytes_by_test (byte ∷ rest) e zero l = ltb-true byte 256 (and_left (ltb byte 256) (all_small rest) e)
bytes_by_test (byte ∷ rest) e (suc i) l =
    bytes_by_test rest (and_right (ltb byte 256) (all_small rest) e) i (le_of_suc-le-suc l)

pub longest_not_read : ¬ (Exact (reads_but 1060) our_writer)
unfolding open_writer open_reader
longest_not_read claim =
    let z : ◌≡◌ {A = ℕ} 9 0 =
    ap (λ (list : List ℕ). at list 0)
    (claim.written_is_read 2 (network_of 48) 48 zeros zeros (replicate 1060 0) nines nines 1060 refl (omega arith) (omega arith)).1 in
    omega arith

pub longest_not_read_4 : ¬ (Exact (reads_but 933) our_writer)
unfolding open_writer open_reader
longest_not_read_4 claim =
    let z : ◌≡◌ {A = ℕ} 9 0 =
    ap (λ (list : List ℕ). at list 0)
    (claim.written_is_read 4 (network_of 48) 48 zeros zeros (replicate 933 0) nines nines 933 refl (omega arith) (omega arith)).1 in
    omega arith

-- byte 0 of a file is 66
pub longest_not_written : ¬ (Exact our_reader (writes_but 1060))
unfolding open_writer open_reader all_small
longest_not_written claim =
    let z : ◌≡◌ {A = ℕ} 0 66 =
    ap (λ (list : List ℕ). at list 0)
    (claim.read_is_written longest_2 nines nines (replicate 1060 0) _ (bytes_by_test longest_2 refl) refl (omega arith)).1 in
    omega arith

pub longest_not_written_4 : ¬ (Exact our_reader (writes_but 933))
unfolding open_writer open_reader all_small
longest_not_written_4 claim =
    let z : ◌≡◌ {A = ℕ} 0 66 =
    ap (λ (list : List ℕ). at list 0)
    (claim.read_is_written longest_4 nines nines (replicate 933 0) _ (bytes_by_test longest_4 refl) refl (omega arith)).1 in
    omega arith

pub longest_not_read_as_before : ¬ (KindTwoAsBefore (reads_but 1060) our_writer)
unfolding open_reader
longest_not_read_as_before claim =
    let z : ◌≡◌ {A = ℕ} 9 0 =
    ap (λ (did : ReadDone). at did.vectors 0) (claim.read longest_2 nines nines (λ four. omega (arith, four))) in
    omega arith

pub longest_not_written_as_before : ¬ (KindTwoAsBefore our_reader (writes_but 1060))
unfolding open_writer
longest_not_written_as_before claim =
    let z : ◌≡◌ {A = ℕ} 0 66 =
    ap (λ (did : Filled ℕ). at did.list 0) (claim.written (network_of 48) 48 zeros zeros (replicate 1060 0)) in
    omega arith

pub longest_not_exchanged : ¬ (ReadsExchanged (reads_but 933))
unfolding open_reader
longest_not_exchanged claim =
    let z : ◌≡◌ {A = Bool} true false = (claim longest_4 nines nines _ refl refl).bits 0 0 (omega arith) (omega arith) in
    true≢false z

pub longest_read_otherwise : ¬ (KindsReadAlike (reads_but 933) our_writer)
unfolding open_writer open_reader
longest_read_otherwise claim =
    let z : ◌≡◌ {A = ℕ} 9 0 =
    ap (λ (list : List ℕ). at list 0)
    (claim (network_of 48) 48 zeros zeros (replicate 1060 0) (replicate 933 0) nines nines 1060 933 refl refl).1 in
    omega arith

pub longest_reported_otherwise : ¬ (KindsReportAlike (reports_but 933) our_writer)
unfolding open_writer open_listing
longest_reported_otherwise claim =
    let z = ap length (claim (network_of 48) 48 zeros zeros (replicate 1060 0) (replicate 933 0) 1060 933 refl refl) in
    omega (arith, z)

-- files that are one byte too long
pub longer_accepted : ¬ (SizeLimits (accepts_longer 1061 2))
unfolding all_small
longer_accepted claim = let l = (claim (replicate 1061 0) [] [] _ (bytes_by_test (replicate 1061 0) refl) refl).0 in omega (arith, l)

pub longer_of_kind_4 : ¬ (SizeLimits (accepts_longer 934 4))
unfolding all_small
longer_of_kind_4 claim = let l = (claim (replicate 934 0) [] [] _ (bytes_by_test (replicate 934 0) refl) refl).1 refl in omega (arith, l)
