-- The report: what is said of a job file, as text. A job's nets have one receiver each: receiver i is on net i.
use Rattle.std.specs.Prelude.{ℕ, zero, suc, List, [], ◌∷◌, ◌++◌, length}
use Rattle.words.specs.Answers.{Answer, refused, full}
use Rattle.network.specs.declared.Network.{Network}
use Rattle.network.specs.OwnReceivers.{own_receivers}
use Rattle.checker.specs.declared.Verdict.{Verdict}
use Rattle.checker.specs.declared.Verdict.TheVariants.{Pass, Pair}
use Rattle.checker.specs.Rule.{verdict}
use Rattle.diagnosis.specs.Diagnosis.{diagnosis_answer}
use Rattle.findings.specs.declared.Finding.{Finding}
use Rattle.findings.specs.Findings.{finding}
use Rattle.jobfile.specs.Layout.{most_bytes}
use Rattle.reader.specs.Reader.{JobContent, read_answer}
use Rattle.decimal.specs.Decimal.{decimal, numbers_end}

-- `refused N`
unfoldable pub refused_line : ℕ → List ℕ
refused_line number = 114 ∷ 101 ∷ 102 ∷ 117 ∷ 115 ∷ 101 ∷ 100 ∷ numbers_end (number ∷ [])

-- line one, of n, k and the number of vectors: `pass n k v`, or `pair n k v A B`
unfoldable pub verdict_line : Network → ℕ → ℕ → Verdict → List ℕ
verdict_line net k count Pass = 112 ∷ 97 ∷ 115 ∷ 115 ∷ numbers_end (net.nets ∷ k ∷ count ∷ [])
verdict_line net k count (Pair a b) = 112 ∷ 97 ∷ 105 ∷ 114 ∷ numbers_end (net.nets ∷ k ∷ count ∷ a ∷ b ∷ [])

-- a line of a net: net, kind, reach, partners, as they are found at its one receiver
unfoldable pub net_line : ℕ → Finding → List ℕ
net_line i found = decimal i ++ numbers_end (found.kind ∷ found.reach ∷ found.partners ∷ [])

-- the lines of this many nets of a state, from net i on
unfoldable pub net_lines : Network → List ℕ → ℕ → ℕ → List ℕ
net_lines net state i zero = []
net_lines net state i (suc count) =
    net_line i (finding net (own_receivers net.nets) state i) ++ net_lines net state (suc i) count

abbrev pub diagnosis_text : Network → Answer (List ℕ) → List ℕ
diagnosis_text net (refused number) = refused_line number
diagnosis_text net (full state) = net_lines net state 0 net.nets

-- what follows line one: nothing if there are no responses; 48 words are enough for the state, one a receiver
abbrev pub responses_text : Network → ℕ → (vectors responses : List ℕ) → List ℕ
responses_text net k vectors [] = []
responses_text net k vectors (word ∷ words) =
    diagnosis_text net (diagnosis_answer net (own_receivers net.nets) k vectors (word ∷ words) 48)

unfoldable pub content_text : Network → ℕ → (vectors responses : List ℕ) → List ℕ
content_text net k vectors responses = verdict_line net k (length vectors) (verdict net k vectors) ++ responses_text net k vectors responses

abbrev pub job_text : Answer JobContent → List ℕ
job_text (refused number) = refused_line number
job_text (full job) = content_text job.network job.class job.vectors job.responses

-- the report on a file; 64 words are enough for the vectors, and for the responses
unfoldable pub report : List ℕ → List ℕ
report file = job_text (read_answer file 64 64)

-- how many of a file's first bytes decide its report: one more than a job file may have
abbrev pub deciding_bytes : ℕ
deciding_bytes = suc most_bytes
