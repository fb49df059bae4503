-- Results as words, and a session's record from words, for a caller that knows lists of words only.
use Rattle.std.specs.Prelude.{ℕ, ◌+◌, List, [], ◌∷◌, ◌++◌, length, take, drop}
use Rattle.words.specs.Bits.{at}
use Rattle.network.specs.Reading.{network_with}
use Rattle.checker.specs.declared.Verdict.{Verdict}
use Rattle.checker.specs.declared.Verdict.TheVariants.{Pass, Pair}
use Rattle.shorter.specs.Shorten.{Shorter}
use Rattle.findings.specs.declared.Finding.{Finding}
use Rattle.session.specs.declared.Session.{Session}
use Rattle.reader.specs.Reader.{JobContent}

-- 0 0 0 for pass, or 1 and the pair
unfoldable pub verdict_words : Verdict → List ℕ
verdict_words Pass = 0 ∷ 0 ∷ 0 ∷ []
verdict_words (Pair a b) = 1 ∷ a ∷ b ∷ []

-- how many vectors are kept, the checks made, the floor
unfoldable pub shorter_words : Shorter → List ℕ
shorter_words result = length result.kept ∷ result.checks ∷ result.floor ∷ []

-- kind, reach and partners of each receiver
unfoldable pub finding_words : List Finding → List ℕ
finding_words [] = []
finding_words (found ∷ table) = found.kind ∷ found.reach ∷ found.partners ∷ finding_words table

-- nets, level, gate, class, kind, number of vectors, number of responses
unfoldable pub job_words : JobContent → List ℕ
job_words job =
    job.network.nets ∷ job.network.level ∷ job.network.gate ∷ job.class ∷ job.kind ∷ length job.vectors
    ∷ length job.responses ∷ []

-- how many bytes a file has
abbrev pub size_words : List ℕ → List ℕ
size_words file = length file ∷ []

-- where the parts of a session's record stand among its words, and how many words it has
abbrev pub owners_place : ℕ
owners_place = 5

abbrev pub first_place : ℕ
first_place = owners_place + 64

abbrev pub reaches_place : ℕ
reaches_place = first_place + 8

abbrev pub spent_place : ℕ
spent_place = reaches_place + 64

abbrev pub session_size : ℕ
session_size = spent_place + 1

-- step, nets, level, gate, number of receivers
abbrev pub session_head : Session → List ℕ
session_head session =
    session.step ∷ session.network.nets ∷ session.network.level ∷ session.network.gate ∷ session.receivers ∷ []

-- then the nets of 64 receivers, 8 words of first answers, 64 reaches, vectors spent
unfoldable pub session_words : Session → List ℕ
session_words session =
    session_head session ++ session.owners ++ session.first ++ session.reaches ++ session.spent ∷ []

-- the record that so many words are
unfoldable pub session_of : List ℕ → Session
session_of words =
    record {
      step = at words 0;
      network = network_with (at words 1) (at words 2) (at words 3);
      receivers = at words 4;
      owners = take 64 (drop owners_place words);
      first = take 8 (drop first_place words);
      reaches = take 64 (drop reaches_place words);
      spent = at words spent_place;
    }
