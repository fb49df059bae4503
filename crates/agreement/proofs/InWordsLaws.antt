-- What a call writes as words is the words of what the program writes.
use Rattle.std.proofs.Common.{arith, ℕ, ◌/◌, ◌≤◌, ◌≡◌, refl, sym, ap, ◌∙◌, List, [], ◌∷◌, ◌++◌, length}
use Rattle.words.specs.Answers.{Answer, refused, full, lent_after, count_of}
use Rattle.network.specs.declared.Network.{Network}
use Rattle.findings.specs.declared.Finding.{Finding}
use Rattle.findings.specs.FindingsTable.{findings_answer}
use Rattle.findings.proofs.FindingsLaws.{records_fit}
use Rattle.packing.specs.Packed.{finding_words}
use Rattle.exports.specs.Exported.{code, in_words}
use Rattle.exports.proofs.CallLaws.{code_counted}
use Rattle.demands.specs.Programs.{our_findings}
use Rattle.agreement.specs.InWords.{records_of, rest_of}

-- ---- tables

records_size : (words : List ℕ) → length (records_of words) ≡ length words / 3
unfolding records_of
records_size [] = refl
records_size (a ∷ []) = refl
records_size (a ∷ b ∷ []) = refl
records_size (a ∷ b ∷ c ∷ words) = let more = records_size words in omega arith

records_there : (words : List ℕ) → finding_words (records_of words) ++ rest_of words ≡ words
unfolding records_of rest_of finding_words
records_there [] = refl
records_there (a ∷ []) = refl
records_there (a ∷ b ∷ []) = refl
records_there (a ∷ b ∷ c ∷ words) = ap (λ (more : List ℕ). a ∷ b ∷ c ∷ more) (records_there words)

-- records put into the front of a table of words
records_put : (records : List Finding) (words : List ℕ) → length records ≤ length (records_of words)
    → lent_after (full (finding_words records)) words ≡ finding_words (lent_after (full records) (records_of words)) ++ rest_of words
unfolding records_of rest_of finding_words lent_after
records_put [] words l = sym (records_there words)
records_put (found ∷ records) [] l = absurd (omega arith)
records_put (found ∷ records) (a ∷ []) l = absurd (omega arith)
records_put (found ∷ records) (a ∷ b ∷ []) l = absurd (omega arith)
records_put (found ∷ records) (a ∷ b ∷ c ∷ words) l =
    ap (λ (more : List ℕ). found.kind ∷ found.reach ∷ found.partners ∷ more) (records_put records words (omega arith))

table_words : (a : Answer (List Finding)) (words : List ℕ)
    → ((records : List Finding) → a ≡ full records → length records ≤ length (records_of words))
    → lent_after (in_words finding_words a) words ≡ finding_words (lent_after a (records_of words)) ++ rest_of words
unfolding in_words lent_after
table_words (refused number) words fits = sym (records_there words)
table_words (full records) words fits = records_put records words (fits records refl)

pub found_in_words : (net : Network) (owners state words table : List ℕ) (number : ℕ) → let room = length words / 3 in
    number ≡ code (findings_answer net owners state room)
    → table ≡ lent_after (in_words finding_words (findings_answer net owners state room)) words
    → let did = our_findings net owners state (records_of words) in
    (number ≡ code did.returned) × (table ≡ finding_words did.list ++ rest_of words)
found_in_words net owners state words table number e f =
    let a = findings_answer net owners state (length (records_of words)) in
    let same : findings_answer net owners state (length words / 3) ≡ a =
    ap (findings_answer net owners state) (sym (records_size words)) in (
      e ∙ ap code same ∙ sym (code_counted a (count_of a) refl),
      f ∙ ap (λ (b : Answer (List Finding)). lent_after (in_words finding_words b) words) same
          ∙ table_words a words (records_fit net owners state (length (records_of words))),
    )
