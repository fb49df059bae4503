-- What an exported call owes: the number returned, and the lists lent.
use Rattle.std.proofs.Common.{ℕ, ◌≡◌, refl, sym, ap, ◌∙◌, List, length}
use Rattle.std.specs.Prelude.{Result, Ok, Err}
use Rattle.network.specs.declared.refusal.Refusal.{Refusal}
use Rattle.network.specs.Refusing.{answer_of}
use Rattle.words.specs.Answers.{Answer, refused, full, lent_after, count_of}
use Rattle.words.proofs.Answers.{counted_full}
use Rattle.shorter.specs.Shorten as Shorten
use Rattle.session.specs.declared.Session.{Session}
use Rattle.session.specs.Calls.{Stepped, stepped, code_of}
use Rattle.reader.specs.Reader.{JobContent, counted}
use Rattle.packing.specs.Packed.{size_words, shorter_words, job_words, session_size, session_words, session_of}
use Rattle.packing.proofs.Words.{session_there}
use Rattle.exports.specs.Exported.{code, in_words, fixed_after}
use Rattle.exports.specs.Exported.{returned_shorter_words, returned_job_words, returned_size_words}

-- ---- a refusal, and a result

module _ {A : Type 0} (a : Answer A) (number : ℕ) (e : a ≡ refused number) where
  pub code_refused : number ≡ code a
  unfolding code
  code_refused = rw e

  pub words_refused : (words : A → List ℕ) (lent : List ℕ) → lent ≡ lent_after (in_words words a) lent
  unfolding in_words lent_after
  words_refused words lent = rw e

module _ {A : Type 0} (a : Answer A) (x : A) (e : a ≡ full x) where
  pub code_full : 0 ≡ code a
  unfolding code
  code_full = rw e

  pub words_full : (words : A → List ℕ) (lent list : List ℕ) → list ≡ lent_after (full (words x)) lent
      → list ≡ lent_after (in_words words a) lent
  unfolding in_words
  words_full words lent list l = rw e l

-- ---- a call that returns how much it wrote

pub code_counted : {A : Type 0} (a : Answer (List A)) (n : Answer ℕ) → n ≡ count_of a → code n ≡ code a
unfolding code count_of
code_counted (refused number) n said = ap code said
code_counted (full xs) n said = ap code said

-- ---- what a call returns, in words

code_words : {A : Type 0} (words : A → List ℕ) (a : Answer A) → code (in_words words a) ≡ code a
unfolding code in_words
code_words words (refused number) = refl
code_words words (full x) = refl

-- the words of what it returns are those of its answer: then so are the number, and a list lent for the words
module _ {A B : Type 0} (words : A → List ℕ) (returned : B → List ℕ) (a : Answer A) (n counted : Answer B) (e : n ≡ counted)
    (same : in_words words a ≡ in_words returned counted) where
  pub code_returned : code n ≡ code a
  code_returned = ap code e ∙ sym (code_words returned counted) ∙ ap code (sym same) ∙ code_words words a

  pub fixed_returned : (lent after : List ℕ) → after ≡ fixed_after (in_words returned n) lent
      → after ≡ fixed_after (in_words words a) lent
  fixed_returned lent after said =
      said ∙ ap (λ (written : Answer (List ℕ)). fixed_after written lent) (ap (in_words returned) e ∙ sym same)

pub shortened_in_words : (a : Answer Shorten.Shorter)
    → in_words shorter_words a ≡ in_words returned_shorter_words (Shorten.counted a)
unfolding in_words shorter_words
shortened_in_words (refused number) = refl
shortened_in_words (full result) = refl

pub read_in_words : (a : Answer JobContent) → in_words job_words a ≡ in_words returned_job_words (counted a)
unfolding in_words job_words
read_in_words (refused number) = refl
read_in_words (full job) = refl

pub wrote_in_words : (a : Answer (List ℕ)) → in_words size_words a ≡ in_words returned_size_words (count_of a)
unfolding in_words count_of
wrote_in_words (refused number) = refl
wrote_in_words (full bytes) = refl

-- ---- a call on a session

pub answered_code : {A : Type 0} (r : Result A Refusal) → code (answer_of r) ≡ code_of r
unfolding code
answered_code (Ok x) = refl
answered_code (Err refusal) = refl

pub stepped_code : (a : Answer (List ℕ)) (new old : Session) → (stepped a new old).code ≡ code a
unfolding stepped code
stepped_code (refused number) new old = refl
stepped_code (full words) new old = refl

-- what the call leaves in the words: those of the record after it
pub stepped_words : (a : Answer (List ℕ)) (new : Session) (words : List ℕ) → length words ≡ session_size
    → session_words (stepped a new (session_of words)).session
    ≡ fixed_after (in_words (λ _. session_words (stepped a new (session_of words)).session) a) words
unfolding stepped in_words fixed_after
stepped_words (refused number) new words size = session_there words size
stepped_words (full list) new words size = refl

-- by what a call answers on a record, and what it does to it
module _ (answer : Session → Answer (List ℕ)) (done : Session → Stepped)
    (by_answer : (session : Session) → (new : Session) × (done session ≡ stepped (answer session) new session))
    (words : List ℕ) (held : Session) (same : held ≡ session_of words) where
  pub step_code : (number : ℕ) → number ≡ (done held).code → number ≡ code (answer (session_of words))
  step_code number e =
      let by = by_answer (session_of words) in
      e ∙ ap (λ (session : Session). (done session).code) same ∙ ap (λ (d : Stepped). d.code) by.1
      ∙ stepped_code (answer (session_of words)) by.0 (session_of words)

  pub step_words : (new : Session) (after : List ℕ) → length words ≡ session_size → new ≡ (done held).session
      → after ≡ session_words new
      → after ≡ fixed_after (in_words (λ _. session_words (done (session_of words)).session) (answer (session_of words))) words
  step_words new after size e f =
      let by = by_answer (session_of words) in
      f ∙ ap session_words (e ∙ ap (λ (session : Session). (done session).session) same)
      ∙ rw by.1 (stepped_words (answer (session_of words)) by.0 words size)
