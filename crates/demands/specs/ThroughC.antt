-- The session's calls through the C interface, one after the other: what they do to a session's words is what they do
-- to the record that the words are.
use Rattle.std.specs.Prelude.{ℕ, ◌≡◌, cond, List, [], ◌∷◌, eqb, length, take}
use Rattle.words.specs.Bits.{at}
use Rattle.words.specs.Answers.{Answer, full, lent_after}
use Rattle.network.specs.Reading.{network_with}
use Rattle.session.specs.declared.Session.{Session}
use Rattle.session.specs.Calls.{begin_answer, first_answer, second_answer}
use Rattle.packing.specs.Packed.{session_size, session_of}
use Rattle.exports.specs.Exported.{code, fixed_after, session_begun, session_first, session_second, drive_count}
use Rattle.demands.specs.SessionCalls.{Call, begin, first, second, lent, record_after}
use Rattle.demands.specs.Programs.{our_sessions, our_drive}

-- what one exported call did: the number that it returned, the list lent for vectors after it, the session's words
-- after it
pub record DidInWords : Type 0 where
  pub returned : ℕ
  pub list : List ℕ
  pub session : List ℕ

-- by the contracts of the C interface: the answer, and the session's words if it is accepted
abbrev pub exported_answer : List ℕ → Call → Answer (List ℕ)
exported_answer words (begin net owners list) = begin_answer (network_with net.nets net.level net.gate) owners (length list)
exported_answer words (first answers list) = first_answer (session_of words) answers (length list)
exported_answer words (second answers) = second_answer (session_of words) answers

abbrev pub exported_session : List ℕ → Call → Answer (List ℕ)
exported_session words (begin net owners list) =
    session_begun words (network_with net.nets net.level net.gate) owners (length list)
exported_session words (first answers list) = session_first words answers (length list)
exported_session words (second answers) = session_second words answers

abbrev pub exported : List ℕ → Call → DidInWords
exported words call = record {
  returned = code (exported_answer words call);
  list = lent_after (exported_answer words call) (lent call);
  session = fixed_after (exported_session words call) words;
}

-- the session's words after a list of calls, each with the words as the one before left them
abbrev pub words_after : List ℕ → List Call → List ℕ
words_after words [] = words
words_after words (call ∷ calls) = words_after (exported words call).session calls

-- After a list of calls they are as many words still, and the record that they are is the one that the calls leave. A
-- further call returns and writes what it does on that record, and returns 0 only if it is accepted there. The part to
-- drive begins the first list if the first word is 1, else the second.
pub record SameInWords (words : List ℕ) (start : Session) (calls : List Call) : Type 0 where
  pub size : length (words_after words calls) ≡ session_size
  pub session : session_of (words_after words calls) ≡ record_after our_sessions start calls
  pub returned : (call : Call)
      → (exported (words_after words calls) call).returned
      ≡ code (our_sessions (record_after our_sessions start calls) call).answer
  pub accepted : (call : Call) → (exported (words_after words calls) call).returned ≡ 0
      → (written : List ℕ) × ((our_sessions (record_after our_sessions start calls) call).answer ≡ full written)
  pub list : (call : Call) → (exported (words_after words calls) call).list ≡ (our_sessions (record_after our_sessions start calls) call).list
  pub drive_size : (one two : List ℕ)
      → drive_count (words_after words calls) one two
      ≡ length (our_drive (record_after our_sessions start calls) one two)
  pub drive : (one two : List ℕ)
      → take (drive_count (words_after words calls) one two) (cond (eqb (at (words_after words calls) 0) 1) one two)
      ≡ our_drive (record_after our_sessions start calls) one two

-- from any words of that number, over every list of calls
abbrev pub SessionsThroughC : Type 0
SessionsThroughC = (words : List ℕ) → length words ≡ session_size → (calls : List Call) → SameInWords words (session_of words) calls
