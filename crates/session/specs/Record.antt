-- The session's record: what accepted calls leave in it, and how a record that waits for answers is told.
use Rattle.std.specs.Prelude.{ℕ, ◌-◌, Bool, true, not, ◌&&◌, List, [], ◌∷◌, ◌++◌, eqb, leb, length, take, drop, replicate}
use Rattle.words.specs.Bits.{at}
use Rattle.words.specs.Searching.{any}
use Rattle.network.specs.declared.Network.{Network}
use Rattle.network.specs.Rows.{board_refusal, has_high_bit}
use Rattle.steps.specs.FirstStep.{word_length}
use Rattle.steps.specs.SecondStep.{unclear}
use Rattle.session.specs.declared.Session.{Session}

-- the words, and 0 in the unused entries of an array of this size
abbrev pub pad : ℕ → List ℕ → List ℕ
pad size words = words ++ replicate (size - length words) 0

-- a record with these words and 0 in the unused entries; `owners` has the net of each receiver
abbrev pub record_of : (step : ℕ) → Network → (owners first reaches : List ℕ) → (spent : ℕ) → Session
record_of step net owners first reaches spent =
    record {
      step = step;
      network = net;
      receivers = length owners;
      owners = pad 64 owners;
      first = pad 8 first;
      reaches = pad 64 reaches;
      spent = spent;
    }

-- begun: it waits for first answers; the receivers stay until a session begins anew
abbrev pub awaiting_first : Network → (owners : List ℕ) → Session
awaiting_first net owners = record_of 1 net owners [] [] 0

-- these first answers received, and nets unclear: it waits for second answers
abbrev pub awaiting_second : Network → (owners answers : List ℕ) → Session
awaiting_second net owners answers = record_of 2 net owners answers [] 0

-- finished: the reaches and the number of vectors spent
abbrev pub finished : Network → (owners state : List ℕ) → ℕ → Session
finished net owners state spent = record_of 3 net owners [] state spent

-- ---- told by tests

-- this many words, all 0
unfoldable pub is_zeros : ℕ → List ℕ → Bool
is_zeros size words = eqb (length words) size && not (any (length words) (λ i. not (eqb (at words i) 0)))

unfoldable pub all_hold : List Bool → Bool
all_hold [] = true
all_hold (test ∷ tests) = let rest = all_hold tests in test && rest

-- the receivers that a record holds, by the net of each
abbrev pub held_owners : Session → List ℕ
held_owners session = take session.receivers session.owners

-- the first answers that a record holds
abbrev pub held_answers : Session → List ℕ
held_answers session = take (word_length session.network) session.first

-- a board that begin takes, at most 64 receivers and then zeros
abbrev pub board_held : Network → (receivers : ℕ) → (owners : List ℕ) → Bool
board_held net receivers owners =
    all_hold
    (leb receivers 64
    ∷ eqb (length owners) 64
    ∷ is_zeros (64 - receivers) (drop receivers owners)
    ∷ eqb (board_refusal net (take receivers owners)) 0
    ∷ [])

-- accepted calls leave this record, and it waits for first answers
unfoldable pub awaits_first : Session → Bool
awaits_first session =
    all_hold
    (eqb session.step 1
    ∷ board_held session.network session.receivers session.owners
    ∷ is_zeros 8 session.first
    ∷ is_zeros 64 session.reaches
    ∷ eqb session.spent 0
    ∷ [])

-- first answers that leave a net unclear, and then zeros
abbrev pub first_answers_held : Network → (owners first : List ℕ) → Bool
first_answers_held net owners first =
    all_hold
    (eqb (length first) 8
    ∷ is_zeros (8 - word_length net) (drop (word_length net) first)
    ∷ not (has_high_bit (length owners) (take (word_length net) first))
    ∷ not (eqb (length (unclear net owners (take (word_length net) first))) 0)
    ∷ [])

-- accepted calls leave this record, and it waits for second answers
unfoldable pub awaits_second : Session → Bool
awaits_second session =
    all_hold
    (eqb session.step 2
    ∷ board_held session.network session.receivers session.owners
    ∷ first_answers_held session.network (held_owners session) session.first
    ∷ is_zeros 64 session.reaches
    ∷ eqb session.spent 0
    ∷ [])
