-- Words put into lists, and a session's record as words, there and back.
use Rattle.std.proofs.Common.{arith, ℕ, ◌+◌, ◌-◌, ◌≡◌, sym, ap, ap₂, ◌∙◌, List, [], ◌∷◌, ◌++◌, append_assoc}
use Rattle.std.proofs.Common.{append-nil, length, take, drop, length-append, length-drop, take-append-drop}
use Rattle.std.proofs.Common.{drop_of_length-le, take_all, drop-drop, drop-cons, length-take-le, take_at, drop_at}
use lib.Seq.{get_or_at}
use borrow.Rule.Slice.PartMut.{put_mid}
use Rattle.words.specs.Bits.{at}
use Rattle.words.specs.Answers.{full, lent_after}
use Rattle.words.specs.Writing.{written}
use Rattle.words.proofs.Writing.{written_next, written_front}
use Rattle.session.specs.declared.Session.{Session}
use Rattle.packing.specs.Packed.{owners_place, first_place, reaches_place, spent_place, session_size}
use Rattle.packing.specs.Packed.{session_head, session_words, session_of}

-- words put into the part of a list that has room for just them
pub part_written : (place count : ℕ) (out from : List ℕ) → length from ≡ count → put_mid place count out from ≡ written out place from
unfolding written
part_written place count out from e =
    ap (λ (rest : List ℕ). take place out ++ (from ++ rest))
    (drop-drop count place out ∙ ap (λ (n : ℕ). drop (place + n) out) (sym e))
    ∙ sym (append_assoc (take place out) from (drop (place + length from) out))

-- a list that is filled to its end
pub all_written : (words lent : List ℕ) → length words ≡ length lent → lent_after (full words) lent ≡ words
unfolding lent_after
all_written words lent e =
    ap (λ (rest : List ℕ). words ++ rest) (drop_of_length-le lent {i = length words} (omega arith))
    ∙ append-nil words

-- the five parts of a record, put one after the other
pub session_written : (session : Session) (lent headed owned answered reached all : List ℕ)
    → length session.owners ≡ 64
    → length session.first ≡ 8 → length session.reaches ≡ 64
    → headed ≡ written lent 0 (session_head session) → owned ≡ written headed owners_place session.owners
    → answered ≡ written owned first_place session.first
    → reached ≡ written answered reaches_place session.reaches → all ≡ written reached spent_place (session.spent ∷ [])
    → all ≡ lent_after (full (session_words session)) lent
unfolding session_words
session_written session lent headed owned answered reached all owners_size first_size reaches_size a b c d e =
    let head = session_head session in
    let two : owned ≡ written lent 0 (head ++ session.owners) =
    written_next lent headed owned 0 owners_place head session.owners a b (omega arith) (omega arith) in
    let three : answered ≡ written lent 0 (head ++ session.owners ++ session.first) =
    written_next lent owned answered 0 first_place (head ++ session.owners) session.first two c (omega arith)
    (omega arith) in
    let lists = length-append session.owners session.first in
    let four : reached ≡ written lent 0 (head ++ session.owners ++ session.first ++ session.reaches) =
    written_next lent answered reached 0 reaches_place (head ++ session.owners ++ session.first)
    session.reaches three d
    (omega arith) (omega arith) in
    let size = length-append (session.owners ++ session.first) session.reaches in
    written_next lent reached all 0 spent_place (head ++ session.owners ++ session.first ++ session.reaches)
    (session.spent ∷ [])
    four e (omega arith) (omega arith)
    ∙ written_front lent (session_words session)

-- lists appended one after the other, and each to what comes after it
appended : (owners first reaches rest : List ℕ)
    → owners ++ first ++ reaches ++ rest ≡ owners ++ (first ++ (reaches ++ rest))
appended owners first reaches rest =
    append_assoc (owners ++ first) reaches rest ∙ append_assoc owners first (reaches ++ rest)

-- the words of the record that so many words are
pub session_there : (words : List ℕ) → length words ≡ session_size → session_words (session_of words) ≡ words
unfolding session_words session_of
session_there words e =
    let owners = take 64 (drop owners_place words) in
    let answers = take 8 (drop first_place words) in
    let states = take 64 (drop reaches_place words) in
    let front : words ≡ at words 0 ∷ at words 1 ∷ at words 2 ∷ at words 3 ∷ at words 4 ∷ drop owners_place words =
    drop-cons words 0 0 (omega arith)
    ∙ ap (λ (rest : List ℕ). at words 0 ∷ rest)
    (drop-cons words 1 0 (omega arith) ∙ ap (λ (rest : List ℕ). at words 1 ∷ rest)
    (drop-cons words 2 0 (omega arith) ∙ ap (λ (rest : List ℕ). at words 2 ∷ rest)
    (drop-cons words 3 0 (omega arith) ∙ ap (λ (rest : List ℕ). at words 3 ∷ rest)
    (drop-cons words 4 0 (omega arith))))) in
    let spent : drop spent_place words ≡ at words spent_place ∷ [] =
    drop-cons words spent_place 0 (omega arith)
    ∙ ap (λ (rest : List ℕ). at words spent_place ∷ rest) (drop_of_length-le words {i = session_size} (omega arith)) in
    let tail : owners ++ answers ++ states ++ at words spent_place ∷ [] ≡ drop owners_place words =
    appended owners answers states (at words spent_place ∷ [])
    ∙ ap (λ (rest : List ℕ). owners ++ (answers ++ (states ++ rest))) (sym spent)
    ∙ ap (λ (rest : List ℕ). owners ++ (answers ++ rest)) (together 64 reaches_place words)
    ∙ ap (λ (rest : List ℕ). owners ++ rest) (together 8 first_place words) ∙ together 64 owners_place words in
    ap (λ (rest : List ℕ). at words 0 ∷ at words 1 ∷ at words 2 ∷ at words 3 ∷ at words 4 ∷ rest) tail ∙ sym front
  where
    -- so many words from a place on, and the rest
    together : (count place : ℕ) (words : List ℕ)
        → take count (drop place words) ++ drop (place + count) words ≡ drop place words
    together count place words =
        ap (λ (rest : List ℕ). take count (drop place words) ++ rest) (sym (drop-drop count place words))
        ∙ take-append-drop count (drop place words)

-- ---- a record with arrays of 64, 8 and 64 words

pub record Sized (session : Session) : Type 0 where
  pub owners_size : length session.owners ≡ 64
  pub first_size : length session.first ≡ 8
  pub reaches_size : length session.reaches ≡ 64

-- the record that so many words are is such
pub session_sized : (words : List ℕ) → length words ≡ session_size → Sized (session_of words)
unfolding session_of
session_sized words e = record {
  owners_size = length-take-le 64 (drop owners_place words) (omega (arith, length-drop owners_place words));
  first_size = length-take-le 8 (drop first_place words) (omega (arith, length-drop first_place words));
  reaches_size = length-take-le 64 (drop reaches_place words) (omega (arith, length-drop reaches_place words));
}

module _ (session : Session) (sized : Sized session) where
  lists_size : length (session.owners ++ session.first ++ session.reaches) ≡ 136
  lists_size =
      let lists = length-append session.owners session.first in
      length-append (session.owners ++ session.first) session.reaches
      ∙ omega (arith, sized.owners_size, sized.first_size, sized.reaches_size)

  pub words_size : length (session_words session) ≡ session_size
  unfolding session_words
  words_size =
      let all = length-append (session.owners ++ session.first ++ session.reaches) (session.spent ∷ []) in
      omega (arith, lists_size)

  -- the record that its words are
  pub session_back : session_of (session_words session) ≡ session
  unfolding session_words session_of
  session_back j = record {
    step = session.step;
    network = session.network;
    receivers = session.receivers;
    owners = owners_back j;
    first = first_back j;
    reaches = reaches_back j;
    spent = get_or_at (session.owners ++ session.first ++ session.reaches) session.spent [] 0 136 lists_size j;
  }
    where
      apart : session.owners ++ session.first ++ session.reaches ++ session.spent ∷ []
          ≡ session.owners ++ (session.first ++ (session.reaches ++ session.spent ∷ []))
      apart = appended session.owners session.first session.reaches (session.spent ∷ [])

      owners_back : take 64 (session.owners ++ session.first ++ session.reaches ++ session.spent ∷ [])
          ≡ session.owners
      owners_back = ap (take 64) apart ∙ take_at session.owners _ 64 sized.owners_size

      after_owners : drop 64 (session.owners ++ session.first ++ session.reaches ++ session.spent ∷ [])
          ≡ session.first ++ (session.reaches ++ session.spent ∷ [])
      after_owners = ap (drop 64) apart ∙ drop_at session.owners _ 64 sized.owners_size

      first_back : take 8 (drop 64 (session.owners ++ session.first ++ session.reaches ++ session.spent ∷ []))
          ≡ session.first
      first_back = ap (take 8) after_owners ∙ take_at session.first _ 8 sized.first_size

      reaches_back : take 64 (drop 72 (session.owners ++ session.first ++ session.reaches ++ session.spent ∷ []))
          ≡ session.reaches
      reaches_back =
          ap (take 64)
          (sym (drop-drop 8 64 (session.owners ++ session.first ++ session.reaches ++ session.spent ∷ []))
          ∙ ap (drop 8) after_owners ∙ drop_at session.first _ 8 sized.first_size)
          ∙ take_at session.reaches (session.spent ∷ []) 64 sized.reaches_size
