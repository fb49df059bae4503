-- What is put into a file, part by part.
use Rattle.std.proofs.Common.{◌≡◌, refl, sym, ap, ap₂, ◌∙◌, ℕ, ◌+◌, ◌*◌, ◌-◌, ◌<◌, List, [], ◌∷◌, ◌++◌, append_assoc}
use Rattle.std.proofs.Common.{append-nil, arith, length, take, drop, drop-drop, length-append, length-drop, length-take-le}
use Rattle.std.proofs.Common.{take_all, drop_of_length-le}
use Rattle.std.proofs.lemmas.List.{take_more}
use borrow.Rule.Slice.PartMut.{put_mid}
use Rattle.words.specs.Answers.{full, lent_after}
use Rattle.words.specs.Bits.{at}
use Rattle.words.specs.Turning.{transpose}
use Rattle.words.specs.Writing.{written}
use Rattle.words.proofs.Answers.{front_written}
use Rattle.words.proofs.Columns.{transpose_size}
use Rattle.words.proofs.Writing.{written_front, written_next}
use Rattle.jobfile.specs.Bytes.{bytes_of, word_bytes}
use Rattle.jobfile.specs.Layout.{mark, entry_at, bodies_at, nets_size}
use Rattle.jobfile.proofs.ByteLaws.{word_bytes_count}
use Rattle.writer.specs.Writer.{entry_bytes, response_entry, entries_for, head_of}
use Rattle.writer.proofs.WriterLaws.{entry_size}

-- entries in place of the front of a list
pub front_put : (count : ℕ) (list new entries : List ℕ) → new ≡ entries → length entries ≡ count
    → new ++ drop count list ≡ lent_after (full entries) list
unfolding lent_after
front_put count list new entries e n = ap₂ (λ (front : List ℕ) (k : ℕ). front ++ drop k list) e (sym n)

-- entries put into the front of the list from a place on
pub part_put : (place width : ℕ) (list new entries : List ℕ)
    → new ≡ lent_after (full entries) (take width (drop place list)) → width ≡ length list - place
    → put_mid place width list new ≡ written list place entries
unfolding written lent_after
part_put place width list new entries e w =
    let rest = drop place list in
    let size = length-drop place list in
    let all : take width rest ≡ rest = take_all width rest (omega (arith, w, size)) in
    let none : drop width rest ≡ [] = drop_of_length-le rest {i = width} (omega (arith, w, size)) in
    ap (λ (tail : List ℕ). take place list ++ (new ++ tail)) none
    ∙ ap (λ (tail : List ℕ). take place list ++ tail) (append-nil new ∙ e)
    ∙ ap (λ (tail : List ℕ). take place list ++ (entries ++ drop (length entries) tail)) all
    ∙ ap (λ (tail : List ℕ). take place list ++ (entries ++ tail)) (drop-drop (length entries) place list)
    ∙ sym (append_assoc (take place list) entries (drop (place + length entries) list))

word_bytes_more : (words : List ℕ) (word : ℕ) → word_bytes (words ++ word ∷ []) ≡ word_bytes words ++ bytes_of 8 word
unfolding word_bytes
word_bytes_more [] word = append-nil (bytes_of 8 word)
word_bytes_more (first ∷ words) word =
    ap (λ (bytes : List ℕ). bytes_of 8 first ++ bytes) (word_bytes_more words word)
    ∙ sym (append_assoc (bytes_of 8 first) (word_bytes words) (bytes_of 8 word))

-- words, one after the other
module _ (lent : List ℕ) (words : List ℕ) where
  pub no_words_put : lent ≡ lent_after (full (word_bytes (take 0 words))) lent
  unfolding word_bytes lent_after
  no_words_put = refl

  -- a word more
  pub word_put : (before after : List ℕ) (place t : ℕ) → t < length words → place ≡ 8 * t
      → before ≡ lent_after (full (word_bytes (take t words))) lent → after ≡ written before place (bytes_of 8 (at words t))
      → after ≡ lent_after (full (word_bytes (take (t + 1) words))) lent
  word_put before after place t l p e f =
      let done = word_bytes (take t words) in
      let size = word_bytes_count (take t words) in
      let front = length-take-le t words (omega arith) in
      written_next lent before after 0 place done (bytes_of 8 (at words t)) (e ∙ sym (written_front lent done)) f
      (omega (arith, p, size, front)) (omega arith)
      ∙ written_front lent (done ++ bytes_of 8 (at words t))
      ∙ ap (λ (bytes : List ℕ). lent_after (full bytes) lent)
      (sym (ap word_bytes (take_more words t 0 l) ∙ word_bytes_more (take t words) (at words t)))

-- the sequential words at the front of an array
pub front : (nets : ℕ) (vectors lent list : List ℕ) → list ≡ lent_after (full (transpose nets vectors)) lent
    → take nets list ≡ transpose nets vectors
front nets vectors lent list e =
    ap (take nets) e ∙ ap (λ (n : ℕ). take n (lent_after (full (transpose nets vectors)) lent)) (sym (transpose_size nets vectors))
    ∙ front_written (transpose nets vectors) lent

-- a count, then words
pub turned_put : (file counted all words turned : List ℕ) (count : ℕ) → counted ≡ written file 0 (count ∷ [])
    → all ≡ written counted 1 (word_bytes words) → words ≡ turned → all ≡ lent_after (full (count ∷ word_bytes turned)) file
turned_put file counted all words turned count e f g =
    written_next file counted all 0 1 (count ∷ []) (word_bytes turned) e
    (f ∙ ap (λ (w : List ℕ). written counted 1 (word_bytes w)) g) refl (omega arith)
    ∙ written_front file (count ∷ word_bytes turned)

-- the parts of the head one after the other
pub head_put : (lent marked counted first second third responses : List ℕ) (n x y z kind size : ℕ)
    → marked ≡ written lent 0 mark → counted ≡ written marked 4 (n ∷ [])
    → first ≡ written counted (entry_at 0) (entry_bytes 1 x nets_size)
    → second ≡ written first (entry_at 1) (entry_bytes kind y size)
    → third ≡ written second (entry_at 2) (response_entry z responses)
    → third ≡ written lent 0 (mark ++ n ∷ entry_bytes 1 x nets_size ++ entry_bytes kind y size ++ response_entry z responses)
head_put lent marked counted first second third responses n x y z kind size e f g h i =
    let one = entry_bytes 1 x nets_size in
    let two = entry_bytes kind y size in
    let three = response_entry z responses in
    let p = entry_size 1 x nets_size in
    let q = entry_size kind y size in
    let r = length-append (mark ++ n ∷ one) two in
    let c : counted ≡ written lent 0 (mark ++ n ∷ []) =
    written_next lent marked counted 0 4 mark (n ∷ []) e f refl (omega arith) in
    let d : first ≡ written lent 0 (mark ++ n ∷ one) =
    written_next lent counted first 0 (entry_at 0) (mark ++ n ∷ []) one c g refl (omega arith) in
    let t : second ≡ written lent 0 (mark ++ n ∷ one ++ two) =
    written_next lent first second 0 (entry_at 1) (mark ++ n ∷ one) two d h (omega arith) (omega arith) in
    written_next lent second third 0 (entry_at 2) (mark ++ n ∷ one ++ two) three t i (omega arith) (omega arith)

-- they are the head
pub head_is : (lent third responses : List ℕ) (n x y z kind number size bytes : ℕ)
    → third ≡ written lent 0 (mark ++ n ∷ entry_bytes 1 x nets_size ++ entry_bytes kind y size ++ response_entry z responses)
    → n ≡ entries_for responses → x ≡ bodies_at (entries_for responses)
    → y ≡ bodies_at (entries_for responses) + nets_size → z ≡ bodies_at (entries_for responses) + nets_size + bytes
    → kind ≡ number → size ≡ bytes → third ≡ lent_after (full (head_of number bytes responses)) lent
head_is lent third responses n x y z kind number size bytes e a b c d f g =
    let is : third ≡ written lent 0 (head_of number bytes responses) = e ∙ rw (a, b, c, d, f, g) in
    is ∙ written_front lent (head_of number bytes responses)
