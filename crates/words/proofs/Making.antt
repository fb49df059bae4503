-- Words made bit by bit, and lists filled from the front, as loops do it.
use Rattle.std.proofs.Common.{◌≡◌, refl, sym, ap, ap₂, ◌∙◌, Bool, true, false, List, [], ◌∷◌, ◌++◌, map, ℕ, zero, suc}
use Rattle.std.proofs.Common.{◌+◌, ◌*◌, ◌%◌, ◌^◌, ◌≤◌, ◌<◌, pow-suc, one-mul, le_of_suc-le-suc, not-suc-le-zero}
use Rattle.std.proofs.Common.{add-one, arith, lit<, shl_exact, length, take, drop, get_or, set, take-suc, drop-cons}
use Rattle.std.proofs.Common.{length-take-le, take_all, bit_or}
use lib.ListN.{length-map}
use lib.Seq.{set_at, append_snoc}
use lib.Bits.{or_shifted_r}
use Rattle.words.specs.Bits.{has, bit_value, word, at}
use Rattle.words.proofs.Bits.{has_zero, has_lowest, has_rest, bit_value_below_two, bit_value_is, words_equal}

-- `1u64 << i`
pub shifted_one : (i : ℕ) → i < 64 → 1 * 2 ^ i % 2 ^ 64 ≡ 2 ^ i
shifted_one i h = shl_exact 1 i 64 (lit< tt) (omega arith) ∙ one-mul (2 ^ i)

-- ---- a word by its bits

word_below : (bs : List Bool) → word bs < 2 ^ length bs
unfolding word
word_below [] = omega arith
word_below (b ∷ bs) = rw (pow-suc 2 (length bs)) (omega (arith, word_below bs, bit_value_below_two b))

has_word : (bs : List Bool) (i : ℕ) → has (word bs) i ≡ get_or bs i false
unfolding word
has_word [] i = has_zero i
has_word (b ∷ bs) zero = has_lowest (bit_value b) (word bs) (bit_value_below_two b) ∙ bit_value_is b
has_word (b ∷ bs) (suc i) = has_rest (bit_value b) (word bs) i (bit_value_below_two b) ∙ has_word bs i

-- entry i of a list worked out entry by entry
pub map_at : {B : Type 0} (f : ℕ → B) (d : B) (xs : List ℕ) (i : ℕ) → i < length xs → get_or (map f xs) i d ≡ f (at xs i)
map_at f d [] i l = absurd (not-suc-le-zero l)
map_at f d (x ∷ xs) zero l = refl
map_at f d (x ∷ xs) (suc i) l = map_at f d xs i (le_of_suc-le-suc l)

-- the word that has bit i where f passes at entry i
module _ (f : ℕ → Bool) (xs : List ℕ) where
  pub has_made : (i : ℕ) → i < length xs → has (word (map f xs)) i ≡ f (at xs i)
  has_made i l = has_word (map f xs) i ∙ map_at f false xs i l

  pub made_below : word (map f xs) < 2 ^ length xs
  made_below = rw (length-map xs f) at (word_below (map f xs))

  -- two such words are equal exactly where the bits are
  pub made_equal : (g : ℕ → Bool) → ((i : ℕ) → i < length xs → f (at xs i) ≡ g (at xs i)) → word (map f xs) ≡ word (map g xs)
  made_equal g h =
      words_equal (length xs) (word (map f xs)) (word (map g xs)) made_below (rw (length-map xs g) at (word_below (map g xs)))
      (λ i l. has_made i l ∙ h i l ∙ sym (has_word (map g xs) i ∙ map_at g false xs i l))

  pub made_bits : (g : ℕ → Bool) → word (map f xs) ≡ word (map g xs) → (i : ℕ) → i < length xs → f (at xs i) ≡ g (at xs i)
  made_bits g e i l = sym (has_made i l) ∙ ap (λ (w : ℕ). has w i) e ∙ has_word (map g xs) i ∙ map_at g false xs i l

-- ---- a loop that makes a word, bit t at turn t

-- one bit more, at the top
word_snoc : (bs : List Bool) (b : Bool) → word (bs ++ b ∷ []) ≡ word bs + bit_value b * 2 ^ length bs
unfolding word
word_snoc [] b = omega arith
word_snoc (x ∷ bs) b =
    let p : bit_value b * 2 ^ length (x ∷ bs) ≡ bit_value b * (2 ^ length bs * 2) =
    ap (λ (n : ℕ). bit_value b * n) (pow-suc 2 (length bs)) in
    omega (arith, word_snoc bs b)

pub map_snoc : {A B : Type 0} (f : A → B) (xs : List A) (x : A) → map f (xs ++ x ∷ []) ≡ map f xs ++ f x ∷ []
map_snoc f [] x = refl
map_snoc f (y ∷ xs) x = ap (λ l. f y ∷ l) (map_snoc f xs x)

-- one more entry of a list that is read from the front
map_more : {B : Type 0} (f : ℕ → B) (xs : List ℕ) (t : ℕ) → t < length xs → map f (take (t + 1) xs) ≡ map f (take t xs) ++ f (at xs t) ∷ []
map_more f xs t h = rw (add-one, take-suc xs t 0) (map_snoc f (take t xs) (at xs t))

length_map_take : {B : Type 0} (f : ℕ → B) (xs : List ℕ) (t : ℕ) → t ≤ length xs → length (map f (take t xs)) ≡ t
length_map_take f xs t h = length-map (take t xs) f ∙ length-take-le t xs h

pub word_more : (f : ℕ → Bool) (xs : List ℕ) (t : ℕ) → t < length xs
    → word (map f (take (t + 1) xs)) ≡ word (map f (take t xs)) + bit_value (f (at xs t)) * 2 ^ t
word_more f xs t h =
    ap word (map_more f xs t h) ∙ word_snoc (map f (take t xs)) (f (at xs t))
    ∙ ap (λ (n : ℕ). word (map f (take t xs)) + bit_value (f (at xs t)) * 2 ^ n) (length_map_take f xs t (omega arith))

pub word_small : (f : ℕ → Bool) (xs : List ℕ) (t : ℕ) → t ≤ length xs → word (map f (take t xs)) < 2 ^ t
word_small f xs t h = rw (length_map_take f xs t h) at (word_below (map f (take t xs)))

-- `w | 1 << t` above all of w's bits
set_top : (w t : ℕ) → t < 64 → w < 2 ^ t → bit_or w (1 * 2 ^ t % 2 ^ 64) ≡ w + 2 ^ t
set_top w t h l =
    let e : 1 * 2 ^ t % 2 ^ 64 ≡ 1 * 2 ^ t = shifted_one t h ∙ omega arith in
    rw e (or_shifted_r 1 t w l ∙ omega arith)

-- a turn that sets the bit, a turn that does not, and the end
module _ (f : ℕ → Bool) (xs : List ℕ) (t w : ℕ) (inv : w ≡ word (map f (take t xs))) (h : t < length xs) where
  pub word_set : length xs ≤ 64 → f (at xs t) ≡ true → bit_or w (1 * 2 ^ t % 2 ^ 64) ≡ word (map f (take (t + 1) xs))
  unfolding bit_value
  word_set l e =
      let small : w < 2 ^ t = rw inv (word_small f xs t (omega arith)) in
      set_top w t (omega arith) small ∙ ap₂ (λ (x y : ℕ). x + y) inv (rw e (omega arith)) ∙ sym (word_more f xs t h)

  pub word_keep : f (at xs t) ≡ false → w ≡ word (map f (take (t + 1) xs))
  unfolding bit_value
  word_keep e =
      let same : word (map f (take t xs)) ≡ word (map f (take t xs)) + bit_value (f (at xs t)) * 2 ^ t = rw e (omega arith) in
      inv ∙ same ∙ sym (word_more f xs t h)

pub word_whole : (f : ℕ → Bool) (xs : List ℕ) (t : ℕ) → length xs ≤ t → word (map f (take t xs)) ≡ word (map f xs)
word_whole f xs t h = rw (take_all t xs h)

-- ---- a loop that fills a list from the front

-- one more store
fill_more : {A : Type 0} (done d : List A) (t : ℕ) (x : A) → length done ≡ t → t < length d
    → set (done ++ drop t d) t x ≡ (done ++ x ∷ []) ++ drop (t + 1) d
fill_more {A} done d t x e h =
    ap (λ (l : List A). set (done ++ l) t x) (drop-cons d t x h) ∙ set_at done (get_or d t x) (drop (suc t) d) x t e
    ∙ sym (append_snoc done x (drop (suc t) d)) ∙ ap (λ (n : ℕ). done ++ (x ∷ []) ++ drop n d) (sym (add-one t))

-- each entry of a list into the front of a list d: a turn, and the end
pub list_fill : (xs d : List ℕ) (t : ℕ) → t < length xs → t < length d
    → set (take t xs ++ drop t d) t (at xs t) ≡ take (t + 1) xs ++ drop (t + 1) d
list_fill xs d t h l =
    let more : take (t + 1) xs ≡ take t xs ++ at xs t ∷ [] = rw add-one (take-suc xs t 0 h) in
    fill_more (take t xs) d t (at xs t) (length-take-le t xs (omega arith)) l ∙ ap (λ (m : List ℕ). m ++ drop (t + 1) d) (sym more)

pub list_filled : (xs d : List ℕ) (t : ℕ) → t ≤ length xs → length xs ≤ t → take t xs ++ drop t d ≡ xs ++ drop (length xs) d
list_filled xs d t h l =
    let e : t ≡ length xs = omega arith in
    ap₂ (λ (m : List ℕ) (n : ℕ). m ++ drop n d) (take_all t xs l) e

-- f of each entry into the front of a list d: a turn, and the end
pub map_fill : {B : Type 0} (f : ℕ → B) (xs : List ℕ) (d : List B) (t : ℕ) → t < length xs → t < length d
    → set (map f (take t xs) ++ drop t d) t (f (at xs t)) ≡ map f (take (t + 1) xs) ++ drop (t + 1) d
map_fill {B} f xs d t h l =
    fill_more (map f (take t xs)) d t (f (at xs t)) (length_map_take f xs t (omega arith)) l
    ∙ ap (λ (m : List B). m ++ drop (t + 1) d) (sym (map_more f xs t h))

pub map_filled : {B : Type 0} (f : ℕ → B) (xs : List ℕ) (d : List B) (t : ℕ) → t ≤ length xs → length xs ≤ t
    → map f (take t xs) ++ drop t d ≡ map f xs ++ drop (length (map f xs)) d
map_filled f xs d t h l =
    let e : t ≡ length (map f xs) = rw (length-map xs f) (omega arith) in
    ap₂ (λ (m : List ℕ) (n : ℕ). map f m ++ drop n d) (take_all t xs l) e
