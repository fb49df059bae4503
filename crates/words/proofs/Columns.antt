-- Laws of turning: which bits the turned words have, and that turning back gives what went in.
use Rattle.std.proofs.Common.{◌≡◌, refl, ap, ◌∙◌, List, ℕ, zero, suc, ◌^◌, ◌<◌, le_of_suc-le-suc, not-suc-le-zero}
use Rattle.std.proofs.Common.{length, ext_get_or}
use Rattle.words.specs.Bits.{has, at}
use Rattle.words.specs.Turning.{tabulate, column, transpose}
use Rattle.words.proofs.Bits.{words_equal}
use Rattle.words.proofs.Making.{has_made, made_below}

pub length_tabulate : (n : ℕ) (f : ℕ → ℕ) → length (tabulate n f) ≡ n
unfolding tabulate
length_tabulate zero f = refl
length_tabulate (suc n) f = ap suc (length_tabulate n (λ i. f (suc i)))

pub tabulate_at : (n : ℕ) (f : ℕ → ℕ) (i : ℕ) → i < n → at (tabulate n f) i ≡ f i
unfolding tabulate
tabulate_at zero f i l = absurd (not-suc-le-zero l)
tabulate_at (suc n) f zero l = refl
tabulate_at (suc n) f (suc i) l = tabulate_at n (λ j. f (suc j)) i (le_of_suc-le-suc l)

-- ---- a column

pub column_below : (ws : List ℕ) (i : ℕ) → column ws i < 2 ^ length ws
unfolding column
column_below ws i = made_below (λ w. has w i) ws

pub has_column : (ws : List ℕ) (i t : ℕ) → t < length ws → has (column ws i) t ≡ has (at ws t) i
unfolding column
has_column ws i t l = has_made (λ w. has w i) ws t l

-- ---- all columns

pub transpose_size : (n : ℕ) (ws : List ℕ) → length (transpose n ws) ≡ n
unfolding transpose
transpose_size n ws = length_tabulate n (column ws)

pub transpose_at : (n : ℕ) (ws : List ℕ) (i : ℕ) → i < n → at (transpose n ws) i ≡ column ws i
unfolding transpose
transpose_at n ws i l = tabulate_at n (column ws) i l

pub transpose_below : (n : ℕ) (ws : List ℕ) (i : ℕ) → i < n → at (transpose n ws) i < 2 ^ length ws
transpose_below n ws i l = rw (transpose_at n ws i l) (column_below ws i)

pub transpose_bits : (n : ℕ) (ws : List ℕ) (i t : ℕ) → t < length ws → i < n → has (at (transpose n ws) i) t ≡ has (at ws t) i
transpose_bits n ws i t m l = rw (transpose_at n ws i l) (has_column ws i t m)

-- turning and turning back gives what went in
pub transpose_back : (n : ℕ) (ws : List ℕ) → ((t : ℕ) → t < length ws → at ws t < 2 ^ n) → transpose (length ws) (transpose n ws) ≡ ws
transpose_back n ws h = ext_get_or 0 _ ws size (λ t l. same t (rw size at l))
  where
    size : length (transpose (length ws) (transpose n ws)) ≡ length ws
    size = transpose_size (length ws) (transpose n ws)

    same : (t : ℕ) → t < length ws → at (transpose (length ws) (transpose n ws)) t ≡ at ws t
    same t l =
        words_equal n _ (at ws t)
        (rw (transpose_size n ws) at (transpose_below (length ws) (transpose n ws) t l))
        (h t l)
        (λ i m. transpose_bits (length ws) (transpose n ws) t i (rw (transpose_size n ws) m) l ∙ transpose_bits n ws i t l m)
