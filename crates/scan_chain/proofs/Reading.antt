-- The responses that are read, word by word.
use Rattle.std.proofs.Common.{◌≡◌, sym, ap, ◌∙◌, Bool, false, ⊎_elim, List, map, ℕ, suc, ◌+◌, ◌*◌, ◌%◌, ◌^◌, ◌≤◌, ◌<◌}
use Rattle.std.proofs.Common.{add-one, arith, bit_or, length, take}
use mir.Val.{bool_byte}
use lib.Bits.{or_shifted_r}
use Rattle.words.specs.Bits.{word, at}
use Rattle.words.proofs.Tests.{cases}
use Rattle.words.proofs.Making.{word_small, word_set, word_keep}
use Rattle.words.proofs.Columns.{length_tabulate, tabulate_at}
use Rattle.scan_chain.specs.Responses.{shifted_out, responses}

module _ (L : ℕ) (receivers : List ℕ) (v : ℕ) (tdo : List ℕ) where
  pub responses_size : length (responses L receivers v tdo) ≡ v
  unfolding responses
  responses_size = length_tabulate v (λ t. word (map (shifted_out L tdo (suc t)) receivers))

  pub responses_at : (t : ℕ) → t < v → word (map (shifted_out L tdo (t + 1)) receivers) ≡ at (responses L receivers v tdo) t
  unfolding responses
  responses_at t l =
      ap (λ (s : ℕ). word (map (shifted_out L tdo s) receivers)) (add-one t)
      ∙ sym (tabulate_at v (λ t. word (map (shifted_out L tdo (suc t)) receivers)) t l)

-- a turn that puts a receiver's bit, 0 or 1, above all bits so far
pub word_put : (f : ℕ → Bool) (xs : List ℕ) (t w : ℕ) → w ≡ word (map f (take t xs)) → t < length xs → length xs ≤ 64
    → bit_or w (bool_byte (f (at xs t)) * 2 ^ t % 2 ^ 64) ≡ word (map f (take (t + 1) xs))
word_put f xs t w inv h l = ⊎_elim
    (λ e. ap (λ (b : Bool). bit_or w (bool_byte b * 2 ^ t % 2 ^ 64)) e ∙ word_set f xs t w inv h l e)
    (λ e. ap (λ (b : Bool). bit_or w (bool_byte b * 2 ^ t % 2 ^ 64)) e ∙ kept e)
    (cases (f (at xs t)))
  where
    kept : f (at xs t) ≡ false → bit_or w (0 * 2 ^ t % 2 ^ 64) ≡ word (map f (take (t + 1) xs))
    kept e =
        let small : w < 2 ^ t = rw inv (word_small f xs t (omega arith)) in
        let none : 0 * 2 ^ t % 2 ^ 64 ≡ 0 * 2 ^ t = omega arith in
        rw none (or_shifted_r 0 t w small ∙ omega arith) ∙ word_keep f xs t w inv h e
