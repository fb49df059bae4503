-- Each wrong program for *shorten* differs from ours at one small input.
use Rattle.std.proofs.Common.{ℕ, suc, ◌-◌, arith, ap, ◌≢◌, List, [], ◌∷◌}
use Rattle.words.specs.Answers.{Answer, refused, full}
use Rattle.words.specs.Bits.{at}
use Rattle.network.specs.Reading.{network_of}
use Rattle.shorter.specs.declared.Shortened.{Shortened}
use Rattle.shorter.specs.Open.{open_shorter}
use Rattle.demands.specs.ShortenCall.{ShortenDone, ShortenProgram, Shortens}
use Rattle.demands.specs.Programs.{our_shorten}
use Rattle.demands.specs.Refuted.{shortens_by, first_to_last, counts_first_check, tries_whole_set, tries_nothing}
use Rattle.demands.specs.Refuted.{drops_unchecked, with_floor, clears_rest, leaves_given}
use Rattle.demands.proofs.Shortening.{shortens, shorten_determined_program}

-- what tells two programs apart: an entry of the list, or a number that is returned
entry : ℕ → ShortenDone → ℕ
entry i did = at did.list i

returned_number : (Shortened → ℕ) → Answer Shortened → ℕ
returned_number part (refused number) = 0
returned_number part (full counts) = part counts

kept_count : ShortenDone → ℕ
kept_count did = returned_number (λ counts. counts.kept) did.returned

checks_made : ShortenDone → ℕ
checks_made did = returned_number (λ counts. counts.checks) did.returned

floor_said : ShortenDone → ℕ
floor_said did = returned_number (λ counts. counts.floor) did.returned

-- two nets, one driver, three checks, and a list of four nines
abbrev three_checks : ShortenProgram → List ℕ → ShortenDone
three_checks program vectors = program (network_of 2) 1 vectors 3 (9 ∷ 9 ∷ 9 ∷ 9 ∷ [])

told_apart : (tells : ShortenDone → ℕ) (program : ShortenProgram) (vectors : List ℕ)
    → tells (three_checks program vectors) ≢ tells (three_checks our_shorten vectors) → ¬ (Shortens program)
told_apart tells program vectors differ claim =
    differ
    (ap tells (shorten_determined_program program our_shorten claim shortens (network_of 2) 1 vectors 3
    (9 ∷ 9 ∷ 9 ∷ 9 ∷ [])))

-- 1 2 is kept, and not 2 1
pub from_the_first : ¬ (Shortens (shortens_by first_to_last))
unfolding open_shorter entry
from_the_first = told_apart (entry 0) (shortens_by first_to_last) (1 ∷ 2 ∷ 1 ∷ []) (λ e. omega (arith, e))

pub first_check_counted : ¬ (Shortens (shortens_by counts_first_check))
unfolding open_shorter checks_made returned_number
first_check_counted = told_apart checks_made (shortens_by counts_first_check) (1 ∷ 2 ∷ 1 ∷ []) (λ e. omega (arith, e))

-- each 2 could be removed alone
pub whole_set_tried : ¬ (Shortens (shortens_by tries_whole_set))
unfolding open_shorter kept_count returned_number
whole_set_tried = told_apart kept_count (shortens_by tries_whole_set) (1 ∷ 2 ∷ 2 ∷ []) (λ e. omega (arith, e))

pub nothing_tried : ¬ (Shortens (shortens_by tries_nothing))
unfolding open_shorter checks_made returned_number
nothing_tried = told_apart checks_made (shortens_by tries_nothing) (1 ∷ 2 ∷ []) (λ e. omega (arith, e))

pub not_passed : ¬ (Shortens (shortens_by drops_unchecked))
unfolding open_shorter kept_count returned_number
not_passed = told_apart kept_count (shortens_by drops_unchecked) (1 ∷ 2 ∷ []) (λ e. omega (arith, e))

pub floor_too_high : ¬ (Shortens (with_floor suc))
unfolding open_shorter floor_said returned_number
floor_too_high = told_apart floor_said (with_floor suc) (1 ∷ 2 ∷ []) (λ e. omega (arith, e))

pub floor_too_low : ¬ (Shortens (with_floor (λ q. q - 1)))
unfolding open_shorter floor_said returned_number
floor_too_low = told_apart floor_said (with_floor (λ q. q - 1)) (1 ∷ 2 ∷ []) (λ e. omega (arith, e))

-- the fourth entry is not the call's
pub rest_cleared : ¬ (Shortens clears_rest)
unfolding open_shorter entry
rest_cleared = told_apart (entry 3) clears_rest (1 ∷ 2 ∷ 2 ∷ []) (λ e. omega (arith, e))

-- nor is the third, though there was room for three
pub given_left : ¬ (Shortens leaves_given)
unfolding open_shorter entry
given_left = told_apart (entry 2) leaves_given (1 ∷ 2 ∷ 2 ∷ []) (λ e. omega (arith, e))
