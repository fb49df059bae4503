-- What a search through the sets in ascending order ends with: the rule's pair at the first set that is confused with a
-- smaller one, and pass where there is none.
use Rattle.std.proofs.Common.{◌≡◌, ap, ◌∙◌, Bool, true, false, ◌&&◌, List, ℕ, ◌^◌, ◌<◌}
use Rattle.std.specs.Prelude.{Option}
use Rattle.std.specs.Prelude.{Some, None}
use Rattle.words.specs.Searching.{is_found}
use Rattle.words.proofs.Tests.{and_both, and_false}
use Rattle.words.proofs.Searching.{least_found, least_missing}
use Rattle.network.specs.declared.Network.{Network}
use Rattle.network.specs.States.{few_drivers}
use Rattle.checker.specs.declared.Verdict.TheVariants.{Pass, Pair}
use Rattle.checker.specs.Rule.{smaller_alike, pair_with, pair_at, bounded_verdict}

module _ (net : Network) (k : ℕ) (vectors : List ℕ) where
  abbrev pub confused_at : ℕ → Bool
  confused_at set = few_drivers net k set && is_found (smaller_alike net k vectors set)

  -- a set that is none of the class, and one that no smaller set is confused with
  pub not_few : (set : ℕ) → few_drivers net k set ≡ false → confused_at set ≡ false
  not_few set e = rw e

  pub none_alike : (set : ℕ) → smaller_alike net k vectors set ≡ None → confused_at set ≡ false
  unfolding is_found
  none_alike set e =
      ap (λ (s : Option ℕ). few_drivers net k set && is_found s) e ∙ and_false (few_drivers net k set)

  pub first_pair : (a b : ℕ) → b < 2 ^ net.nets → ((z : ℕ) → z < b → confused_at z ≡ false)
      → few_drivers net k b ≡ true → smaller_alike net k vectors b ≡ Some a → bounded_verdict net k vectors ≡ Pair a b
  unfolding bounded_verdict is_found
  first_pair a b inside none few found =
      ap (λ (s : Option ℕ). pair_at s (smaller_alike net k vectors))
      (least_found confused_at (2 ^ net.nets) b inside none (and_both few (ap is_found found)))
      ∙ ap (λ (s : Option ℕ). pair_with s b) found

  pub all_pass : ((z : ℕ) → z < 2 ^ net.nets → confused_at z ≡ false) → bounded_verdict net k vectors ≡ Pass
  unfolding bounded_verdict
  all_pass none =
      ap (λ (s : Option ℕ). pair_at s (smaller_alike net k vectors)) (least_missing confused_at (2 ^ net.nets) none)
