-- What is promised of the vectors kept of a passed set.
use Rattle.std.proofs.Common.{◌≡◌, List, ℕ, ◌≤◌, ◌<◌, zero-le, min, length}
use Rattle.words.proofs.Tests.{contrary, test_passes}
use Rattle.network.specs.declared.Network.{Network}
use Rattle.network.proofs.Rows.{admitted_set}
use Rattle.checker.specs.declared.Verdict.TheVariants.{Pass}
use Rattle.checker.specs.Rule.{Rule}
use Rattle.checker.specs.Passed.{Passed, passes}
use Rattle.checker.proofs.PassedSets.{Narrow, decides_pass}
use Rattle.shorter.specs.Shorter.{without, InOrder, tried}
use Rattle.shorter.proofs.Trying.{checks_made, kept_passes, kept_in_order, none_spare}
use Rattle.shorter.proofs.Parts.{part_passed, part_narrow, passes_more}

module _ (net : Network) (k : ℕ) (vectors : List ℕ) (allowed : ℕ) where
  pub tried_in_order : InOrder (tried net k vectors allowed).kept vectors
  tried_in_order = kept_in_order (passes net k) (length vectors) allowed vectors

  pub tried_checks : (tried net k vectors allowed).checks ≡ min allowed (length vectors)
  tried_checks = checks_made (passes net k) (length vectors) allowed vectors

  pub tried_passed : Passed net k vectors → Passed net k (tried net k vectors allowed).kept
  tried_passed (admitted, rule) =
      part_passed net k vectors admitted (tried net k vectors allowed).kept tried_in_order
      (kept_passes (passes net k) (length vectors) allowed vectors (test_passes (decides_pass net k vectors) rule))

  -- with checks for every vector, none that is kept can be left out
  pub tried_none_spare : Passed net k vectors → length vectors ≤ allowed → (i : ℕ)
      → i < length (tried net k vectors allowed).kept
      → ¬ (Rule net k (without i (tried net k vectors allowed).kept) Pass)
  tried_none_spare (admitted, rule) enough i l r =
      let set = admitted_set net k vectors admitted in
      contrary (test_passes (decides_pass net k (without i (tried net k vectors allowed).kept)) r)
      (none_spare (passes net k) (Narrow net) (part_narrow net) (λ part more. passes_more net k set.two part more)
      allowed vectors enough set.narrow i zero-le l)
