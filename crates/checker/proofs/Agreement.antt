-- The checker's verdict and that of the rule for k below n agree, whatever the class: below n they are the same, and at
-- n both are pass or neither is.
use Rattle.std.proofs.Common.{◌≡◌, refl, ◌≢◌, ◌↔◌, List, ℕ, ◌^◌, ◌≤◌, ◌<◌, length, ne_eqb}
use Rattle.words.specs.Bits.{at}
use Rattle.network.specs.declared.Network.{Network}
use Rattle.checker.specs.declared.Verdict.{Verdict}
use Rattle.checker.specs.declared.Verdict.TheVariants.{Pass, Pair}
use Rattle.checker.specs.Rule.{bounded_verdict, verdict}
use Rattle.checker.proofs.Verdicts.{pair_not_pass, bounded_rule, verdict_rule}
use Rattle.checker.proofs.Separation.{Shows, bounded_shows, rule_shows}

module _ (net : Network) (k : ℕ) (vectors : List ℕ) where
  pub agree_below : k ≢ net.nets → verdict net k vectors ≡ bounded_verdict net k vectors
  unfolding verdict
  agree_below differ = rw (ne_eqb k net.nets differ)

  -- of two verdicts that both show what they say, both are pass or neither is
  pub pass_together : (u v : Verdict) → Shows net k vectors u → Shows net k vectors v → u ≡ Pass → v ≡ Pass
  pass_together Pass Pass apart other e = refl
  pass_together Pass (Pair a b) apart alike e =
      absurd (alike.differ (apart a b alike.first_set alike.second_set alike.read_alike))
  pass_together (Pair a b) v alike other e = pair_not_pass e

  pub search_shows : Shows net k vectors (bounded_verdict net k vectors)
  search_shows = bounded_shows net k vectors (bounded_verdict net k vectors) (bounded_rule net k vectors)

  pub agree_pass : 2 ≤ net.nets → ((t : ℕ) → t < length vectors → at vectors t < 2 ^ net.nets)
      → (verdict net k vectors ≡ Pass) ↔ (bounded_verdict net k vectors ≡ Pass)
  agree_pass two narrow =
      let shows = rule_shows net k vectors (verdict net k vectors) two narrow (verdict_rule net k vectors) in
      (pass_together _ _ shows search_shows, pass_together _ _ search_shows shows)
