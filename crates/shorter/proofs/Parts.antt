-- Parts of test sets: what a row admits of a set it admits of its parts, if they are not empty.
use Rattle.std.proofs.Common.{◌≡◌, sym, subst, true, ⊎_elim, List, ℕ, ◌^◌, ◌≤◌, arith, length}
use Rattle.words.specs.Answers.{NoneHolds}
use Rattle.words.proofs.Tests.{test_passes}
use Rattle.network.specs.declared.Network.{Network}
use Rattle.network.specs.Rows.{Row7, HighBit, SetRows}
use Rattle.network.proofs.Rows.{AdmittedSet, admitted_set, vectors_admitted}
use Rattle.checker.specs.declared.Verdict.TheVariants.{Pass}
use Rattle.checker.specs.Passed.{Passed, passes}
use Rattle.checker.proofs.PassedSets.{Narrow, narrow_within, rule_more, decides_pass}
use Rattle.checker.proofs.Separation.{SetsApart, rule_shows}
use Rattle.shorter.specs.Shorter.{InOrder}
use Rattle.shorter.proofs.Ordered.{in_order_within, in_order_length}
use Rattle.shorter.proofs.FloorLaws.{two_vectors}

pub part_narrow : (net : Network) (part vectors : List ℕ) → InOrder part vectors → Narrow net vectors → Narrow net part
part_narrow net part vectors order = narrow_within net part vectors (in_order_within part vectors order)

module _ (net : Network) (k : ℕ) (vectors : List ℕ) (admitted : NoneHolds (SetRows net k vectors)) where
  abbrev set : AdmittedSet net k vectors
  set = admitted_set net k vectors admitted

  pub part_admitted : (part : List ℕ) → InOrder part vectors → 1 ≤ length part → NoneHolds (SetRows net k part)
  part_admitted part order some = go admitted
    where
      go : NoneHolds (SetRows net k vectors) → NoneHolds (SetRows net k part)
      go (five, (six, (level, (gate, (seven, (eight, end)))))) = (five, (six, (level, (gate, (count, (words, end))))))
        where
          count : ¬ (Row7 part)
          count = ⊎_elim (λ l. omega (arith, l, some))
              (λ l. omega (arith, l, in_order_length part vectors order, vectors_admitted vectors seven))

          words : ¬ (HighBit net.nets part)
          words (t, l, high) =
              let w = in_order_within part vectors order t l in
              eight (w.0, w.1, subst (λ (x : ℕ). 2 ^ net.nets ≤ x) (sym w.2) high)

  -- a part that passes tells the sets of the class apart, and has two vectors or more
  part_apart : (part : List ℕ) → InOrder part vectors → passes net k part ≡ true → SetsApart net k part
  part_apart part order e =
      rule_shows net k part Pass set.two (part_narrow net part vectors order set.narrow)
      ((decides_pass net k part).0 e)

  pub part_size : (part : List ℕ) → InOrder part vectors → passes net k part ≡ true → 2 ≤ length part
  part_size part order e = two_vectors net k set.two set.class_positive part (part_apart part order e)

  pub part_passed : (part : List ℕ) → InOrder part vectors → passes net k part ≡ true → Passed net k part
  part_passed part order e =
      let size = part_size part order e in
      (part_admitted part order (omega (arith, size)), (decides_pass net k part).0 e)

-- a set that has a part which passes
pub passes_more : (net : Network) (k : ℕ) → 2 ≤ net.nets → (part vectors : List ℕ) → Narrow net vectors
    → InOrder part vectors → passes net k part ≡ true → passes net k vectors ≡ true
passes_more net k two part vectors narrow order e =
    test_passes (decides_pass net k vectors)
    (rule_more net k part vectors two narrow (in_order_within part vectors order) ((decides_pass net k part).0 e))
