-- Our answer to *shorten* keeps its promise, no other program does, and the vectors kept are as promised.
use Rattle.std.proofs.Common.{◌≡◌, refl, sym, ap, ap₂, ◌∙◌, subst, List, ℕ, ◌≤◌, arith, length, take}
use Rattle.words.specs.Answers.{Answer, full, ByTable, NoneHolds, lent_after}
use Rattle.words.proofs.Answers.{front_written, none_front, none_rest, table_full, table_none_holds}
use Rattle.network.specs.declared.Network.{Network}
use Rattle.network.proofs.Rows.{admitted_set}
use Rattle.checker.specs.Passed.{Passed}
use Rattle.checker.proofs.PassedSets.{rule_passes, passed_sets_apart, passed_check, check_passed, rule_more}
use Rattle.shorter.specs.declared.Shortened.{Shortened}
use Rattle.shorter.specs.Shorter.{without, tried}
use Rattle.shorter.specs.Shorten.{SmallClassRows, OwnRows, ShortenRows}
use Rattle.shorter.specs.Shorten.{Shorter, IsShorter, shorten_answer, kept_of, counted}
use Rattle.shorter.proofs.FloorLaws.{floor_lowest, two_vectors}
use Rattle.shorter.proofs.KeptSets.{tried_in_order, tried_checks, tried_passed, tried_none_spare}
use Rattle.shorter.proofs.ShortenTable.{admitted_small_class, shorten_by_table, shorten_determined, counted_full}
use Rattle.demands.specs.ShortenCall.{ShortenProgram, Shortens, Passes, KeptSet, KeepsPassedSets}
use Rattle.demands.specs.Programs.{our_check, our_shorten}

pub shortens : Shortens our_shorten
shortens net k vectors allowed lent = record {
  answer = shorten_answer net k vectors allowed (length lent);
  by_table = shorten_by_table net k vectors allowed (length lent);
  returned = refl;
  list = refl;
}

pub shorten_determined_program : (p q : ShortenProgram) → Shortens p → Shortens q → (net : Network) (k : ℕ)
    (vectors : List ℕ) (allowed : ℕ) (lent : List ℕ) → p net k vectors allowed lent ≡ q net k vectors allowed lent
shorten_determined_program p q f g net k vectors allowed lent =
    let a = f net k vectors allowed lent in
    let b = g net k vectors allowed lent in
    let same =
    shorten_determined net k vectors allowed (length lent) a.answer b.answer a.by_table b.by_table in
    ap₂ (λ (returned : Answer Shortened) (list : List ℕ). record { returned = returned; list = list })
    (a.returned ∙ ap counted same ∙ sym b.returned)
    (a.list ∙ ap (λ (answer : Answer Shorter). lent_after (kept_of answer) lent) same ∙ sym b.list)

-- ---- the vectors kept

module _ (net : Network) (k : ℕ) (vectors : List ℕ) (allowed room : ℕ) where
  -- where no row holds, the set is passed
  given_passed : NoneHolds (ShortenRows net k vectors room) → Passed net k vectors
  given_passed none =
      let set = none_front (SmallClassRows net k vectors) (OwnRows net k vectors room) none in
      let own = none_rest (SmallClassRows net k vectors) (OwnRows net k vectors room) none in
      ((admitted_small_class net k vectors set).0, rule_passes net k vectors own.1.0)

  kept_set_of : (result : Shorter) → Passed net k vectors → IsShorter net k vectors allowed result
      → KeptSet our_check net k vectors allowed result.kept
      (record { kept = length result.kept; checks = result.checks; floor = result.floor })
  kept_set_of result passed is = rw is.kept_by_rule (record {
    size = refl;
    given_passes = passed_check net k vectors passed;
    passes = passed_check net k kept (tried_passed net k vectors allowed passed);
    in_order = tried_in_order net k vectors allowed;
    checks_made = is.checks_of_rule ∙ tried_checks net k vectors allowed;
    at_least = at_least;
    distance = λ others e. let l = at_least others e in omega (arith, l);
    none_spare = λ enough i l e.
        tried_none_spare net k vectors allowed passed enough i l (check_passed net k (without i kept) e).1;
  })
    where
      kept : List ℕ
      kept = (tried net k vectors allowed).kept

      at_least : (others : List ℕ) → Passes our_check net k others → result.floor ≤ length others
      at_least others e =
          floor_lowest net k result.floor is.smallest_power others
          (passed_sets_apart net k others (check_passed net k others e))

kept_set : (net : Network) (k : ℕ) (vectors : List ℕ) (allowed : ℕ) (lent : List ℕ) (counts : Shortened)
    → (our_shorten net k vectors allowed lent).returned ≡ full counts
    → KeptSet our_check net k vectors allowed
    (take counts.kept (our_shorten net k vectors allowed lent).list) counts
kept_set net k vectors allowed lent counts e =
    let rows = ShortenRows net k vectors (length lent) in
    let r = counted_full (shorten_answer net k vectors allowed (length lent)) counts e in
    let result : Shorter = r.0 in
    let by_table = subst (ByTable rows (IsShorter net k vectors allowed)) r.1
    (shorten_by_table net k vectors allowed (length lent)) in
    let passed = given_passed net k vectors allowed (length lent)
    (table_none_holds (IsShorter net k vectors allowed) rows result by_table) in
    let list : take counts.kept (our_shorten net k vectors allowed lent).list ≡ result.kept =
    ap (λ (a : Answer Shorter). take counts.kept (lent_after (kept_of a) lent)) r.1
    ∙ ap (λ (c : Shortened). take c.kept (lent_after (full result.kept) lent)) (sym r.2)
    ∙ front_written result.kept lent in
    subst (λ (c : Shortened). KeptSet our_check net k vectors allowed
    (take counts.kept (our_shorten net k vectors allowed lent).list) c) r.2
    (rw list (kept_set_of net k vectors allowed (length lent) result passed
    (table_full (IsShorter net k vectors allowed) rows result by_table)))

pub keeps_passed_sets : KeepsPassedSets our_check our_shorten
keeps_passed_sets = record {
  kept_set = kept_set;
  two_vectors = λ net k vectors e.
      let passed = check_passed net k vectors e in
      let set = admitted_set net k vectors passed.0 in
      two_vectors net k set.two set.class_positive vectors (passed_sets_apart net k vectors passed);
  more_vectors = λ net k vectors more e none within.
      let set = admitted_set net k more none in
      passed_check net k more
      (none, rule_more net k vectors more set.two set.narrow within (check_passed net k vectors e).1);
}
