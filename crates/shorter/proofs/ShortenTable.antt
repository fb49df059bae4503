-- The call *shorten* answers as its rows and the rule say, and nothing is left open.
use Rattle.std.proofs.Common.{◌≡◌, refl, sym, ap, ap₂, ◌∙◌, Bool, false, ◌||◌, true, inl, inr, List, ◌∷◌, ◌++◌, ℕ}
use Rattle.std.proofs.Common.{◌≤◌, ◌<◌, length, le-ltb, lt-ltb}
use Rattle.words.specs.Answers.{Answer, refused, full, ByTable, NoneHolds, Decided, by_tests, lent_after}
use Rattle.words.proofs.Tests.{decides_less, decides_or, not_less, or_false, or_right}
use Rattle.words.proofs.Answers.{decided_append, tests_by_table, table_determined, let_through, refused_not_full}
use Rattle.network.specs.declared.Network.{Network}
use Rattle.network.specs.Rows.{SetRows, bad_net_count, bad_class, class_tests, vector_tests, set_admission}
use Rattle.network.proofs.Rows.{decides_row_5, decides_row_6, decides_class_and_vectors, decides_row_12}
use Rattle.checker.proofs.PassedSets.{decides_row_13}
use Rattle.shorter.specs.declared.Shortened.{Shortened}
use Rattle.shorter.specs.Shorten.{SmallClassRows, OwnRows, ShortenRows, small_class_tests, own_tests}
use Rattle.shorter.specs.Shorten.{small_class_admission, Shorter, IsShorter, shorter}
use Rattle.shorter.specs.Shorten.{shorten_answer, kept_of, counted}
use Rattle.shorter.proofs.FloorLaws.{floor_is, floor_one}

module _ (net : Network) (k : ℕ) (vectors : List ℕ) where
  decides_small_class : Decided (SmallClassRows net k vectors) (small_class_tests net k vectors)
  decides_small_class = (
    refl,
    decides_row_5 net,
    λ _. decides_class_and_vectors (decides_or (decides_row_6 net k) (decides_less 3 k)) net vectors,
  )

  decides_own : (room : ℕ) → Decided (OwnRows net k vectors room) (own_tests net k vectors room)
  decides_own room =
      (refl, decides_row_12 (length vectors) room, λ _. (refl, decides_row_13 net k vectors, λ _. tt))

  -- what a set has that its rows admit: it is one that every call admits, and k is at most 3
  pub admitted_small_class : NoneHolds (SmallClassRows net k vectors) → NoneHolds (SetRows net k vectors) × (k ≤ 3)
  admitted_small_class (five, (six, rest)) = ((five, (λ h. six (inl h), rest)), not_less 3 k (λ l. six (inr l)))

  -- ---- the rows of the test set alone

  pub by_nets : bad_net_count net ≡ true → small_class_admission net k vectors ≡ refused 5
  unfolding by_tests
  by_nets e = rw e

  pub by_class : bad_net_count net ≡ false → 3 < k → small_class_admission net k vectors ≡ refused 6
  unfolding by_tests
  by_class e l =
      ap₂ (λ (five six : Bool). by_tests ((5, five) ∷ class_tests six net ++ vector_tests net vectors) tt) e
      (ap (λ (test : Bool). bad_class net k || test) (lt-ltb 3 k l) ∙ or_right (bad_class net k) true refl)

  -- for k up to 3 they are those of every call
  pub as_every_call : k ≤ 3 → small_class_admission net k vectors ≡ set_admission net k vectors
  as_every_call l =
      ap (λ (test : Bool). by_tests ((5, bad_net_count net) ∷ class_tests test net ++ vector_tests net vectors) tt)
      (ap (λ (test : Bool). bad_class net k || test) (le-ltb 3 k l) ∙ or_false (bad_class net k))

  pub small_class_admitted : small_class_admission net k vectors ≡ full tt → NoneHolds (SmallClassRows net k vectors)
  small_class_admitted e =
      let_through (SmallClassRows net k vectors) (small_class_tests net k vectors) tt tt decides_small_class e

  -- ---- the whole call

  pub shorten_by_table : (allowed room : ℕ)
      → ByTable (ShortenRows net k vectors room) (IsShorter net k vectors allowed)
      (shorten_answer net k vectors allowed room)
  unfolding shorten_answer
  shorten_by_table allowed room =
      tests_by_table (IsShorter net k vectors allowed) (ShortenRows net k vectors room)
      (small_class_tests net k vectors ++ own_tests net k vectors room) (shorter net k vectors allowed)
      (decided_append (SmallClassRows net k vectors) (OwnRows net k vectors room) (small_class_tests net k vectors)
      (own_tests net k vectors room) decides_small_class (λ _. decides_own room))
      (λ _. record { kept_by_rule = refl; checks_of_rule = refl; smallest_power = floor_is net k })

  shorter_one : (allowed : ℕ) (r : Shorter) → IsShorter net k vectors allowed r → r ≡ shorter net k vectors allowed
  shorter_one allowed r h =
      rw (sym h.kept_by_rule, sym h.checks_of_rule, sym (floor_one net k r.floor h.smallest_power))

  pub shorten_determined : (allowed room : ℕ) (a b : Answer Shorter)
      → ByTable (ShortenRows net k vectors room) (IsShorter net k vectors allowed) a
      → ByTable (ShortenRows net k vectors room) (IsShorter net k vectors allowed) b
      → a ≡ b
  shorten_determined allowed room a b =
      table_determined (IsShorter net k vectors allowed) (ShortenRows net k vectors room) a b
      (λ _ r s p q. shorter_one allowed r p ∙ sym (shorter_one allowed s q))

-- ---- what the call owes when it refuses, and when it has written

pub owes_refused : (a : Answer Shorter) (number : ℕ) (lent : List ℕ) → a ≡ refused number
    → (refused number ≡ counted a) × (lent ≡ lent_after (kept_of a) lent)
unfolding lent_after
owes_refused a number lent e = (rw e, rw e)

pub owes_full : (a : Answer Shorter) (r : Shorter) (count checks q : ℕ) (lent list : List ℕ) → a ≡ full r
    → count ≡ length r.kept → checks ≡ r.checks → q ≡ r.floor → list ≡ lent_after (full r.kept) lent
    → (full (record { kept = count; checks = checks; floor = q }) ≡ counted a) × (list ≡ lent_after (kept_of a) lent)
owes_full a r count checks q lent list e n m o l = (rw (e, n, m, o), rw e l)

-- what is returned tells of the answer
pub counted_refused : (a : Answer Shorter) (number : ℕ) → counted a ≡ refused number → a ≡ refused number
counted_refused (refused other) number e = let same : other ≡ number = cc in ap refused same
counted_refused (full r) number e = refused_not_full e refl

pub counted_full : (a : Answer Shorter) (counts : Shortened) → counted a ≡ full counts
    → (r : Shorter) × (a ≡ full r)
    × (record { kept = length r.kept; checks = r.checks; floor = r.floor } ≡ counts)
counted_full (refused number) counts e = refused_not_full refl e
counted_full (full r) counts e = (r, refl, cc)
