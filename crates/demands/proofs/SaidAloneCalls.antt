-- One receiver a net: row 21 never holds of own receivers where row 5 does not; response from a state and diagnosis
-- answer as they do without receivers.
use Rattle.std.proofs.Common.{◌≡◌, refl, Bool, true, false, cond, List, ◌∷◌, ◌++◌, ℕ, length}
use Rattle.words.specs.Answers.{refused, by_tests}
use Rattle.words.proofs.Tests.{test_fails}
use Rattle.network.specs.declared.Network.{Network}
use Rattle.network.specs.Reading.{response}
use Rattle.network.specs.Respond.{response_answer, own_tests as state_tests}
use Rattle.network.specs.Rows.{Row5, Row21, bad_net_count, bad_class, bad_receivers, class_tests, vector_tests}
use Rattle.network.specs.OwnReceivers.{own_receivers}
use Rattle.network.proofs.Rows.{decides_row_5, decides_row_21, nets_admitted, admitted_receivers}
use Rattle.network.proofs.OwnReceivers.{own_size, own_admitted}
use Rattle.diagnosis.specs.ReadBack.{read_back}
use Rattle.diagnosis.specs.Diagnosis.{diagnosis_answer, own_tests as answers_tests}
use Rattle.demands.specs.SaidAlone.{response_alone, diagnosis_alone}

-- ---- row 21

module _ (net : Network) where
  abbrev own : List ℕ
  own = own_receivers net.nets

  pub own_not_21 : ¬ (Row5 net) → ¬ (Row21 net own)
  own_not_21 five = admitted_receivers net own (own_admitted net (nets_admitted net five).1)

  pub own_let_through : bad_net_count net ≡ false → bad_receivers net own ≡ false
  own_let_through e = test_fails (decides_row_21 net own) (own_not_21 ((decides_row_5 net).1 e))

  -- so a call's row 21 drops out, and its later rows and its result are asked only where row 5 does not hold
  pub drops_out : {A : Type 0} (more others : List (ℕ × Bool)) (x y : A)
      → (bad_net_count net ≡ false → by_tests more x ≡ by_tests others y)
      → by_tests ((5, bad_net_count net) ∷ (21, bad_receivers net own) ∷ more) x ≡ by_tests ((5, bad_net_count net) ∷ others) y
  unfolding by_tests
  drops_out more others x y later = go (bad_net_count net) own_let_through later
    where
      go : (b : Bool) → (b ≡ false → bad_receivers net own ≡ false) → (b ≡ false → by_tests more x ≡ by_tests others y)
          → cond b (refused 5) (cond (bad_receivers net own) (refused 21) (by_tests more x)) ≡ cond b (refused 5) (by_tests others y)
      go true through same = refl
      go false through same = rw (through refl) (same refl)

-- ---- response from a state, and diagnosis

module _ (net : Network) (k : ℕ) (vectors : List ℕ) where
  pub responds_alone : (state : List ℕ) (room : ℕ)
      → response_answer net (own_receivers net.nets) k vectors state room ≡ response_alone net k vectors state room
  unfolding response_answer response_alone
  responds_alone state room =
      drops_out net
      ((class_tests (bad_class net k) net ++ vector_tests net vectors)
      ++ state_tests net (length (own_receivers net.nets)) k vectors state room)
      ((class_tests (bad_class net k) net ++ vector_tests net vectors) ++ state_tests net net.nets k vectors state room)
      (response net state vectors) (response net state vectors) (λ _. rw (own_size net.nets))

  pub diagnoses_alone : (responses : List ℕ) (room : ℕ)
      → diagnosis_answer net (own_receivers net.nets) k vectors responses room ≡ diagnosis_alone net k vectors responses room
  unfolding diagnosis_answer diagnosis_alone
  diagnoses_alone responses room =
      drops_out net
      ((class_tests (bad_class net k) net ++ vector_tests net vectors)
      ++ answers_tests net (length (own_receivers net.nets)) k vectors responses room)
      ((class_tests (bad_class net k) net ++ vector_tests net vectors) ++ answers_tests net net.nets k vectors responses room)
      (read_back net (length (own_receivers net.nets)) k vectors responses) (read_back net net.nets k vectors responses)
      (λ _. rw (own_size net.nets))
