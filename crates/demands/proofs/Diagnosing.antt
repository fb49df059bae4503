-- Our answer to *diagnosis* keeps demand 2, and no other program does.
use Rattle.std.proofs.Common.{◌≡◌, refl, sym, ap, ◌∙◌, subst, ◌⊎◌, inl, inr, ◌↔◌, false, List, [], ◌∷◌, ℕ, length}
use Rattle.std.proofs.Common.{take, replicate}
use Rattle.words.specs.Answers.{Answer, refused, full, ByTable, NoneHolds, lent_after, count_of}
use Rattle.words.proofs.Answers.{table_full, table_skip, none_front, none_rest, front_written, fills_determined, refused_not_full}
use Rattle.network.specs.declared.Network.{Network}
use Rattle.network.specs.Reading.{wired_or, wired_and}
use Rattle.network.specs.States.{Fits, not_a_state}
use Rattle.network.specs.Rows.{BoardSetRows}
use Rattle.network.proofs.Rows.{admitted_set, set_of_board_set}
use Rattle.network.proofs.States.{test→state}
use Rattle.checker.proofs.Separation.{apart_one_fits}
use Rattle.diagnosis.specs.Diagnosis.{Row14, DiagnosisRows, diagnosis_answer}
use Rattle.diagnosis.specs.Open.{open_diagnosis}
use Rattle.checker.proofs.PassedSets.{passed_apart}
use Rattle.diagnosis.proofs.DiagnosisLaws.{diagnosis_by_table, diagnosis_determined}
use Rattle.findings.specs.Findings.{finding}
use Rattle.findings.specs.Open.{open_findings}
use Rattle.demands.specs.Demand2.{DiagnosisProgram, BeforeFitting, EarlierRows, Diagnoses, open_and_short, OpenAndShort, Demand2}
use Rattle.demands.specs.Programs.{our_response, our_diagnosis}
use Rattle.demands.proofs.Responding.{responds}

module _ (net : Network) (owners : List ℕ) (k : ℕ) (vectors responses lent : List ℕ) where
  -- a state into the list: the list then begins with it
  begins_with : (state : List ℕ) → Fits net (length owners) k vectors responses state
      → take (length owners) (lent_after (full state) lent) ≡ state
  begins_with state h = ap (λ (n : ℕ). take n (lent_after (full state) lent)) (sym h.of_class.size) ∙ front_written state lent

  right : (a : Answer (List ℕ)) → ByTable (DiagnosisRows net owners k vectors responses (length lent))
      (Fits net (length owners) k vectors responses) a
      → (count : ℕ) → count_of a ≡ full count → Fits net (length owners) k vectors responses (take (length owners) (lent_after a lent))
  unfolding count_of
  right (refused number) t count e = refused_not_full refl e
  right (full state) t count e =
      let fits = table_full (Fits net (length owners) k vectors responses)
      (DiagnosisRows net owners k vectors responses (length lent)) state t in
      subst (Fits net (length owners) k vectors responses) (sym (begins_with state fits)) fits

  module _ (none : NoneHolds (EarlierRows net owners k vectors responses (length lent))) where
    -- row 14 alone is left
    last : (Row14 net (length owners) k vectors responses × (diagnosis_answer net owners k vectors responses (length lent) ≡ refused 14))
        ⊎ ((¬ (Row14 net (length owners) k vectors responses))
        × ((state : List ℕ) × (diagnosis_answer net owners k vectors responses (length lent) ≡ full state)
        × Fits net (length owners) k vectors responses state))
    last =
        table_skip (Fits net (length owners) k vectors responses) (EarlierRows net owners k vectors responses (length lent))
        ((14, Row14 net (length owners) k vectors responses) ∷ [])
        (diagnosis_answer net owners k vectors responses (length lent)) none
        (diagnosis_by_table net owners k vectors responses (length lent))

    only : (s u : List ℕ) → Fits net (length owners) k vectors responses s → Fits net (length owners) k vectors responses u → s ≡ u
    only = go none
      where
        go : NoneHolds (EarlierRows net owners k vectors responses (length lent)) → (s u : List ℕ)
            → Fits net (length owners) k vectors responses s → Fits net (length owners) k vectors responses u → s ≡ u
        go none s u p q =
            let set = none_front (BoardSetRows net owners k vectors)
            (BeforeFitting net (length owners) k vectors responses (length lent)) none in
            let own = none_rest (BoardSetRows net owners k vectors)
            (BeforeFitting net (length owners) k vectors responses (length lent)) none in
            let admitted = admitted_set net k vectors (set_of_board_set net owners k vectors set) in
            apart_one_fits net (length owners) k vectors (passed_apart net k vectors admitted own.1.1.1.0) responses s u p q

    found : (state : List ℕ) → Fits net (length owners) k vectors responses state
        → (count_of (diagnosis_answer net owners k vectors responses (length lent)) ≡ full (length owners))
        × (take (length owners) (lent_after (diagnosis_answer net owners k vectors responses (length lent)) lent) ≡ state)
    unfolding count_of
    found state h = go last
      where
        go : (Row14 net (length owners) k vectors responses × (diagnosis_answer net owners k vectors responses (length lent) ≡ refused 14))
            ⊎ ((¬ (Row14 net (length owners) k vectors responses))
            × ((s : List ℕ) × (diagnosis_answer net owners k vectors responses (length lent) ≡ full s)
            × Fits net (length owners) k vectors responses s))
            → (count_of (diagnosis_answer net owners k vectors responses (length lent)) ≡ full (length owners))
            × (take (length owners) (lent_after (diagnosis_answer net owners k vectors responses (length lent)) lent) ≡ state)
        go (inl (no!, e)) = absurd (no! (state, h))
        go (inr (some, (s, e, fits))) = (
          ap count_of e ∙ ap full fits.of_class.size,
          ap (λ (a : Answer (List ℕ)). take (length owners) (lent_after a lent)) e ∙ begins_with s fits ∙ only s state fits h,
        )

    exactly : (count_of (diagnosis_answer net owners k vectors responses (length lent)) ≡ refused 14) ↔
        (¬ ((state : List ℕ) × Fits net (length owners) k vectors responses state))
    unfolding count_of
    exactly = go last
      where
        go : (Row14 net (length owners) k vectors responses × (diagnosis_answer net owners k vectors responses (length lent) ≡ refused 14))
            ⊎ ((¬ (Row14 net (length owners) k vectors responses))
            × ((s : List ℕ) × (diagnosis_answer net owners k vectors responses (length lent) ≡ full s)
            × Fits net (length owners) k vectors responses s))
            → (count_of (diagnosis_answer net owners k vectors responses (length lent)) ≡ refused 14) ↔
            (¬ ((state : List ℕ) × Fits net (length owners) k vectors responses state))
        go (inl (no!, e)) = (λ _. no!, λ _. ap count_of e)
        go (inr (some, (s, e, fits))) = (λ q. refused_not_full q (ap count_of e), λ h. absurd (some h))

pub diagnoses : Diagnoses our_diagnosis
diagnoses net owners k vectors responses lent = record {
  by_table = record {
    answer = diagnosis_answer net owners k vectors responses (length lent);
    allowed = diagnosis_by_table net owners k vectors responses (length lent);
    returned = refl;
    list = refl;
  };
  right = right net owners k vectors responses lent (diagnosis_answer net owners k vectors responses (length lent))
      (diagnosis_by_table net owners k vectors responses (length lent));
  found = found net owners k vectors responses lent;
  none = exactly net owners k vectors responses lent;
}

pub diagnosis_determined_program : (p q : DiagnosisProgram) → Diagnoses p → Diagnoses q
    → (net : Network) (owners : List ℕ) (k : ℕ) (vectors responses lent : List ℕ)
    → p net owners k vectors responses lent ≡ q net owners k vectors responses lent
diagnosis_determined_program p q f g net owners k vectors responses lent =
    fills_determined (DiagnosisRows net owners k vectors responses (length lent)) (Fits net (length owners) k vectors responses) lent
    (p net owners k vectors responses lent) (q net owners k vectors responses lent)
    (diagnosis_determined net owners k vectors responses (length lent)) (f net owners k vectors responses lent).by_table
    (g net owners k vectors responses lent).by_table

-- what is computed on one network
open_and_short_on : (net : Network) (vectors answers : List ℕ) → not_a_state net 3 3 open_and_short ≡ false
    → our_response net (0 ∷ 1 ∷ 2 ∷ []) 3 vectors open_and_short (replicate (length vectors) 9)
    ≡ record { returned = full (length vectors); list = answers }
    → our_diagnosis net (0 ∷ 1 ∷ 2 ∷ []) 3 vectors answers (9 ∷ 9 ∷ 9 ∷ []) ≡ record { returned = full 3; list = open_and_short }
    → (finding net (0 ∷ 1 ∷ 2 ∷ []) open_and_short 0).kind ≡ 3
    → OpenAndShort our_response our_diagnosis net vectors answers
unfolding open_diagnosis
open_and_short_on net vectors answers state there back found = record {
  is_state = test→state net 3 3 open_and_short state;
  open_net = refl;
  shorted = (refl, refl);
  response = there;
  and_back = back;
  both_found = found;
}

pub demand_2 : Demand2 our_response our_diagnosis
unfolding open_diagnosis open_findings
demand_2 = record {
  response = responds;
  reading_back = diagnoses;
  or_1 = open_and_short_on (wired_or 3 1) (0 ∷ 1 ∷ 2 ∷ 4 ∷ []) (4 ∷ 4 ∷ 7 ∷ 7 ∷ []) refl refl refl refl;
  or_0 = open_and_short_on (wired_or 3 0) (0 ∷ 1 ∷ 2 ∷ 4 ∷ []) (0 ∷ 0 ∷ 3 ∷ 3 ∷ []) refl refl refl refl;
  and_1 = open_and_short_on (wired_and 3 1) (6 ∷ 5 ∷ 3 ∷ []) (7 ∷ 4 ∷ 4 ∷ []) refl refl refl refl;
  and_0 = open_and_short_on (wired_and 3 0) (7 ∷ 6 ∷ 5 ∷ 3 ∷ []) (3 ∷ 3 ∷ 0 ∷ 0 ∷ []) refl refl refl refl;
}
