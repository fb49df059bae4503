-- The cases of the gate: reading, clear nets and row 20 by laws, the rest by computation.
use Rattle.std.proofs.Common.{ℕ, ◌+◌, ◌-◌, ◌≤◌, ◌<◌, ◌≡◌, refl, sym, ap, ◌∙◌, subst, true, false, not, ⊎_elim, ◌≢◌}
use Rattle.std.proofs.Common.{List, not-suc-le-zero, arith, eqb, length, eqb-true, ne_eqb}
use borrow.Author.Tests.{eqb-false, not-true, not-false}
use Rattle.words.specs.Bits.{has, at}
use Rattle.words.proofs.Tests.{cases, not_not, same_truth, less_or_not}
use Rattle.network.specs.declared.Network.{Network}
use Rattle.network.specs.Reading.{wired_or, wired_and, active, needs_extra, extra_vectors, reads}
use Rattle.network.proofs.Reading.{active_walking, active_extra, extra_none, extra_most, reads_floating, reads_active, active_only}
use Rattle.network.proofs.Reading.{reads_inactive}
use Rattle.network.proofs.Rows.{is_bit, above_bits}
use Rattle.findings.specs.Open.{open_findings}
use Rattle.steps.specs.SecondStep.{Clear, unclear, UnclearNets, settling_vectors, second_vectors}
use Rattle.steps.proofs.BothSteps.{settling_size, settling_extra, settling_walking, unclear_nets, second_none}
use Rattle.session.specs.Open.{open_session}
use Rattle.packing.specs.Packed.{session_words, job_words}
use Rattle.demands.specs.GateCases.{GateCases}

exchanged : (n level other reach vector opposite : ℕ) → eqb other 1 ≡ not (eqb level 1)
    → ((j : ℕ) → j < n → has opposite j ≡ not (has vector j))
    → reads (wired_and n level) reach vector ≡ not (reads (wired_or n other) reach opposite)
unfolding active
exchanged n level other reach vector opposite levels bits = ⊎_elim floats drives (cases (eqb reach 0))
  where
    low : Network
    low = wired_and n level

    high : Network
    high = wired_or n other

    floats : eqb reach 0 ≡ true → reads low reach vector ≡ not (reads high reach opposite)
    floats e =
        subst (λ (x : ℕ). reads low x vector ≡ not (reads high x opposite)) (sym (eqb-true reach 0 e))
        (reads_floating low vector ∙ sym (not_not (eqb level 1)) ∙ ap not (sym levels) ∙ ap not (sym (reads_floating high opposite)))

    drives : eqb reach 0 ≡ false → reads low reach vector ≡ not (reads high reach opposite)
    drives e =
        sym (not_not (reads low reach vector))
        ∙ ap not
        (same_truth (not (reads low reach vector)) (reads high reach opposite)
        (λ q. let r = active_only low reach vector some q in
        reads_active high reach opposite r.0 r.1 r.2 (bits r.0 r.1 ∙ r.3))
        (λ q. let r = active_only high reach opposite some q in
        reads_active low reach vector r.0 r.1 r.2 (sym (bits r.0 r.1) ∙ r.3)))
      where
        some : reach ≢ 0
        some = eqb-false reach 0 e

-- in step two the driver of a clear net is not active: the extra vector has no active driver, and the walking vector of
-- an unclear net only that net's
clear_not_active : (net : Network) (owners answers : List ℕ) (i t : ℕ) → i < net.nets → Clear net owners answers i
    → t < length (second_vectors net owners answers) → active net (has (at (second_vectors net owners answers) t) i) ≡ false
unfolding second_vectors
clear_not_active net owners answers i t l clear lt = ⊎_elim first later (less_or_not t (length (extra_vectors net)))
  where
    nets : List ℕ
    nets = unclear net owners answers

    listed : UnclearNets net owners answers nets
    listed = unclear_nets net owners answers

    some : length nets ≢ 0
    some none = absurd (not-suc-le-zero {n = t} (rw (ap length (second_none net owners answers none)) at lt))

    first : t < length (extra_vectors net) → active net (has (at (settling_vectors net nets) t) i) ≡ false
    first m =
        ⊎_elim
        (λ s. let z : t ≡ 0 = omega (arith, m, extra_most net) in
        ap (λ (x : ℕ). active net (has (at (settling_vectors net nets) x) i)) z
        ∙ ap (λ (w : ℕ). active net (has w i)) (settling_extra net s nets some) ∙ active_extra net i l)
        (λ s. absurd (not-suc-le-zero {n = t} (rw (ap length (extra_none net s)) at m))) (cases (needs_extra net))

    later : length (extra_vectors net) ≤ t → active net (has (at (settling_vectors net nets) t) i) ≡ false
    later m =
        let u = t - length (extra_vectors net) in
        let lu : u < length nets = omega (arith, m, lt, settling_size net nets some) in
        let place : t ≡ length (extra_vectors net) + u = omega (arith, m) in
        ap (λ (x : ℕ). active net (has (at (settling_vectors net nets) x) i)) place
        ∙ ap (λ (w : ℕ). active net (has w i)) (settling_walking net nets u lu)
        ∙ active_walking net (at nets u) i (listed.below u lu) l
        ∙ ne_eqb (at nets u) i (λ e. (listed.not_clear i l).0 (u, lu, e) clear)

pub gate_cases : GateCases
unfolding open_session open_findings session_words job_words
gate_cases = record {
  or_one = λ n level reach vector j l p q. reads_active (wired_or n level) reach vector j l p q;
  or_otherwise = λ n level reach vector some none.
      reads_inactive (wired_or n level) reach vector some none;
  and_one = λ n level reach vector j l p q. not-true _ (reads_active (wired_and n level) reach vector j l p (ap not q));
  and_else = λ n level reach vector some none.
      not-false _ (reads_inactive (wired_and n level) reach vector some (λ j l p. ap not (none j l p)));
  exchanged = exchanged;
  zeros_of_4 = λ level. refl;
  zero_of_48 = λ level. refl;
  extra_at_0 = λ n. refl;
  extra_of_4 = refl;
  extra_at_1 = λ n. refl;
  zeros_pass_0 = refl;
  no_ones_0 = refl;
  no_zero_of_net_2 = refl;
  ones_walking_0 = refl;
  zeros_pass_1 = refl;
  ones_do_no_harm = refl;
  no_zero_of_net_3 = refl;
  ones_walking_1 = refl;
  zeros_for_or = refl;
  published_1_0 = refl;
  published_2_0 = refl;
  published_3_0 = refl;
  published_1_1 = refl;
  published_2_1 = refl;
  published_3_1 = refl;
  response_0 = refl;
  back_0 = refl;
  response_1 = refl;
  back_1 = refl;
  no_state_0 = refl;
  no_state_1 = refl;
  first_answers_0 = refl;
  second_answers_0 = refl;
  first_answers_1 = refl;
  second_answers_1 = refl;
  session_answers_0 = refl;
  session_record_0 = refl;
  session_answers_1 = refl;
  session_record_1 = refl;
  clear_held = λ n level owners answers i t l clear lt.
      not-false _ (clear_not_active (wired_and n level) owners answers i t l clear lt);
  clear_held_or = λ n level owners answers i t l clear lt. clear_not_active (wired_or n level) owners answers i t l clear lt;
  sound_pair = refl;
  floating_pair_0 = refl;
  floating_pair_1 = refl;
  by_the_gate_or = refl;
  by_the_gate_and = refl;
  driven_or = refl;
  driven_and = refl;
  gate_0 = λ n level. is_bit 0 (omega arith);
  gate_1 = λ n level. is_bit 1 (omega arith);
  no_other_gate = λ n level gate high. above_bits gate high;
  check_2 = refl;
  check_greatest = refl;
  respond_2 = refl;
  diagnose_2 = refl;
  find_1 = refl;
  find_2 = refl;
  begin_1 = refl;
  begin_2 = refl;
  five_first = refl;
  six_first = refl;
  level_first = refl;
  before_7 = refl;
  find_level_first = refl;
  find_before_11 = refl;
  begin_level_first = refl;
  begin_before_12 = refl;
  record_first_1 = refl;
  record_first_2 = refl;
  record_second_1 = refl;
  record_second_2 = refl;
  record_drive_2 = refl;
  begun_words = refl;
  finished_words = refl;
  words_of_a_job = refl;
}
