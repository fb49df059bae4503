-- One receiver a net: a record with its own receivers waits for what the record without them waits for, and accepted
-- calls leave such records.
use Rattle.std.proofs.Common.{◌≡◌, refl, sym, ap, ap₂, ◌∙◌, subst, Bool, true, false, not, cond, ◌≢◌, ⊎_elim, List}
use Rattle.std.proofs.Common.{[], ◌∷◌, ◌++◌, append_assoc, ℕ, ◌+◌, ◌-◌, ◌≤◌, ◌<◌, arith, eqb, length, take, replicate}
use Rattle.std.proofs.Common.{length-append, get_or-append-add, eqb-true, eq-eqb}
use lib.ListN.{length-replicate, get_or-replicate, replicate-append-replicate, get_or-append}
use Rattle.words.specs.Answers.{Decides, first_number}
use Rattle.words.specs.Bits.{at}
use Rattle.words.proofs.Tests.{and_left, same_truth, test_passes, decides_equal, decides_not, decides_and, less_or_not}
use Rattle.words.proofs.Searching.{decides_any}
use Rattle.network.specs.declared.Network.{Network}
use Rattle.network.specs.Rows.{AdmittedBoard, bad_net_count, bad_receivers, bad_level, bad_gate, board_refusal}
use Rattle.network.specs.OwnReceivers.{own_receivers}
use Rattle.network.proofs.Rows.{board_admitted, admitted_refusal}
use Rattle.network.proofs.OwnReceivers.{own_size}
use Rattle.session.specs.Record.{pad, is_zeros, all_hold, board_held, first_answers_held, awaits_first, awaits_second}
use Rattle.session.specs.Record.{awaiting_first, awaiting_second, finished}
use Rattle.session.proofs.Records.{owners_front, board_is, awaits_first_of}
use Rattle.demands.specs.SaidAlone.{network_refusal, SessionAlone, with_own, first_answers_held_alone, awaits_first_alone}
use Rattle.demands.specs.SaidAlone.{awaits_second_alone, awaiting_first_alone, awaiting_second_alone, finished_alone}
use Rattle.demands.proofs.SaidAloneCalls.{own_let_through}
use Rattle.demands.proofs.SaidAloneSteps.{same_unclear}

-- ---- the board that such a record holds

module _ (net : Network) where
  abbrev own : List ℕ
  own = own_receivers net.nets

  pub same_refusal : board_refusal net own ≡ network_refusal net
  same_refusal = go (bad_net_count net) (own_let_through net)
    where
      rest : ℕ
      rest = first_number ((17, bad_level net) ∷ (20, bad_gate net) ∷ [])

      go : (b : Bool) → (b ≡ false → bad_receivers net own ≡ false) → cond b 5 (cond (bad_receivers net own) 21 rest) ≡ cond b 5 rest
      go true through = refl
      go false through = rw (through refl)

  pub held_own : take net.nets (pad 64 own) ≡ own
  held_own = subst (λ (m : ℕ). take m (pad 64 own) ≡ own) (own_size net.nets) (owners_front own)

  admitted_held : AdmittedBoard net own → board_held net net.nets (pad 64 own) ≡ true
  unfolding awaits_first all_hold
  admitted_held admitted =
      subst (λ (m : ℕ). board_held net m (pad 64 own) ≡ true) (own_size net.nets)
      (and_left (board_held net (length own) (pad 64 own)) _ (awaits_first_of net own admitted))

  pub same_board : board_held net net.nets (pad 64 own) ≡ eqb (network_refusal net) 0
  same_board =
      same_truth (board_held net net.nets (pad 64 own)) (eqb (network_refusal net) 0)
      (λ e. eq-eqb _ 0 (sym same_refusal
      ∙ admitted_refusal net own (subst (AdmittedBoard net) held_own (board_is net net.nets (pad 64 own) e).admitted)))
      (λ e. admitted_held (board_admitted net own (same_refusal ∙ eqb-true (network_refusal net) 0 e)))

-- ---- reaches that are all 0

decides_zeros : (size : ℕ) (words : List ℕ)
    → Decides (is_zeros size words) ((length words ≡ size) × (¬ ((i : ℕ) × (i < length words) × (at words i ≢ 0))))
unfolding is_zeros
decides_zeros size words =
    decides_and (decides_equal (length words) size)
    (decides_not (decides_any (λ i. not (eqb (at words i) 0)) (λ i. at words i ≢ 0) (length words)
    (λ i. decides_not (decides_equal (at words i) 0))))

module _ (reaches : List ℕ) where
  abbrev longer : List ℕ
  longer = reaches ++ replicate 16 0

  longer_size : length longer ≡ length reaches + 16
  longer_size = length-append reaches (replicate 16 0) ∙ ap (λ (n : ℕ). length reaches + n) (length-replicate {A = ℕ} 16 0)

  longer_rest : (i : ℕ) → length reaches ≤ i → i < length longer → at longer i ≡ 0
  longer_rest i m l =
      let q : i ≡ length reaches + (i - length reaches) = omega (arith, m) in
      ap (at longer) q ∙ get_or-append-add reaches (replicate 16 0) (i - length reaches) 0
      ∙ get_or-replicate {A = ℕ} 16 (i - length reaches) 0 0 (omega (arith, l, m, longer_size))

  pub same_zeros : is_zeros 64 longer ≡ is_zeros 48 reaches
  same_zeros =
      let d = decides_zeros 64 longer in
      let a = decides_zeros 48 reaches in
      same_truth (is_zeros 64 longer) (is_zeros 48 reaches) (λ e. test_passes a (there (d.0 e))) (λ e. test_passes d (back (a.0 e)))
    where
      there : (length longer ≡ 64) × (¬ ((i : ℕ) × (i < length longer) × (at longer i ≢ 0)))
          → (length reaches ≡ 48) × (¬ ((i : ℕ) × (i < length reaches) × (at reaches i ≢ 0)))
      there (size, none) = (
        omega (arith, size, longer_size),
        λ (i, l, some). none (i, omega (arith, l, longer_size), λ e. some (sym (get_or-append reaches (replicate 16 0) 0 i l) ∙ e)),
      )

      back : (length reaches ≡ 48) × (¬ ((i : ℕ) × (i < length reaches) × (at reaches i ≢ 0)))
          → (length longer ≡ 64) × (¬ ((i : ℕ) × (i < length longer) × (at longer i ≢ 0)))
      back (size, none) = (
        omega (arith, size, longer_size),
        λ (i, l, some). ⊎_elim (λ m. none (i, m, λ e. some (get_or-append reaches (replicate 16 0) 0 i m ∙ e)))
            (λ m. some (longer_rest i m l)) (less_or_not i (length reaches)),
      )

-- ---- what a record waits for

module _ (session : SessionAlone) where
  abbrev net : Network
  net = session.network

  pub same_awaits_first : awaits_first (with_own session) ≡ awaits_first_alone session
  unfolding awaits_first awaits_first_alone
  same_awaits_first =
      ap₂ (λ (board zeros : Bool). all_hold
      (eqb session.step 1 ∷ board ∷ is_zeros 8 session.first ∷ zeros ∷ eqb session.spent 0 ∷ []))
      (same_board net) (same_zeros session.reaches)

  same_answers_held : first_answers_held net (take net.nets (pad 64 (own net))) session.first
      ≡ first_answers_held_alone net session.first
  same_answers_held = rw (held_own net, own_size net.nets, same_unclear net)

  pub same_awaits_second : awaits_second (with_own session) ≡ awaits_second_alone session
  unfolding awaits_second awaits_second_alone
  same_awaits_second = rw (same_board net, same_answers_held, same_zeros session.reaches)

-- ---- what accepted calls leave

-- words in 48 entries and 16 entries more are words in 64
pad_longer : (words : List ℕ) → length words ≤ 48 → pad 64 words ≡ pad 48 words ++ replicate 16 0
pad_longer words l =
    let count : 48 - length words + 16 ≡ 64 - length words = omega (arith, l) in
    sym (append_assoc words (replicate (48 - length words) 0) (replicate 16 0)
    ∙ ap (λ (rest : List ℕ). words ++ rest)
    (replicate-append-replicate {A = ℕ} (48 - length words) 16 0 ∙ ap (λ (n : ℕ). replicate {A = ℕ} n 0) count))

module _ (net : Network) where
  pub same_awaiting_first : awaiting_first net (own net) ≡ with_own (awaiting_first_alone net)
  same_awaiting_first = rw (own_size net.nets)

  pub same_awaiting_second : (answers : List ℕ) → awaiting_second net (own net) answers ≡ with_own (awaiting_second_alone net answers)
  same_awaiting_second answers = rw (own_size net.nets)

  pub same_finished : (state : List ℕ) (spent : ℕ) → length state ≤ 48
      → finished net (own net) state spent ≡ with_own (finished_alone net state spent)
  same_finished state spent l = rw (own_size net.nets, pad_longer state l)
