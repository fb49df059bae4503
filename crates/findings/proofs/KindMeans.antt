-- What kinds 0 and 1 say of a receiver r, on net i. Whether it has partners is decided by which drivers reach it and
-- what the driver of its own net reaches; the rest of the rule says which further nets are named.
use Rattle.std.proofs.Common.{◌≡◌, refl, sym, ap, ◌∙◌, subst, Bool, true, false, not, ◌≢◌, ◌↔◌, inl, inr, ⊎_elim}
use Rattle.std.proofs.Common.{List, ℕ, ◌+◌, ◌*◌, ◌^◌, ◌<◌, arith, eqb, length, pow_pos, eqb-true, ne_eqb}
use lib.Pow.{pow-lt}
use borrow.Author.Tests.{eqb-false, not-false}
use Rattle.words.specs.Bits.{has, bit_value, at}
use Rattle.words.proofs.Tests.{cases, contrary, not_equal, test_fails, equal_if_not_unequal}
use Rattle.words.proofs.Bits.{words_equal, has_zero, has_power, has_own, has_only, some_bit, bit_value_is}
use Rattle.words.proofs.Bits.{bit_value_below_two}
use Rattle.network.specs.declared.Network.{Network}
use Rattle.network.specs.States.{State}
use Rattle.network.proofs.Rows.{AdmittedReceivers}
use Rattle.findings.specs.Findings.{net_of, Reaches, Joined, Partner, is_open, partners, kind, finding}
use Rattle.findings.proofs.KindSum.{sum_of}
use Rattle.findings.proofs.Partners.{decides_partner, partners_below, has_partners, partners_bits}

-- ---- what is said of them

-- every receiver that the driver of net i reaches is on net i
abbrev pub ReachesOnlyItsNet : (owners state : List ℕ) → ℕ → Type 0
ReachesOnlyItsNet owners state i = (s : ℕ) → s < length state → Reaches state i s → net_of owners s ≡ i

-- every receiver that the driver of net i reaches is on net i, and no other driver reaches it
abbrev pub ReachesAlone : (owners state : List ℕ) → ℕ → Type 0
ReachesAlone owners state i = (s : ℕ) → s < length state → Reaches state i s
    → (net_of owners s ≡ i) × (at state s ≡ 2 ^ i)

-- no driver but net i's reaches receiver r
abbrev pub NoOther : Network → List ℕ → (i r : ℕ) → Type 0
NoOther net state i r = (j : ℕ) → j < net.nets → i ≢ j → ¬ (Reaches state j r)

-- a reach without other drivers, by its own bit: w is the reach that has its own bit so, and no other bit
reach_by_own : (n i a w : ℕ) → a < 2 ^ n → w < 2 ^ n → ((j : ℕ) → j < n → i ≢ j → ¬ (has a j ≡ true))
    → ((j : ℕ) → i ≢ j → has w j ≡ false) → has a i ≡ has w i → a ≡ w
reach_by_own n i a w inside below others none own = words_equal n a w inside below same
  where
    no_other : (j : ℕ) → j < n → i ≢ j → has a j ≡ false
    no_other j l other = ⊎_elim (λ e. absurd (others j l other e)) (λ e. e) (cases (has a j))

    same : (j : ℕ) → j < n → has a j ≡ has w j
    same j l =
        ⊎_elim (λ e. subst (λ (x : ℕ). has a x ≡ has w x) (eqb-true i j e) own)
        (λ e. let other = eqb-false i j e in no_other j l other ∙ sym (none j other)) (cases (eqb i j))

-- a power of two has no other bit
one_bit : (i j : ℕ) → i ≢ j → has (2 ^ i) j ≡ false
one_bit i j other = has_power i j ∙ ne_eqb i j other

same_value : (a b : Bool) → bit_value a ≡ bit_value b → a ≡ b
same_value a b e = sym (bit_value_is a) ∙ ap (λ (x : ℕ). eqb x 1) e ∙ bit_value_is b

-- the kind tells whether a receiver is open, and whether it has partners
pub kind_tells : (opened shorted o s : Bool) → kind opened shorted ≡ kind o s → (opened ≡ o) × (shorted ≡ s)
kind_tells opened shorted o s e =
    let sums : bit_value opened + 2 * bit_value shorted ≡ bit_value o + 2 * bit_value s = sum_of opened shorted ∙ e ∙ sym (sum_of o s) in
    let l = bit_value_below_two opened in
    let m = bit_value_below_two o in
    (same_value opened o (omega (arith, sums, l, m)), same_value shorted s (omega (arith, sums, l, m)))

module _ (net : Network) (owners state : List ℕ) (receivers : AdmittedReceivers net owners)
    (is : State net (length owners) net.nets state) (r : ℕ) (l : r < length owners) where
  abbrev i : ℕ
  i = net_of owners r

  here : r < length state
  here = rw is.size l

  -- ---- no partners

  unjoined : NoOther net state i r → ReachesAlone owners state i → (j : ℕ) → j < net.nets
      → ¬ (Partner owners state r j)
  unjoined others alone j inside (n, h) = go h
    where
      own_reaches : at state r ≢ 0 → Reaches state i r
      own_reaches some =
          let (x, lower, p) = some_bit net.nets (at state r) (is.reach r here).inside some in
          ⊎_elim (λ e. subst (λ (y : ℕ). Reaches state y r) (sym (eqb-true i x e)) p)
          (λ e. absurd (others x lower (eqb-false i x e) p)) (cases (eqb i x))

      not_reached : (s : ℕ) → s < length state → net_of owners s ≡ j → ¬ (Reaches state i s)
      not_reached s m e p = n (sym (alone s m p).0 ∙ e)

      go : ¬ (Joined owners state r j)
      go (inl (s, m, e, (some, same))) = not_reached s m e (ap (λ (w : ℕ). has w i) same ∙ own_reaches some)
      go (inr (inl (s, m, p, q))) = n (has_only i j (ap (λ (w : ℕ). has w j) (sym (alone s m p).1) ∙ q))
      go (inr (inr (inl p))) = others j inside n p
      go (inr (inr (inr (s, m, e, p)))) = not_reached s m e p

  module _ (none : partners net owners state r ≡ 0) where
    nobody : (j : ℕ) → j < net.nets → ¬ (Partner owners state r j)
    nobody j inside h =
        contrary ((partners_bits net owners state r j inside).1 h) (ap (λ (w : ℕ). has w j) none ∙ has_zero j)

    no_other : NoOther net state i r
    no_other j inside n p = nobody j inside (n, inr (inr (inl p)))

    reaches_alone : ReachesAlone owners state i
    reaches_alone s m p = (
      equal_if_not_unequal (net_of owners s) i
          (λ other. nobody (net_of owners s) (receivers.owner s (rw is.size at m))
          (λ e. other (sym e), inr (inr (inr (s, m, refl, p))))),
      reach_by_own net.nets i (at state s) (2 ^ i) (is.reach s m).inside (pow-lt (receivers.owner r l))
          (λ j inside n q. nobody j inside (n, inr (inl (s, m, p, q)))) (one_bit i) (p ∙ sym (has_own i)),
    )

  -- A receiver has no partners exactly if no other driver reaches it and every receiver that the driver of its own net
  -- reaches is on that net and is reached by no other driver.
  pub no_partners : (partners net owners state r ≡ 0) ↔ (NoOther net state i r × ReachesAlone owners state i)
  no_partners = (
    λ e. (no_other e, reaches_alone e),
    λ h. words_equal net.nets (partners net owners state r) 0 (partners_below net owners state r)
        (pow_pos net.nets)
        (λ j inside. fails h.0 h.1 j inside ∙ sym (has_zero j)),
  )
    where
      fails : NoOther net state i r → ReachesAlone owners state i → (j : ℕ) → j < net.nets
          → has (partners net owners state r) j ≡ false
      fails others alone j inside =
          has_partners net owners state r j inside
          ∙ test_fails (decides_partner owners state r j) (unjoined others alone j inside)

  -- ---- kinds 0 and 1

  -- by whether its own driver reaches it: w is the reach that has its own bit so, and no other bit
  kind_means : (own : Bool) (w : ℕ) → w < 2 ^ net.nets → has w i ≡ own → ((j : ℕ) → i ≢ j → has w j ≡ false)
      → ((finding net owners state r).kind ≡ kind (not own) false) ↔ ((at state r ≡ w) × ReachesAlone owners state i)
  unfolding finding is_open
  kind_means own w below e rest = (there, back)
    where
      there : kind (not (has (at state r) i)) (not (eqb (partners net owners state r) 0)) ≡ kind (not own) false
          → (at state r ≡ w) × ReachesAlone owners state i
      there f =
          let told = kind_tells (not (has (at state r) i)) (not (eqb (partners net owners state r) 0))
          (not own) false f in
          let none = eqb-true (partners net owners state r) 0 (not-false _ told.1) in (
            reach_by_own net.nets i (at state r) w (is.reach r here).inside below (no_other none) rest
                (not_equal (has (at state r) i) own told.0 ∙ sym e),
            reaches_alone none,
          )

      back : (at state r ≡ w) × ReachesAlone owners state i
          → kind (not (has (at state r) i)) (not (eqb (partners net owners state r) 0)) ≡ kind (not own) false
      back (f, alone) =
          let others : NoOther net state i r = λ j inside n p. contrary p (ap (λ (x : ℕ). has x j) f ∙ rest j n) in
          let none = no_partners.1 (others, alone) in
          let bit : has (at state r) i ≡ own = ap (λ (x : ℕ). has x i) f ∙ e in
          rw (bit, none)

  -- its own driver and no other reaches it, and so it is with every receiver that this driver reaches
  alone_if_sound : at state r ≡ 2 ^ i → ReachesOnlyItsNet owners state i → ReachesAlone owners state i
  alone_if_sound e on_net s m p =
      let own : Reaches state i r = ap (λ (x : ℕ). has x i) e ∙ has_own i in
      (on_net s m p, is.meet_only_if_equal s r i m here (receivers.owner r l) p own ∙ e)

  -- neither open nor short: its own driver and no other reaches it, and that driver reaches only receivers of its net
  pub sound_means : ((finding net owners state r).kind ≡ 0) ↔ ((at state r ≡ 2 ^ i) × ReachesOnlyItsNet owners state i)
  unfolding kind
  sound_means =
      let means = kind_means true (2 ^ i) (pow-lt (receivers.owner r l)) (has_own i) (one_bit i) in (
        λ e. ((means.0 e).0, λ s m p. ((means.0 e).1 s m p).0),
        λ h. means.1 (h.0, alone_if_sound h.0 h.1),
      )

  -- open and no short: it floats, and the driver of its own net reaches only receivers of that net, each alone
  pub open_means : ((finding net owners state r).kind ≡ 1) ↔ ((at state r ≡ 0) × ReachesAlone owners state i)
  unfolding kind
  open_means = kind_means false 0 (pow_pos net.nets) (has_zero i) (λ j n. has_zero j)
