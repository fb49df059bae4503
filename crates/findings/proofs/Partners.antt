-- The partners of a receiver: the test says what document 02's words say, and what a reader may ask of the rule.
use Rattle.std.proofs.Common.{◌≡◌, refl, sym, ap, ◌∙◌, subst, true, false, ◌⊎◌, ◌≢◌, ◌↔◌, inl, inr, List, ℕ, ◌<◌, ◌^◌}
use Rattle.std.proofs.Common.{length}
use Rattle.words.specs.Answers.{Decides}
use Rattle.words.specs.Bits.{has, at}
use Rattle.words.specs.Turning.{tabulate}
use Rattle.words.proofs.Tests.{same_truth, test_passes, test_fails}
use Rattle.words.proofs.Tests.{decides_itself, decides_equal, decides_not, decides_and, decides_or, decides_same}
use Rattle.words.proofs.Bits.{has_not_zero, some_bit}
use Rattle.words.proofs.Searching.{decides_any}
use Rattle.words.proofs.Making.{has_made, made_below}
use Rattle.words.proofs.Columns.{length_tabulate, tabulate_at}
use Rattle.network.specs.declared.Network.{Network}
use Rattle.network.specs.States.{State}
use Rattle.network.specs.Rows.{HasReceiver}
use Rattle.network.specs.OwnReceivers.{own_receivers}
use Rattle.network.proofs.OwnReceivers.{own_size, own_at}
use Rattle.findings.specs.Findings.{net_of, Reaches, SameReach, OneReceiver, SomeReceiver, Joined, Partner}
use Rattle.findings.specs.Findings.{Paired, joins, joins_at, is_partner, partners}

-- ---- the test

module _ (owners state : List ℕ) (r j : ℕ) where
  -- receiver s joins net j to receiver r
  abbrev Joins : ℕ → Type 0
  Joins s =
      ((net_of owners s ≡ j) × SameReach state r s)
      ⊎ ((Reaches state (net_of owners r) s × Reaches state j s)
      ⊎ ((net_of owners s ≡ j) × Reaches state (net_of owners r) s))

  decides_joins : (s : ℕ) → Decides (joins_at owners state r j s) (Joins s)
  unfolding joins
  decides_joins s =
      let mine = decides_itself (has (at state s) (net_of owners r)) in
      let its_own = decides_equal (net_of owners s) j in
      let same_reach = decides_and (decides_not (decides_equal (at state r) 0))
      (decides_equal (at state s) (at state r)) in
      decides_or (decides_and its_own same_reach)
      (decides_or (decides_and mine (decides_itself (has (at state s) j))) (decides_and its_own mine))

  -- what some receiver does, clause by clause
  there : ((s : ℕ) × (s < length state) × Joins s) ⊎ Reaches state j r → Joined owners state r j
  there (inl (s, l, inl (e, same))) = inl (s, l, e, same)
  there (inl (s, l, inr (inl (p, q)))) = inr (inl (s, l, p, q))
  there (inl (s, l, inr (inr (e, p)))) = inr (inr (inr (s, l, e, p)))
  there (inr h) = inr (inr (inl h))

  back : Joined owners state r j → ((s : ℕ) × (s < length state) × Joins s) ⊎ Reaches state j r
  back (inl (s, l, e, same)) = inl (s, l, inl (e, same))
  back (inr (inl (s, l, p, q))) = inl (s, l, inr (inl (p, q)))
  back (inr (inr (inl h))) = inr h
  back (inr (inr (inr (s, l, e, p)))) = inl (s, l, inr (inr (e, p)))

  pub decides_partner : Decides (is_partner owners state r j) (Partner owners state r j)
  unfolding is_partner
  decides_partner =
      decides_and (decides_not (decides_equal (net_of owners r) j))
      (decides_same there back
      (decides_or
      (decides_any (joins_at owners state r j) Joins (length state) decides_joins)
      (decides_itself (has (at state r) j))))

-- ---- the word

module _ (net : Network) (owners state : List ℕ) (r : ℕ) where
  pub partners_below : partners net owners state r < 2 ^ net.nets
  unfolding partners
  partners_below =
      rw (length_tabulate net.nets (λ x. x)) at (made_below (is_partner owners state r)
      (tabulate net.nets (λ x. x)))

  pub has_partners : (j : ℕ) → j < net.nets → has (partners net owners state r) j ≡ is_partner owners state r j
  unfolding partners
  has_partners j l =
      has_made (is_partner owners state r) (tabulate net.nets (λ x. x)) j
      (rw (length_tabulate net.nets (λ x. x)) l)
      ∙ ap (is_partner owners state r) (tabulate_at net.nets (λ x. x) j l)

  pub partners_bits : (j : ℕ) → j < net.nets → (has (partners net owners state r) j ≡ true) ↔ Partner owners state r j
  partners_bits j l =
      let d = decides_partner owners state r j in
      (λ e. d.0 (sym (has_partners j l) ∙ e), λ h. has_partners j l ∙ test_passes d h)

-- ---- the rule

module _ (owners state : List ℕ) where
  -- a receiver's own net is no partner of it, however many receivers that net has
  pub not_its_own : (r : ℕ) → ¬ (Partner owners state r (net_of owners r))
  not_its_own r h = h.0 refl

  pub partners_not_own : (net : Network) (r : ℕ) → net_of owners r < net.nets
      → has (partners net owners state r) (net_of owners r) ≡ false
  partners_not_own net r l =
      let i = net_of owners r in
      has_partners net owners state r i l ∙ test_fails (decides_partner owners state r i) (not_its_own r)

  -- if net j is a partner of receiver r, then r's own net is a partner of some receiver of net j
  pub partner_of_some : length state ≡ length owners → (r j : ℕ) → r < length state → HasReceiver owners j
      → Partner owners state r j
      → SomeReceiver owners state j (λ s. Partner owners state s (net_of owners r))
  partner_of_some size r j l (s, m, e) (n, joined) = go joined
    where
      other : (t : ℕ) → net_of owners t ≡ j → net_of owners t ≢ net_of owners r
      other t f same = n (sym same ∙ f)

      go : Joined owners state r j → SomeReceiver owners state j (λ t. Partner owners state t (net_of owners r))
      go (inl (t, k, f, (some, same))) = (t, k, f, (other t f, inl (r, l, refl, (λ z. some (sym same ∙ z), sym same))))
      go (inr (inl (t, k, p, q))) =
          (s, rw size m, e, (other s e, inr (inl (t, k, subst (λ (x : ℕ). Reaches state x t) (sym e) q, p))))
      go (inr (inr (inl p))) =
          (s, rw size m, e, (other s e, inr (inr (inr (r, l, refl, subst (λ (x : ℕ). Reaches state x r) (sym e) p)))))
      go (inr (inr (inr (t, k, f, p)))) = (t, k, f, (other t f, inr (inr (inl p))))

-- ---- the rule in a wiring state, whose reaches meet only if they are equal

-- one driver reaches both receivers
abbrev pub OneDriver : Network → List ℕ → (r s : ℕ) → Type 0
OneDriver net state r s = (x : ℕ) × (x < net.nets) × Reaches state x r × Reaches state x s

module _ (net : Network) (m k : ℕ) (state : List ℕ) (is : State net m k state) (r s : ℕ) (l : r < length state)
    (h : s < length state) where
  -- that is the same as the same non-empty reach
  pub one_driver : SameReach state r s → OneDriver net state r s
  one_driver (some, same) =
      let (x, inside, reached) = some_bit net.nets (at state r) (is.reach r l).inside some in
      (x, inside, reached, ap (λ (w : ℕ). has w x) same ∙ reached)

  pub same_reach : OneDriver net state r s → SameReach state r s
  same_reach (x, inside, p, q) = (has_not_zero (at state r) x p, is.meet_only_if_equal s r x h l inside q p)

  -- wherever document 01's rule held: one driver reaches both receivers, and they are on different nets
  pub as_before : (owners : List ℕ) → net_of owners r ≢ net_of owners s → OneDriver net state r s
      → Partner owners state r (net_of owners s)
  as_before owners other one = (other, inl (s, h, refl, same_reach one))

-- ---- the rule of one receiver a net: receiver i is on net i

module _ (net : Network) (state : List ℕ) where
  abbrev own : List ℕ
  own = own_receivers net.nets

  module _ (size : length state ≡ net.nets) where
    -- a receiver of net j is receiver j
    its_receiver : {P : ℕ → Type 0} (j : ℕ) → SomeReceiver own state j P → P j
    its_receiver {P} j (s, l, e, p) = subst P (sym (own_at net.nets s (rw size at l)) ∙ e) p

    pub symmetric : (i j : ℕ) → i < net.nets → j < net.nets → Partner own state i j → Partner own state j i
    symmetric i j l m h =
        let mine = own_at net.nets i l in
        subst (λ (x : ℕ). Partner own state j x) mine
        (its_receiver j (partner_of_some own state (size ∙ sym (own_size net.nets)) i j (rw size l)
        (j, rw (own_size net.nets) m, own_at net.nets j m) h))

    pub partners_symmetric : (i j : ℕ) → i < net.nets → j < net.nets
        → has (partners net own state i) j ≡ has (partners net own state j) i
    partners_symmetric i j l m =
        same_truth (has (partners net own state i) j) (has (partners net own state j) i) (way i j l m) (way j i m l)
      where
        way : (a b : ℕ) → a < net.nets → b < net.nets → has (partners net own state a) b ≡ true
            → has (partners net own state b) a ≡ true
        way a b la lb e = (partners_bits net own state b a la).1
            (symmetric a b la lb ((partners_bits net own state a b lb).0 e))

  -- Document 02's words of two nets with a receiver each. That one driver reaches both is the same non-empty reach.
  module _ (is : State net net.nets net.nets state) (i j : ℕ) (l : i < net.nets) (m : j < net.nets) where
    mine : net_of own i ≡ i
    mine = own_at net.nets i l

    its : net_of own j ≡ j
    its = own_at net.nets j m

    first : i < length state
    first = rw is.size l

    second : j < length state
    second = rw is.size m

    pub paired_if_partner : Partner own state i j → Paired net state i j
    paired_if_partner (n, h) = (λ e. n (mine ∙ e), go h)
      where
        reaches : (s : ℕ) → Reaches state (net_of own i) s → Reaches state i s
        reaches s p = subst (λ (x : ℕ). Reaches state x s) mine p

        go : Joined own state i j
            → OneDriver net state i j ⊎ (OneReceiver state i j ⊎ (Reaches state i j ⊎ Reaches state j i))
        go (inl some) = inl (one_driver net net.nets net.nets state is i j first second
            (its_receiver is.size j some))
        go (inr (inl (s, k, p, q))) = inr (inl (s, k, reaches s p, q))
        go (inr (inr (inl q))) = inr (inr (inr q))
        go (inr (inr (inr some))) = inr (inr (inl (reaches j (its_receiver is.size j some))))

    pub partner_if_paired : Paired net state i j → Partner own state i j
    partner_if_paired (n, h) = (λ e. n (sym mine ∙ e), go h)
      where
        reaches : (s : ℕ) → Reaches state i s → Reaches state (net_of own i) s
        reaches s p = subst (λ (x : ℕ). Reaches state x s) (sym mine) p

        go : OneDriver net state i j ⊎ (OneReceiver state i j ⊎ (Reaches state i j ⊎ Reaches state j i))
            → Joined own state i j
        go (inl one) = inl (j, second, its, same_reach net net.nets net.nets state is i j first second one)
        go (inr (inl (s, k, p, q))) = inr (inl (s, k, reaches s p, q))
        go (inr (inr (inl p))) = inr (inr (inr (j, second, its, reaches j p)))
        go (inr (inr (inr q))) = inr (inr (inl q))
