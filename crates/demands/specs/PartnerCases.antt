-- The partners of document 02, as a table of facts about the definition that the contract of *findings* cites: what
-- each clause of the rule names, alone and with others.
use Rattle.std.specs.Prelude.{ℕ, ◌≡◌, List, [], ◌∷◌}
use Rattle.words.specs.Answers.{Answer, full}
use Rattle.findings.specs.declared.Finding.{Finding}
use Rattle.demands.specs.Boundary.{find_into}

-- *findings* of n nets, with room for a record each
abbrev pub find : ℕ → (state : List ℕ) → Answer (List Finding)
find n state = find_into n state n

abbrev pub found : (kind reach partners : ℕ) → Finding
found kind reach partners = record { kind = kind; reach = reach; partners = partners }

pub record PartnerCases : Type 0 where
  -- two cables pinned crosswise; the same among sound nets, and twice; three in a cycle
  pub crossed : find 2 (2 ∷ 1 ∷ []) ≡ full (found 3 2 2 ∷ found 3 1 1 ∷ [])
  pub crossed_among_sound : find 4 (1 ∷ 4 ∷ 2 ∷ 8 ∷ []) ≡ full (found 0 1 0 ∷ found 3 4 4 ∷ found 3 2 2 ∷ found 0 8 0 ∷ [])
  pub crossed_twice : find 4 (2 ∷ 1 ∷ 8 ∷ 4 ∷ []) ≡ full (found 3 2 2 ∷ found 3 1 1 ∷ found 3 8 8 ∷ found 3 4 4 ∷ [])
  pub cycle : find 3 (2 ∷ 4 ∷ 1 ∷ []) ≡ full (found 3 2 6 ∷ found 3 4 5 ∷ found 3 1 3 ∷ [])
  -- two nets that lost their drivers to two others; the first two are not joined by that
  pub two_crossings : find 4 (0 ∷ 0 ∷ 1 ∷ 2 ∷ []) ≡ full (found 3 0 4 ∷ found 3 0 8 ∷ found 3 1 1 ∷ found 3 2 2 ∷ [])
  -- the cycle without its last wire: the partner of a partner is none
  pub chain : find 3 (2 ∷ 4 ∷ 0 ∷ []) ≡ full (found 3 2 2 ∷ found 3 4 5 ∷ found 3 0 2 ∷ [])
  -- one driver reaches the other net's receiver, and not the other way: beside the receiver's own driver, and alone
  pub with_a_floating_net : find 2 (3 ∷ 0 ∷ []) ≡ full (found 2 3 2 ∷ found 3 0 1 ∷ [])
  pub crossed_one_way : find 2 (0 ∷ 1 ∷ []) ≡ full (found 3 0 2 ∷ found 3 1 1 ∷ [])
  -- two drivers reach a third net's receiver, and no clause but "one receiver" joins the two: the last receiver, the
  -- first, the one between; with a net beside that nothing joins; with its own driver, or a third, beside them; and
  -- nets of which one, or both, are reached otherwise
  pub at_the_last_receiver : find 3 (0 ∷ 0 ∷ 3 ∷ []) ≡ full (found 3 0 6 ∷ found 3 0 5 ∷ found 3 3 3 ∷ [])
  pub at_the_first_receiver : find 3 (6 ∷ 0 ∷ 0 ∷ []) ≡ full (found 3 6 6 ∷ found 3 0 5 ∷ found 3 0 3 ∷ [])
  pub at_the_one_between : find 3 (0 ∷ 5 ∷ 0 ∷ []) ≡ full (found 3 0 6 ∷ found 3 5 5 ∷ found 3 0 3 ∷ [])
  pub beside_a_net_alone : find 4 (0 ∷ 0 ∷ 9 ∷ 0 ∷ []) ≡ full (found 3 0 12 ∷ found 1 0 0 ∷ found 3 9 9 ∷ found 3 0 5 ∷ [])
  pub at_one_that_is_not_open : find 3 (0 ∷ 0 ∷ 7 ∷ []) ≡ full (found 3 0 6 ∷ found 3 0 5 ∷ found 2 7 3 ∷ [])
  pub with_a_third_driver : find 4 (0 ∷ 0 ∷ 0 ∷ 7 ∷ []) ≡ full (found 3 0 14 ∷ found 3 0 13 ∷ found 3 0 11 ∷ found 3 7 7 ∷ [])
  pub one_of_them_reached : find 3 (4 ∷ 0 ∷ 3 ∷ []) ≡ full (found 3 4 6 ∷ found 3 0 5 ∷ found 3 3 3 ∷ [])
  pub both_of_them_reached : find 4 (1 ∷ 1 ∷ 8 ∷ 6 ∷ []) ≡ full (found 2 1 2 ∷ found 3 1 13 ∷ found 3 8 10 ∷ found 3 6 6 ∷ [])
  -- a third net's driver reaches two receivers, and no clause but "one driver" joins the two: the last driver, the
  -- first, the one between; at its own receiver too; with another driver beside it
  pub by_the_last_driver : find 3 (4 ∷ 4 ∷ 0 ∷ []) ≡ full (found 3 4 6 ∷ found 3 4 5 ∷ found 3 0 3 ∷ [])
  pub by_the_first_driver : find 3 (0 ∷ 1 ∷ 1 ∷ []) ≡ full (found 3 0 6 ∷ found 3 1 5 ∷ found 3 1 3 ∷ [])
  pub by_the_one_between : find 3 (2 ∷ 0 ∷ 2 ∷ []) ≡ full (found 3 2 6 ∷ found 3 0 5 ∷ found 3 2 3 ∷ [])
  pub by_one_that_reaches_its_own : find 3 (4 ∷ 4 ∷ 4 ∷ []) ≡ full (found 3 4 6 ∷ found 3 4 5 ∷ found 2 4 3 ∷ [])
  pub by_two_drivers : find 4 (0 ∷ 0 ∷ 3 ∷ 3 ∷ []) ≡ full (found 3 0 14 ∷ found 3 0 13 ∷ found 3 3 11 ∷ found 3 3 7 ∷ [])
  -- two shorts are two; no net is its own partner; floating receivers are not joined by that
  pub two_shorts : find 4 (3 ∷ 3 ∷ 12 ∷ 12 ∷ []) ≡ full (found 2 3 2 ∷ found 2 3 1 ∷ found 2 12 8 ∷ found 2 12 4 ∷ [])
  pub sound : find 2 (1 ∷ 2 ∷ []) ≡ full (found 0 1 0 ∷ found 0 2 0 ∷ [])
  pub floating : find 2 (0 ∷ 0 ∷ []) ≡ full (found 1 0 0 ∷ found 1 0 0 ∷ [])
  -- document 01's state, as it was
  pub listing : find 4 (3 ∷ 3 ∷ 0 ∷ 8 ∷ []) ≡ full (found 2 3 2 ∷ found 2 3 1 ∷ found 1 0 0 ∷ found 0 8 0 ∷ [])
