-- The cases of shorter sets: those of the order by its definition, the others by computation.
use Rattle.std.proofs.Common.{refl, inl, inr, [], ◌∷◌, arith}
use Rattle.shorter.specs.Shorter.{InOrder}
use Rattle.shorter.specs.Open.{open_shorter}
use Rattle.packing.specs.Packed.{shorter_words}
use Rattle.demands.specs.ShorterCases.{ShorterCases}

not_exchanged : ¬ (InOrder (2 ∷ 1 ∷ []) (1 ∷ 2 ∷ []))
not_exchanged (inl (e, _)) = omega (arith, e)
not_exchanged (inr (inl (_, rest))) = rest
not_exchanged (inr (inr rest)) = rest

not_repeated : ¬ (InOrder (1 ∷ 1 ∷ []) (1 ∷ 2 ∷ []))
not_repeated (inl (_, inl (e, _))) = omega (arith, e)
not_repeated (inl (_, inr rest)) = rest
not_repeated (inr (inl (e, _))) = omega (arith, e)
not_repeated (inr (inr rest)) = rest

not_made_up : ¬ (InOrder (3 ∷ []) (1 ∷ 2 ∷ []))
not_made_up (inl (e, _)) = omega (arith, e)
not_made_up (inr (inl (e, _))) = omega (arith, e)
not_made_up (inr (inr rest)) = rest

pub shorter_cases : ShorterCases
unfolding open_shorter shorter_words
shorter_cases = record {
  enough_checks = refl;
  two_checks = refl;
  no_checks = refl;
  one_check = refl;
  six_checks = refl;
  eight_checks = refl;
  past_32_bits = refl;
  most_checks = refl;
  last_goes = refl;
  one_of_two = refl;
  rest_kept = refl;
  all_needed = refl;
  another_order = refl;
  down_to_floor = refl;
  above_floor = refl;
  pulled_down = refl;
  with_and_0 = refl;
  with_and_1 = refl;
  kept_at_0 = refl;
  kept_at_1 = refl;
  walking_at_0 = refl;
  walking_at_1 = refl;
  floor_48_1 = refl;
  floor_48_2 = refl;
  floor_48_3 = refl;
  floor_2_1 = refl;
  floor_2_2 = refl;
  floor_3_1 = refl;
  floor_3_3 = refl;
  floor_4_1 = refl;
  floor_7_1 = refl;
  floor_8_1 = refl;
  nets_1 = refl;
  nets_48 = refl;
  nets_49 = refl;
  class_0 = refl;
  class_above = refl;
  class_4_of_4 = refl;
  class_4_of_5 = refl;
  class_5_of_5 = refl;
  class_4_of_11 = refl;
  class_2_of_2 = refl;
  class_3_of_3 = refl;
  class_3_of_4 = refl;
  level_2 = refl;
  gate_2 = refl;
  no_vectors = refl;
  vectors_64 = refl;
  vectors_65 = refl;
  word_at = refl;
  room_6 = refl;
  room_8 = refl;
  not_passed = refl;
  not_passed_unchecked = refl;
  one_vector = refl;
  only_at_level_0 = refl;
  five_first = refl;
  six_first = refl;
  seventeen_first = refl;
  twenty_first = refl;
  seven_first = refl;
  eight_first = refl;
  twelve_first = refl;
  left_out = inl (refl, inr (inl (refl, tt)));
  not_exchanged = not_exchanged;
  not_repeated = not_repeated;
  not_made_up = not_made_up;
  rest_of_list = refl;
  list_refused = refl;
  words_of_counts = refl;
}
