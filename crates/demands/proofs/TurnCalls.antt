-- Our answers to *turn* and *turn back* keep their promises, and no other programs do.
use Rattle.std.proofs.Common.{◌≡◌, refl, ap, ◌∙◌, subst, List, ℕ, ◌≤◌, length}
use Rattle.words.proofs.Answers.{fills_determined}
use Rattle.turning.specs.Turn.{Exchanged, TurnRows, TurnBackRows, turn_answer, turn_back_answer}
use Rattle.turning.proofs.TurnLaws.{turn_by_table, turn_determined, turn_back_by_table, turn_back_determined}
use Rattle.turning.proofs.TurnLaws.{words_number, turned_back, turned_again}
use Rattle.demands.specs.TurnCalls.{TurnProgram, TurnBackProgram, Turns, TurnsBack, ThereAndBack}
use Rattle.demands.specs.Programs.{our_turn, our_turn_back}
use Rattle.demands.proofs.Fronts.{front, wrote}

pub turns : Turns our_turn
turns nets vectors lent = record {
  answer = turn_answer nets vectors (length lent);
  allowed = turn_by_table nets vectors (length lent);
  returned = refl;
  list = refl;
}

pub turns_back : TurnsBack our_turn_back
turns_back nets count words lent = record {
  answer = turn_back_answer nets count words (length lent);
  allowed = turn_back_by_table nets count words (length lent);
  returned = refl;
  list = refl;
}

pub turn_determined_program : (p q : TurnProgram) → Turns p → Turns q → (nets : ℕ) (vectors lent : List ℕ)
    → p nets vectors lent ≡ q nets vectors lent
turn_determined_program p q f g nets vectors lent =
    fills_determined (TurnRows nets vectors (length lent)) (Exchanged nets vectors) lent (p nets vectors lent) (q nets vectors lent)
    (turn_determined nets vectors (length lent)) (f nets vectors lent) (g nets vectors lent)

pub turn_back_determined_program : (p q : TurnBackProgram) → TurnsBack p → TurnsBack q → (nets count : ℕ) (words lent : List ℕ)
    → p nets count words lent ≡ q nets count words lent
turn_back_determined_program p q f g nets count words lent =
    fills_determined (TurnBackRows nets count words (length lent)) (Exchanged count words) lent (p nets count words lent)
    (q nets count words lent)
    (turn_back_determined nets count words (length lent)) (f nets count words lent) (g nets count words lent)

pub there_and_back : ThereAndBack our_turn our_turn_back
there_and_back = record {
  turned_back = λ nets vectors lent vectors_lent count e room.
      let w = front (turn_answer nets vectors (length lent)) count lent e in
      wrote _ vectors vectors_lent
      (ap (λ (words : List ℕ). turn_back_answer nets (length vectors) words (length vectors_lent)) w.2
      ∙ turned_back nets vectors (length vectors_lent) w.0 (length lent) w.1 room);
  turned_again = λ nets v words lent words_lent count e room.
      let w = front (turn_back_answer nets v words (length lent)) count lent e in
      let as_many : length words ≡ nets = words_number nets v words (length lent) w.0 w.1 in
      wrote _ words words_lent
      (ap (λ (vectors : List ℕ). turn_answer nets vectors (length words_lent)) w.2
      ∙ (turned_again nets v words (length words_lent) w.0 (length lent) w.1
      (subst (λ (n : ℕ). n ≤ length words_lent) as_many room)).1);
}
