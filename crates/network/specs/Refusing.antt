-- The refusals of the code by the numbers of the table.
use Rattle.std.specs.Prelude.{ℕ, Result, Ok, Err}
use Rattle.words.specs.Answers.{Answer, refused, full}
use Rattle.network.specs.declared.refusal.Refusal.{Refusal}
use Rattle.network.specs.declared.refusal.Refusal.TheVariants.{JobMark, JobLayout, JobBodies, Record, NetCount, Class, VectorCount}
use Rattle.network.specs.declared.refusal.Refusal.TheVariants.{VectorBits, ResponseCount, ResponseBits, State, Room, NotPassed}
use Rattle.network.specs.declared.refusal.Refusal.TheVariants.{NoStateFits, Level, Chain, Tdo, Gate, Receivers}

-- the number of a refusal's row
abbrev pub row_number : Refusal → ℕ
row_number JobMark = 1
row_number JobLayout = 2
row_number JobBodies = 3
row_number Record = 4
row_number NetCount = 5
row_number Class = 6
row_number VectorCount = 7
row_number VectorBits = 8
row_number ResponseCount = 9
row_number ResponseBits = 10
row_number State = 11
row_number Room = 12
row_number NotPassed = 13
row_number NoStateFits = 14
row_number Level = 17
row_number Chain = 18
row_number Tdo = 19
row_number Gate = 20
row_number Receivers = 21

-- what a call that can refuse answers: the number of its refusal, or its result
abbrev pub answer_of : {A : Type 0} → Result A Refusal → Answer A
answer_of (Ok x) = full x
answer_of (Err refusal) = refused (row_number refusal)

-- the same of rows alone, whatever is admitted by them
abbrev pub admission_of : {A : Type 0} → Result A Refusal → Answer (Unit {0})
admission_of (Ok x) = full tt
admission_of (Err refusal) = refused (row_number refusal)
