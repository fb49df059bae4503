-- Each wrong program fails its demand at one small input.
use Rattle.std.proofs.Common.{◌≡◌, refl, sym, ap, ◌≢◌, List, [], ◌∷◌, ℕ, arith, length}
use Rattle.words.specs.Answers.{refused, full, Filled, NoneHolds}
use Rattle.words.specs.Bits.{at}
use Rattle.words.proofs.Answers.{let_through, table_full, table_not_refused}
use Rattle.network.specs.Rows.{SetRows, set_tests, set_admission}
use Rattle.network.proofs.Rows.{decides_set}
use Rattle.checker.specs.declared.Verdict.{Verdict}
use Rattle.checker.specs.declared.Verdict.TheVariants.{Pass, Pair}
use Rattle.checker.specs.Check.{check_answer}
use Rattle.checker.proofs.Verdicts.{pair_not_pass}
use Rattle.diagnosis.specs.Open.{open_diagnosis}
use Rattle.demands.specs.Demand2.{ResponseProgram, Responds, DiagnosisProgram, Diagnoses}
use Rattle.demands.specs.Demand3.{CheckProgram, Judged, Checks}
use Rattle.demands.specs.Refuted.{passes_all_sets, shows_one_pair, refuses_every_set, writes_nothing, drops_tail}
use Rattle.demands.specs.Refuted.{writes_when_refused, refuses_every_state, says_14, reads_nothing_back}
use Rattle.demands.specs.Refuted.{accepts_conflicts, refuses_every_response, Refuted}
use Rattle.demands.specs.Starred.{own, two}
use Rattle.demands.specs.Programs.{our_response, our_diagnosis}
use Rattle.demands.proofs.Responding.{responds, response_determined}
use Rattle.demands.proofs.Diagnosing.{diagnoses, diagnosis_determined_program}
use Rattle.demands.proofs.Checking.{checks, pair_not_one}
use Rattle.demands.proofs.RefutingFindings.{table_as_lent, record_not_written, table_cleared}
use Rattle.demands.proofs.RefutingSessions.{own_two, guessed, second_ignored, counted_itself}
use Rattle.demands.proofs.RefutingSessions.{refuses_begins, uncounted, no_vectors}
use Rattle.demands.proofs.RefutingCalls.{vectors_cleared, started_again}
use Rattle.demands.proofs.RefutingShorter as Shorter
use Rattle.demands.proofs.RefutingKinds as Kinds

-- walking ones with vector 0, and a set without it
abbrev enough : List ℕ
enough = 0 ∷ 1 ∷ 2 ∷ []

abbrev too_few : List ℕ
too_few = 1 ∷ []

through : set_admission two 2 enough ≡ full tt
unfolding open_diagnosis
through = refl

admitted : NoneHolds (SetRows two 2 enough)
admitted = let_through (SetRows two 2 enough) (set_tests two 2 enough) tt tt (decides_set two 2 enough) through

-- ---- checkers

-- what a checker's full answer says
says : (program : CheckProgram) → Checks program → (vectors : List ℕ) (v : Verdict) → program two 2 vectors ≡ full v
    → Judged two 2 vectors v
says program h vectors v e = table_full (Judged two 2 vectors) (SetRows two 2 vectors) v (rw e at (h two 2 vectors))

ours_passes : check_answer two 2 enough ≡ full Pass
unfolding open_diagnosis
ours_passes = refl

ours_shows : check_answer two 2 too_few ≡ full (Pair 0 3)
unfolding open_diagnosis
ours_shows = refl

passes_all : ¬ (Checks passes_all_sets)
passes_all h =
    pair_not_pass (((says check_answer checks too_few (Pair 0 3) ours_shows).passes (own two) own_two).1
    (((says passes_all_sets h too_few Pass refl).passes (own two) own_two).0 refl))

one_pair : (a b : ℕ) → ¬ (Checks (shows_one_pair a b))
one_pair a b h =
    pair_not_one two (length (own two)) 2 enough a b
    ((says (shows_one_pair a b) h enough (Pair a b) refl).shows (own two) own_two a b refl)
    (((says check_answer checks enough Pass ours_passes).passes (own two) own_two).0 refl)

refuses_sets : (number : ℕ) → ¬ (Checks (refuses_every_set number))
refuses_sets number h = table_not_refused (Judged two 2 enough) (SetRows two 2 enough) number admitted (h two 2 enough)

-- ---- responses: the list after the call is not ours

differs : (program : ResponseProgram) (state lent : List ℕ) (i : ℕ)
    → at (program two (own two) 2 enough state lent).list i
    ≢ at (our_response two (own two) 2 enough state lent).list i → ¬ (Responds program)
differs program state lent i d h =
    d (ap (λ (f : Filled ℕ). at f.list i)
    (response_determined program our_response h responds two (own two) 2 enough state lent))

unequal : ◌≢◌ {A = ℕ} 9 0
unequal e = omega arith

list_as_lent : ¬ (Responds writes_nothing)
unfolding open_diagnosis
list_as_lent = differs writes_nothing (2 ∷ 2 ∷ []) (9 ∷ 9 ∷ 9 ∷ []) 0 unequal

tail_dropped : ¬ (Responds drops_tail)
unfolding open_diagnosis
tail_dropped = differs drops_tail (2 ∷ 2 ∷ []) (9 ∷ 9 ∷ 9 ∷ 9 ∷ []) 3 (λ e. unequal (sym e))

written_when_refused : ¬ (Responds writes_when_refused)
unfolding open_diagnosis
written_when_refused = differs writes_when_refused (3 ∷ 1 ∷ []) (9 ∷ 9 ∷ 9 ∷ []) 0 (λ e. unequal (sym e))

refuses_states : (number : ℕ) → ¬ (Responds (refuses_every_state number))
unfolding open_diagnosis
refuses_states number = differs (refuses_every_state number) (2 ∷ 2 ∷ []) (9 ∷ 9 ∷ 9 ∷ []) 0 unequal

-- ---- diagnoses

unlike : (program : DiagnosisProgram) (responses lent : List ℕ)
    → program two (own two) 2 enough responses lent ≢ our_diagnosis two (own two) 2 enough responses lent
    → ¬ (Diagnoses program)
unlike program responses lent d h =
    d (diagnosis_determined_program program our_diagnosis h diagnoses two (own two) 2 enough responses lent)

-- what a call returned, as a number: a refusal, or 99 for a result
as_number : Filled ℕ → ℕ
as_number did = elim did.returned [ refused number ↦ number | full count ↦ 99 ]

said_before_looking : ¬ (Diagnoses says_14)
unfolding open_diagnosis as_number
said_before_looking = unlike says_14 (0 ∷ 0 ∷ 3 ∷ []) (9 ∷ 9 ∷ []) (λ e. let z : ◌≡◌ {A = ℕ} 14 99 = ap as_number e in omega arith)

state_not_written : ¬ (Diagnoses reads_nothing_back)
unfolding open_diagnosis
state_not_written =
    unlike reads_nothing_back (0 ∷ 0 ∷ 3 ∷ []) (9 ∷ 9 ∷ [])
    (λ e. let z : ◌≡◌ {A = ℕ} 9 2 = ap (λ (f : Filled ℕ). at f.list 0) e in omega arith)

-- reaches 3 and 1 answer so
conflicts_accepted : ¬ (Diagnoses accepts_conflicts)
unfolding open_diagnosis as_number
conflicts_accepted = unlike accepts_conflicts (0 ∷ 3 ∷ 1 ∷ []) (9 ∷ 9 ∷ []) (λ e. let z : ◌≡◌ {A = ℕ} 99 14 = ap as_number e in omega arith)

refuses_responses : (number : ℕ) → ¬ (Diagnoses (refuses_every_response number))
unfolding open_diagnosis
refuses_responses number =
    unlike (refuses_every_response number) (0 ∷ 0 ∷ 3 ∷ []) (9 ∷ 9 ∷ [])
    (λ e. let z : ◌≡◌ {A = ℕ} 9 2 = ap (λ (f : Filled ℕ). at f.list 0) e in omega arith)

pub refuted : Refuted
refuted = record {
  passes_all = passes_all;
  one_pair = one_pair;
  refuses_sets = refuses_sets;
  from_the_first = Shorter.from_the_first;
  first_check_counted = Shorter.first_check_counted;
  whole_set_tried = Shorter.whole_set_tried;
  nothing_tried = Shorter.nothing_tried;
  not_passed = Shorter.not_passed;
  floor_too_high = Shorter.floor_too_high;
  floor_too_low = Shorter.floor_too_low;
  rest_cleared = Shorter.rest_cleared;
  given_left = Shorter.given_left;
  list_as_lent = list_as_lent;
  tail_dropped = tail_dropped;
  written_when_refused = written_when_refused;
  refuses_states = refuses_states;
  said_before_looking = said_before_looking;
  state_not_written = state_not_written;
  conflicts_accepted = conflicts_accepted;
  refuses_responses = refuses_responses;
  table_as_lent = table_as_lent;
  record_not_written = record_not_written;
  table_cleared = table_cleared;
  guessed = guessed;
  second_ignored = second_ignored;
  counted_itself = counted_itself;
  refuses_begins = refuses_begins;
  uncounted = uncounted;
  no_vectors = no_vectors;
  vectors_copied = Kinds.vectors_copied;
  words_copied = Kinds.words_copied;
  kind_ignored = Kinds.kind_ignored;
  written_parallel = Kinds.written_parallel;
  kind_not_named = Kinds.kind_not_named;
  most_not_turned = Kinds.most_not_turned;
  most_not_turned_back = Kinds.most_not_turned_back;
  there_not_back = Kinds.there_not_back;
  back_not_there = Kinds.back_not_there;
  longest_not_read = Kinds.longest_not_read;
  longest_not_read_4 = Kinds.longest_not_read_4;
  longest_not_written = Kinds.longest_not_written;
  longest_not_written_4 = Kinds.longest_not_written_4;
  longest_not_read_as_before = Kinds.longest_not_read_as_before;
  longest_not_written_as_before = Kinds.longest_not_written_as_before;
  longest_not_exchanged = Kinds.longest_not_exchanged;
  longest_read_otherwise = Kinds.longest_read_otherwise;
  longest_reported_otherwise = Kinds.longest_reported_otherwise;
  longer_accepted = Kinds.longer_accepted;
  longer_of_kind_4 = Kinds.longer_of_kind_4;
  vectors_cleared = vectors_cleared;
  started_again = started_again;
}
