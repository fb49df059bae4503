-- What our clocks do, played into a chain, and what is read and diagnosed of a board behind it.
use Rattle.std.proofs.Common.{◌≡◌, refl, sym, subst, ap, ◌∙◌, List, ℕ, ◌≤◌, ◌<◌, ◌^◌, arith, length, take}
use Rattle.words.specs.Answers.{full, ByTable, NoneHolds, lent_after}
use Rattle.words.specs.Bits.{at}
use Rattle.words.proofs.Answers.{table_none_holds}
use Rattle.network.specs.declared.Network.{Network}
use Rattle.network.specs.Reading.{response, Response}
use Rattle.network.specs.States.{State}
use Rattle.network.specs.Rows.{Row21, HighBit}
use Rattle.network.proofs.Reading.{response_is, response_determined}
use Rattle.checker.specs.declared.Verdict.TheVariants.{Pass}
use Rattle.checker.proofs.PassedSets.{check_passed}
use Rattle.scan_chain.specs.BoundaryRegister.{run}
use Rattle.scan_chain.specs.Scans.{all_zero, clocks}
use Rattle.scan_chain.specs.Calls.{WriteRows, write_answer, read_answer}
use Rattle.scan_chain.specs.Playing.{Updates}
use Rattle.scan_chain.proofs.WriteAnswers.{write_by_table}
use Rattle.scan_chain.proofs.Playing.{updates, response_read_back}
use Rattle.demands.specs.Demand2.{EarlierRows}
use Rattle.demands.specs.Played.{PlaysVectors, ReadsBoard, DiagnosesBoard}
use Rattle.demands.specs.Programs.{our_check, our_write_clocks, our_read_clocks, our_diagnosis}
use Rattle.demands.proofs.Fronts.{front, wrote}
use Rattle.demands.proofs.Diagnosing.{diagnoses}

-- (a)
pub plays_vectors : PlaysVectors our_write_clocks
plays_vectors nets owners vectors cells drivers receivers lent count e outside size start chain idle =
    let w = front (write_answer nets owners vectors cells drivers receivers (length lent)) count lent e in
    subst (λ (bytes : List ℕ). Updates cells drivers all_zero vectors (run outside start chain bytes)) (sym w.2)
    (updates nets owners vectors cells drivers receivers (length lent) w.0 w.1 outside size start chain idle)

-- (b)
pub reads_board : ReadsBoard our_write_clocks our_read_clocks
reads_board net owners vectors cells drivers receivers lent count e state outside board start chain idle words_lent room =
    let w = front (write_answer net.nets owners vectors cells drivers receivers (length lent)) count lent e in
    let read = read_answer net.nets owners (length vectors) cells drivers receivers
    (run outside start chain (take count (our_write_clocks net.nets owners vectors cells drivers receivers lent).list)).tdo
    (length words_lent) in
    let back = wrote read (response net state vectors) words_lent
    (ap (λ (bytes : List ℕ). read_answer net.nets owners (length vectors) cells drivers receivers
    (run outside start chain bytes).tdo (length words_lent)) w.2
    ∙ response_read_back net owners vectors cells drivers receivers (length lent) w.0 w.1 state outside board start chain idle
    (length words_lent) room) in
    let is = response_is net state vectors in
    let size = is.one_a_vector in (
      back.0 ∙ ap full size,
      subst (Response net state vectors) (sym (ap (λ (n : ℕ). take n (lent_after read words_lent)) (sym size) ∙ back.1)) is,
    )

-- no row before 14 holds of what is read back
module _ (net : Network) (owners : List ℕ) (k : ℕ) (vectors : List ℕ) (passed : our_check net k vectors ≡ full Pass) (cells : ℕ)
    (drivers receivers bytes : List ℕ) (room : ℕ)
    (wrote_all : write_answer net.nets owners vectors cells drivers receivers room ≡ full bytes)
    (state : List ℕ) (is : State net (length owners) k state) (space : ℕ) (fits : length owners ≤ space) where
  rows : NoneHolds (WriteRows net.nets owners vectors cells drivers receivers room)
  rows = table_none_holds (λ bytes. bytes ≡ clocks cells drivers all_zero vectors)
      (WriteRows net.nets owners vectors cells drivers receivers room) bytes
      (subst (ByTable (WriteRows net.nets owners vectors cells drivers receivers room)
      (λ bytes. bytes ≡ clocks cells drivers all_zero vectors)) wrote_all
      (write_by_table net.nets owners vectors cells drivers receivers room))

  -- row 21 goes by the number of nets alone
  some_receiver : ¬ (Row21 net owners)
  some_receiver = rows.1.0

  earlier : NoneHolds (EarlierRows net owners k vectors (response net state vectors) space)
  earlier =
      let set = check_passed net k vectors passed in
      let answer = response_is net state vectors in
      let size = answer.one_a_vector in
      let many = is.size in (
        set.0.0,
        (
          some_receiver,
          (
            set.0.1.0,
            (
              set.0.1.1.0,
              (
                set.0.1.1.1.0,
                (
                  set.0.1.1.1.1.0,
                  (
                    set.0.1.1.1.1.1.0,
                    (
                      (λ other. other size),
                      (
                        narrow answer.no_high_bit many,
                        ((λ l. omega (arith, l, fits)), ((λ no!. no! set.1), tt)),
                      ),
                    ),
                  ),
                ),
              ),
            ),
          ),
        ),
      )
    where
      narrow : ((t : ℕ) → t < length (response net state vectors) → at (response net state vectors) t < 2 ^ length state)
          → length state ≡ length owners → ¬ (HighBit (length owners) (response net state vectors))
      narrow below e w =
          let small : at (response net state vectors) w.0 < 2 ^ length owners = rw e at (below w.0 w.1) in
          let high = w.2 in
          omega (arith, small, high)

-- (c)
pub diagnoses_board : DiagnosesBoard our_check our_write_clocks our_read_clocks our_diagnosis
diagnoses_board net owners k vectors passed cells drivers receivers lent count e state is outside board start chain idle words_lent
    room state_lent fits =
    let w = front (write_answer net.nets owners vectors cells drivers receivers (length lent)) count lent e in
    let read = reads_board net owners vectors cells drivers receivers lent count e state outside board start chain idle words_lent room in
    let exact = response_determined net state vectors _ (response net state vectors) read.1 (response_is net state vectors) in
    subst (λ (words : List ℕ). ((our_diagnosis net owners k vectors words state_lent).returned ≡ full (length owners))
    × (take (length owners) (our_diagnosis net owners k vectors words state_lent).list ≡ state)) (sym exact)
    ((diagnoses net owners k vectors (response net state vectors) state_lent).found
    (earlier net owners k vectors passed cells drivers receivers w.0 (length lent) w.1 state is (length state_lent) fits) state
    (record { of_class = is; gives = refl }))
