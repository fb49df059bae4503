-- The board in the loop: the vectors reach it, and its responses come back.
use Rattle.std.proofs.Common.{◌≡◌, sym, ap, ◌∙◌, Bool, List, [], ◌∷◌, map, ℕ, suc, ◌^◌, ◌<◌, arith, length, get_or}
use Rattle.std.proofs.Common.{ext_get_or}
use lib.ListN.{length-map, get_or-append}
use Rattle.words.specs.Bits.{word, at}
use Rattle.words.proofs.Bits.{words_equal}
use Rattle.words.proofs.Making.{map_at, has_made, made_below}
use Rattle.words.proofs.Columns.{length_tabulate, tabulate_at}
use Rattle.network.specs.declared.Network.{Network}
use Rattle.network.specs.Reading.{reads, response_word, response}
use Rattle.scan_chain.specs.BoundaryRegister.{Outside, Run}
use Rattle.scan_chain.specs.Scans.{contents, last_of, scanned}
use Rattle.scan_chain.specs.Responses.{shifted_out, responses}
use Rattle.scan_chain.specs.Board.{word_of, Wired}
use Rattle.scan_chain.proofs.Scanning.{Scanned}
use Rattle.scan_chain.specs.Cells.{Distinct, Inside}
use Rattle.scan_chain.proofs.CellContents.{scanned_size, driven_back}

-- the outputs before the scan after vector t's
before_scan : (L : ℕ) (drivers held vectors : List ℕ) (outputs : List Bool) (t : ℕ) → t < length vectors
    → get_or (outputs ∷ map (contents L drivers held) (scanned vectors)) (suc t) [] ≡ contents L drivers held (at vectors t)
unfolding scanned
before_scan L drivers held vectors outputs t l =
    map_at (contents L drivers held) [] (scanned vectors) t (omega (arith, scanned_size vectors))
    ∙ ap (contents L drivers held) (get_or-append vectors (last_of vectors ∷ []) 0 t l)

module _ (net : Network) (state : List ℕ) (L : ℕ) (drivers receivers held : List ℕ) (outside : Outside)
    (board : Wired net state L drivers receivers outside) (far : Distinct L drivers) (inside : Inside L receivers) (vectors : List ℕ)
    (narrow : (t : ℕ) → t < length vectors → at vectors t < 2 ^ length drivers) (outputs : List Bool) (run : Run)
    (done : Scanned L outside outputs (map (contents L drivers held) (scanned vectors)) run) where
  -- the word that the scan after vector t's shifts out
  word_back : (t : ℕ) → t < length vectors
      → word (map (shifted_out L run.tdo (suc t)) receivers) ≡ response_word net state (at vectors t)
  unfolding response_word
  word_back t l =
      let size : length (map (contents L drivers held) (scanned vectors)) ≡ suc (length vectors) =
      length-map (scanned vectors) (contents L drivers held) ∙ scanned_size vectors in
      let shown = done.captured (suc t) (omega arith) in
      let driving = get_or (outputs ∷ map (contents L drivers held) (scanned vectors)) (suc t) [] in
      let same = before_scan L drivers held vectors outputs t l in
      let vector : word_of drivers driving ≡ at vectors t =
      ap (word_of drivers) same
      ∙ driven_back L drivers held far (at vectors t) (narrow t l) in
      let many = board.reach_per_receiver in
      words_equal (length receivers) (word (map (shifted_out L run.tdo (suc t)) receivers))
      (word (map (λ reach. reads net reach (at vectors t)) state))
      (made_below (shifted_out L run.tdo (suc t)) receivers)
      (rw many at (made_below (λ reach. reads net reach (at vectors t)) state))
      (λ r m. has_made (shifted_out L run.tdo (suc t)) receivers r m ∙ shown.1 (at receivers r) (inside r m)
      ∙ board.read shown.0 driving r m ∙ ap (reads net (at state r)) vector
      ∙ sym (has_made (λ reach. reads net reach (at vectors t)) state r (omega arith)))

  pub response_back : responses L receivers (length vectors) run.tdo ≡ response net state vectors
  unfolding responses response
  response_back =
      ext_get_or 0 _ (map (response_word net state) vectors)
      (length_tabulate (length vectors) _ ∙ sym (length-map vectors (response_word net state)))
      (λ t l. let m : t < length vectors = rw (length_tabulate (length vectors)) at l in
      tabulate_at (length vectors) _ t m ∙ word_back t m ∙ sym (map_at (response_word net state) 0 vectors t m))
