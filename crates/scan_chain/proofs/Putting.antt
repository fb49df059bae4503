-- Lists filled with bytes, and with scans one after another.
use Rattle.std.proofs.Common.{◌≡◌, refl, sym, ap, ◌∙◌, Bool, List, [], ◌∷◌, ◌++◌, map, append-nil, append_assoc, ℕ}
use Rattle.std.proofs.Common.{◌+◌, ◌-◌, ◌*◌, ◌≤◌, ◌<◌, mul-le-mul_right, add-one, arith, length, take, drop}
use Rattle.std.proofs.Common.{length-take-le, take-suc, take_all}
use lib.ListN.{length-map, get_or-append}
use lib.Seq.{get_or_at, take-length}
use Rattle.std.proofs.lemmas.Slice.{put_mid-paste}
use Rattle.std.proofs.lemmas.List.{ext_get_or, get_or-take}
use Rattle.words.specs.Bits.{at}
use Rattle.words.specs.Writing.{written}
use Rattle.words.specs.Answers.{lent_after, full}
use Rattle.words.proofs.Making.{map_snoc}
use Rattle.words.proofs.Writing.{written_none, written_length, written_next, written_front}
use Rattle.scan_chain.specs.Scans.{scan, scans, contents, clock_count, last_of, scanned, clocks}
use Rattle.scan_chain.specs.Cells.{BeginsWith}
use borrow.Rule.Slice.PartMut.{put_mid}
use Rattle.scan_chain.proofs.CellContents.{scans_size, contents_sized, scanned_size}

-- ---- the first bytes of a list put into another from an index on

pub front_put : (list bytes entries : List ℕ) (start size many : ℕ) → many ≡ size → length entries ≡ size
    → size ≤ length bytes → BeginsWith bytes entries → put_mid start many list (take size bytes) ≡ written list start entries
unfolding written
front_put list bytes entries start size many q e within same =
    let n = length-take-le size bytes within in
    let begins : take size bytes ≡ entries = ext_get_or 0 (take size bytes) entries (n ∙ sym e)
    (λ i l. get_or-take size bytes i 0 (omega (arith, n, l)) ∙ same i (omega (arith, n, e, l))) in
    put_mid-paste start many list (take size bytes) entries (length entries) begins (e ∙ sym q) refl
    ∙ ap (λ (front : List ℕ). take start list ++ front ++ drop (start + length entries) list) (take-length entries)

-- ---- scans put one after another

scans_snoc : (all : List (List Bool)) (cells : List Bool) → scans (all ++ cells ∷ []) ≡ scans all ++ scan cells
unfolding scans
scans_snoc [] cells = append-nil (scan cells)
scans_snoc (c ∷ all) cells = ap (λ (l : List ℕ). scan c ++ l) (scans_snoc all cells) ∙ sym (append_assoc (scan c) (scans all) (scan cells))

-- the scans of the first t vectors
abbrev pub scans_to : ℕ → (drivers held vectors : List ℕ) → ℕ → List ℕ
scans_to L drivers held vectors t = scans (map (contents L drivers held) (take t (scanned vectors)))

module _ (L : ℕ) (drivers held vectors : List ℕ) where
  pub scans_more : (t : ℕ) → t ≤ length vectors → scans_to L drivers held vectors (t + 1) ≡ scans_to L drivers held vectors t ++ scan (contents L drivers held (at (scanned vectors) t))
  scans_more t l =
      let h : t < length (scanned vectors) = omega (arith, scanned_size vectors) in
      let more : take (t + 1) (scanned vectors) ≡ take t (scanned vectors) ++ at (scanned vectors) t ∷ [] = rw add-one (take-suc (scanned vectors) t 0 h) in
      ap (λ (vs : List ℕ). scans (map (contents L drivers held) vs)) more
      ∙ ap scans (map_snoc (contents L drivers held) (take t (scanned vectors)) (at (scanned vectors) t))
      ∙ scans_snoc (map (contents L drivers held) (take t (scanned vectors))) (contents L drivers held (at (scanned vectors) t))

  pub scans_all : (t : ℕ) → length vectors < t → scans_to L drivers held vectors t ≡ clocks L drivers held vectors
  unfolding clocks
  scans_all t l = ap (λ (vs : List ℕ). scans (map (contents L drivers held) vs)) (take_all t (scanned vectors) (omega (arith, scanned_size vectors)))

-- the vector of a scan
pub scanned_at : (vectors : List ℕ) (t : ℕ) → t < length vectors → at vectors t ≡ at (scanned vectors) t
unfolding scanned
scanned_at vectors t l = sym (get_or-append vectors (last_of vectors ∷ []) 0 t l)

pub scanned_last : (vectors : List ℕ) (t : ℕ) → length vectors ≡ t → at vectors (length vectors - 1) ≡ at (scanned vectors) t
unfolding scanned last_of
scanned_last vectors t e = sym (get_or_at vectors (last_of vectors) [] 0 t e)

-- t scans are put from the front on
module _ (L : ℕ) (drivers held vectors before list : List ℕ) (t : ℕ) (room : clock_count (length vectors) L ≤ length before)
    (holds : list ≡ written before 0 (scans_to L drivers held vectors t)) where
  scans_to_size : t ≤ length vectors + 1 → length (scans_to L drivers held vectors t) ≡ t * (L + 5)
  scans_to_size l =
      scans_size L (map (contents L drivers held) (take t (scanned vectors))) (contents_sized L drivers held (take t (scanned vectors)))
      ∙ ap (λ (n : ℕ). n * (L + 5)) (length-map (take t (scanned vectors)) (contents L drivers held)
      ∙ length-take-le t (scanned vectors) (omega (arith, scanned_size vectors)))

  within : (u : ℕ) → u ≤ length vectors + 1 → u * (L + 5) ≤ length before
  within u l = let m = mul-le-mul_right (L + 5) l in omega arith

  pub scans_keep_size : t ≤ length vectors + 1 → length list ≡ length before
  scans_keep_size l =
      ap length holds ∙ written_length before 0 (scans_to L drivers held vectors t) (omega (arith, scans_to_size l, within t l))

  module _ (l : t ≤ length vectors) where
    pub scan_put : (after : List ℕ) → after ≡ written list (t * (L + 5)) (scan (contents L drivers held (at (scanned vectors) t)))
        → after ≡ written before 0 (scans_to L drivers held vectors (t + 1))
    scan_put after e =
        let size : t * (L + 5) ≡ 0 + length (scans_to L drivers held vectors t) = omega (arith, scans_to_size (omega arith)) in
        written_next before list after 0 (t * (L + 5)) (scans_to L drivers held vectors t)
        (scan (contents L drivers held (at (scanned vectors) t))) holds e size (omega arith)
        ∙ ap (written before 0) (sym (scans_more L drivers held vectors t l))

  pub all_put : length vectors < t → list ≡ lent_after (full (clocks L drivers held vectors)) before
  all_put l = holds ∙ ap (written before 0) (scans_all L drivers held vectors t l) ∙ written_front before (clocks L drivers held vectors)

pub no_scan_put : (L : ℕ) (drivers held vectors before : List ℕ) → before ≡ written before 0 (scans_to L drivers held vectors 0)
unfolding scans
no_scan_put L drivers held vectors before = sym (written_none before 0)
