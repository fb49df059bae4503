-- What is found at one receiver of a wiring state. Nets are numbered i and j, as their drivers are, and receivers r and
-- s; `owners` has the net of each receiver.
use Rattle.std.specs.Prelude.{ℕ, ◌<◌, ◌≡◌, ◌⊎◌, ◌≢◌, Bool, true, false, not, ◌&&◌, ◌||◌, List, map, eqb, length}
use Rattle.words.specs.Bits.{has, word, at}
use Rattle.words.specs.Searching.{any}
use Rattle.words.specs.Turning.{tabulate}
use Rattle.network.specs.declared.Network.{Network}
use Rattle.findings.specs.declared.Finding.{Finding}

-- the net that a receiver is on, its own net
abbrev pub net_of : List ℕ → ℕ → ℕ
net_of owners r = at owners r

-- driver i is in the reach of receiver r
abbrev pub Reaches : List ℕ → (i r : ℕ) → Type 0
Reaches state i r = has (at state r) i ≡ true

-- the driver of its own net does not reach it
unfoldable pub is_open : (owners state : List ℕ) → ℕ → Bool
is_open owners state r = not (has (at state r) (net_of owners r))

-- ---- partners, in document 02's words

-- receiver s has the same non-empty reach as receiver r
abbrev pub SameReach : List ℕ → (r s : ℕ) → Type 0
SameReach state r s = (at state r ≢ 0) × (at state s ≡ at state r)

-- both drivers reach one receiver, whichever
abbrev pub OneReceiver : List ℕ → (i j : ℕ) → Type 0
OneReceiver state i j = (s : ℕ) × (s < length state) × Reaches state i s × Reaches state j s

-- some receiver of net j is so
abbrev pub SomeReceiver : (owners state : List ℕ) → ℕ → (ℕ → Type 0) → Type 0
SomeReceiver owners state j P = (s : ℕ) × (s < length state) × (net_of owners s ≡ j) × P s

-- A receiver of net j has the same non-empty reach as receiver r; or net j's driver and that of r's own net reach one
-- receiver; or net j's driver reaches r; or the driver of r's own net reaches a receiver of net j.
abbrev pub Joined : (owners state : List ℕ) → (r j : ℕ) → Type 0
Joined owners state r j =
    SomeReceiver owners state j (SameReach state r)
    ⊎ (OneReceiver state (net_of owners r) j
    ⊎ (Reaches state j r ⊎ SomeReceiver owners state j (Reaches state (net_of owners r))))

-- net j is a partner of receiver r: another net than its own, joined to it
abbrev pub Partner : (owners state : List ℕ) → (r j : ℕ) → Type 0
Partner owners state r j = (net_of owners r ≢ j) × Joined owners state r j

-- Two nets with a receiver each, i and j, in bits alone, as document 02 says it of one receiver a net: "if one driver
-- reaches both receivers, if one receiver is reached by both drivers, or if either's driver reaches the other's
-- receiver". The driver is x, the receiver s.
abbrev pub Paired : Network → List ℕ → (i j : ℕ) → Type 0
Paired net state i j =
    (i ≢ j)
    × (((x : ℕ) × (x < net.nets) × (has (at state i) x ≡ true) × (has (at state j) x ≡ true))
    ⊎ (((s : ℕ) × (s < length state) × (has (at state s) i ≡ true) × (has (at state s) j ≡ true))
    ⊎ ((has (at state j) i ≡ true) ⊎ (has (at state i) j ≡ true))))

-- ---- the same as tests

-- A receiver on net `owner`, of reach `other`, joins net j to one on net i, of reach `reach`: it is on net j, and the
-- two reaches are equal and not empty; or the drivers of both nets reach it; or it is on net j, and net i's driver
-- reaches it.
unfoldable pub joins : (i reach j owner other : ℕ) → Bool
joins i reach j owner other =
    (eqb owner j && (not (eqb reach 0) && eqb other reach))
    || ((has other i && has other j) || (eqb owner j && has other i))

-- receiver s joins net j to receiver r
abbrev pub joins_at : (owners state : List ℕ) → (r j s : ℕ) → Bool
joins_at owners state r j s = joins (net_of owners r) (at state r) j (net_of owners s) (at state s)

-- j is another net than receiver r's own, and some receiver joins the two, or net j's driver reaches r
unfoldable pub is_partner : (owners state : List ℕ) → (r j : ℕ) → Bool
is_partner owners state r j =
    let joined = any (length state) (joins_at owners state r j) in
    not (eqb (net_of owners r) j) && (joined || has (at state r) j)

-- the partners of receiver r as a parallel word: bit j for net j
unfoldable pub partners : Network → (owners state : List ℕ) → ℕ → ℕ
partners net owners state r = word (map (is_partner owners state r) (tabulate net.nets (λ j. j)))

-- ---- the record

-- 0 sound, 1 open, 2 short, 3 both: whether it is open, and whether it has partners
unfoldable pub kind : Bool → Bool → ℕ
kind false false = 0
kind true false = 1
kind false true = 2
kind true true = 3

-- document 01's record, of receiver r
unfoldable pub finding : Network → (owners state : List ℕ) → ℕ → Finding
finding net owners state r =
    let joined = partners net owners state r in
    record { kind = kind (is_open owners state r) (not (eqb joined 0)); reach = at state r; partners = joined }
