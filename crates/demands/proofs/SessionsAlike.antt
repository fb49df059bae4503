-- Two programs that keep demand 3's second half answer, write and report the same.
use Rattle.std.proofs.Common.{ℕ, ◌≡◌, refl, sym, ap, ap₂, ◌∙◌, subst₂, List, [], ◌∷◌, ◌++◌, length, take}
use Rattle.std.proofs.Common.{take-append-drop}
use Rattle.words.specs.Answers.{Answer, lent_after}
use Rattle.words.proofs.Answers.{table_determined}
use Rattle.network.specs.declared.Network.{Network}
use Rattle.steps.specs.FirstStep.{first_vectors}
use Rattle.session.specs.declared.Session.{Session}
use Rattle.demands.specs.SessionCalls.{Call, begin, first, second, lent, SessionProgram, History, none}
use Rattle.demands.specs.SessionCalls.{waits_first, waits_second, finished_first, finished_second, LeftBy}
use Rattle.demands.specs.Demand3.{BeginRows, CallRows, Written, CallByTable, Reported, Ended, Sessions}
use Rattle.demands.specs.Determined.{DidAlike, IsFinished, SessionsDetermined}

module _ (p q : SessionProgram) (f : Sessions p) (g : Sessions q) where
  -- what the claim says of one call, on any record
  one_call : (program : SessionProgram) → Sessions program → (s : Session) (call : Call) → CallByTable program s call
  one_call program h s call = (h s (call ∷ [])).each [] [] call refl

  -- equal answers leave equal lists
  alike : (s u : Session) (call : Call) → (p s call).answer ≡ (q u call).answer → DidAlike p q s u call
  alike s u call e = (
    e,
    (one_call p f s call).list_after ∙ ap (λ (a : Answer (List ℕ)). lent_after a (lent call)) e
        ∙ sym (one_call q g u call).list_after,
  )

  begins : (s u : Session) (net : Network) (owners list : List ℕ) → DidAlike p q s u (begin net owners list)
  begins s u net owners list =
      alike s u (begin net owners list)
      (table_determined (λ (words : List ℕ). words ≡ first_vectors net) (BeginRows net owners list)
      (p s (begin net owners list)).answer (q u (begin net owners list)).answer
      (λ _ x y a b. a ∙ sym b) ((one_call p f s (begin net owners list)).begins net owners list refl)
      ((one_call q g u (begin net owners list)).begins net owners list refl))

  -- one list of words is written
  one_written : (h : History) (call : Call) (x y : List ℕ) → Written h call x → Written h call y → x ≡ y
  one_written h (begin net owners list) x y a b = a ∙ sym b
  one_written h (first answers list) x y a b = a ∙ sym b
  one_written h (second answers) x y a b = a ∙ sym b

  in_session : (h : History) (s u : Session) (call : Call) → LeftBy p h s → LeftBy q h u → DidAlike p q s u call
  in_session h s u call l m =
      alike s u call
      (table_determined (Written h call) (CallRows h call) (p s call).answer (q u call).answer (λ _ x y. one_written h call x y)
      ((one_call p f s call).in_session h l) ((one_call q g u call).in_session h m))

  ended : (program : SessionProgram) → Sessions program → (h : History) (s : Session) → LeftBy program h s → Ended h s
  ended program claim h s l =
      subst₂ (λ (x : History) (y : Session). Ended x y) l.in_session l.leaves
      (claim l.start l.calls).ended

  same_report : (h : History) (net : Network) (owners r1 : List ℕ) (s u : Session) → Reported h net owners r1 s → Reported h net owners r1 u
      → (s.network ≡ u.network) × (s.receivers ≡ u.receivers) × (s.owners ≡ u.owners) × (s.reaches ≡ u.reaches)
      × (s.spent ≡ u.spent)
  same_report h net owners r1 s u a b = (
    a.network_held ∙ sym b.network_held,
    a.receivers_held ∙ sym b.receivers_held,
    a.owners_held ∙ sym b.owners_held,
    sym (take-append-drop (length owners) s.reaches)
        ∙ ap₂ (λ (x y : List ℕ). x ++ y) (b.state.only (take (length owners) s.reaches) a.state.fits)
        (a.nothing_more ∙ sym b.nothing_more)
        ∙ take-append-drop (length owners) u.reaches,
    a.count ∙ sym b.count,
  )

  reported : (h : History) (s u : Session) → LeftBy p h s → LeftBy q h u → IsFinished h
      → (s.network ≡ u.network) × (s.receivers ≡ u.receivers) × (s.owners ≡ u.owners) × (s.reaches ≡ u.reaches)
      × (s.spent ≡ u.spent)
  reported none s u l m k = absurd k
  reported (waits_first net owners v1) s u l m k = absurd k
  reported (waits_second net owners v1 r1 v2) s u l m k = absurd k
  reported (finished_first net owners v1 r1 v2) s u l m k =
      same_report (finished_first net owners v1 r1 v2) net owners r1 s u (ended p f (finished_first net owners v1 r1 v2) s l)
      (ended q g (finished_first net owners v1 r1 v2) u m)
  reported (finished_second net owners v1 r1 v2 r2) s u l m k =
      same_report (finished_second net owners v1 r1 v2 r2) net owners r1 s u (ended p f (finished_second net owners v1 r1 v2 r2) s l)
      (ended q g (finished_second net owners v1 r1 v2 r2) u m)

  pub sessions_determined : SessionsDetermined p q
  sessions_determined = record { begins = begins; in_session = in_session; reported = reported }
