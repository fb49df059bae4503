-- Our answers to *write clocks* and *read clocks* keep their promises, and no other programs do.
use Rattle.std.proofs.Common.{◌≡◌, refl, sym, ◌∙◌, List, ℕ, length}
use Rattle.words.specs.Answers.{Answer, ByTable}
use Rattle.words.proofs.Answers.{fills_determined, table_determined}
use Rattle.scan_chain.specs.Scans.{all_zero, clocks}
use Rattle.scan_chain.specs.Responses.{responses}
use Rattle.scan_chain.specs.Calls.{WriteRows, ReadRows, write_answer, read_answer}
use Rattle.scan_chain.proofs.WriteAnswers.{write_by_table}
use Rattle.scan_chain.proofs.ReadAnswers.{read_by_table}
use Rattle.demands.specs.ClockCalls.{WriteClocksProgram, ReadClocksProgram, WritesClocks, ReadsClocks}
use Rattle.demands.specs.Programs.{our_write_clocks, our_read_clocks}

pub writes_clocks : WritesClocks our_write_clocks
writes_clocks nets owners vectors cells drivers receivers lent = record {
  answer = write_answer nets owners vectors cells drivers receivers (length lent);
  allowed = write_by_table nets owners vectors cells drivers receivers (length lent);
  returned = refl;
  list = refl;
}

pub reads_clocks : ReadsClocks our_read_clocks
reads_clocks nets owners count cells drivers receivers tdo lent = record {
  answer = read_answer nets owners count cells drivers receivers tdo (length lent);
  allowed = read_by_table nets owners count cells drivers receivers tdo (length lent);
  returned = refl;
  list = refl;
}

-- a result that an equation fixes is one result
fixed : (rows : List (ℕ × Type 0)) (words : List ℕ) (a b : Answer (List ℕ)) → ByTable rows (λ (x : List ℕ). x ≡ words) a
    → ByTable rows (λ (x : List ℕ). x ≡ words) b → a ≡ b
fixed rows words a b = table_determined (λ (x : List ℕ). x ≡ words) rows a b (λ _ x y p q. p ∙ sym q)

pub write_clocks_determined : (p q : WriteClocksProgram) → WritesClocks p → WritesClocks q → (nets : ℕ) (owners vectors : List ℕ)
    (cells : ℕ) (drivers receivers lent : List ℕ) → p nets owners vectors cells drivers receivers lent ≡ q nets owners vectors cells drivers receivers lent
write_clocks_determined p q f g nets owners vectors cells drivers receivers lent =
    fills_determined (WriteRows nets owners vectors cells drivers receivers (length lent))
    (λ bytes. bytes ≡ clocks cells drivers all_zero vectors) lent (p nets owners vectors cells drivers receivers lent) (q nets owners vectors cells drivers receivers lent)
    (fixed (WriteRows nets owners vectors cells drivers receivers (length lent)) (clocks cells drivers all_zero vectors)) (f nets owners vectors cells drivers receivers lent) (g nets owners vectors cells drivers receivers lent)

pub read_clocks_determined : (p q : ReadClocksProgram) → ReadsClocks p → ReadsClocks q → (nets : ℕ) (owners : List ℕ)
    (count cells : ℕ) (drivers receivers tdo lent : List ℕ)
    → p nets owners count cells drivers receivers tdo lent ≡ q nets owners count cells drivers receivers tdo lent
read_clocks_determined p q f g nets owners count cells drivers receivers tdo lent =
    fills_determined (ReadRows nets owners count cells drivers receivers tdo (length lent))
    (λ words. words ≡ responses cells receivers count tdo) lent (p nets owners count cells drivers receivers tdo lent)
    (q nets owners count cells drivers receivers tdo lent)
    (fixed (ReadRows nets owners count cells drivers receivers tdo (length lent)) (responses cells receivers count tdo))
    (f nets owners count cells drivers receivers tdo lent) (g nets owners count cells drivers receivers tdo lent)
