use Rattle.std.proofs.Common.{◌≡◌, ◌*◌, length, take}
use Rattle.words.specs.Answers.{full, lent_after}
use Rattle.jobfile.specs.Bytes.{word_bytes}
use Rattle.writer.proofs.putting.put_words.Given as goal

abbrev pub invariant-loop-word : goal.invariant-loop-word
invariant-loop-word l =
    (l.at ≡ 8 * l.word-index) × (length l.file ≡ length l.initial.file)
    × (l.file ≡ lent_after (full (word_bytes (take l.word-index l.words))) l.initial.file)
