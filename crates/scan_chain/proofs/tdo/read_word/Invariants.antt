use Rattle.std.proofs.Common.{◌≡◌, map, take}
use Rattle.words.specs.Bits.{word}
use Rattle.scan_chain.specs.Responses.{shifted_out}
use Rattle.scan_chain.proofs.tdo.read_word.Given as goal

abbrev pub invariant-loop-r : goal.invariant-loop-r
invariant-loop-r l = l.word ≡ word (map (shifted_out l.cells l.tdo l.scan) (take l.r l.receivers))
