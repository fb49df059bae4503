-- Names every definition here that computes, so that a computed fact says `unfolding open_words`.
use Rattle.std.specs.Prelude.{ℕ}
use Rattle.std.specs.Int.Count.{ones_in}
use Rattle.words.specs.Bits.{has, bit_value, word}
use Rattle.words.specs.Searching.{least, is_found, passing, sets_of_class, any, position, among}
use Rattle.words.specs.Counting.{class_size}
use Rattle.words.specs.Turning.{tabulate, column, transpose}
use Rattle.words.specs.Answers.{by_tests, lent_after, count_of}
use Rattle.words.specs.Writing.{written}

unfoldable pub open_words : ℕ
unfolding ones_in has bit_value word least is_found passing sets_of_class any position among class_size tabulate column
    transpose by_tests lent_after count_of written
open_words = 0
