-- How many words a class has.
use Rattle.std.specs.Prelude.{ℕ, zero, suc, ◌+◌}

-- how many words of n bits have at most k ones: those whose top bit is 0, and those whose top bit is one of the ones
unfoldable pub class_size : ℕ → ℕ → ℕ
class_size n zero = 1
class_size zero (suc k) = 1
class_size (suc n) (suc k) = class_size n (suc k) + class_size n k
