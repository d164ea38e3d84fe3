-- The remainder of a difference, as rules 2.2, 3.9 and 19.1 use it.
-- Assumes nothing: these are definitions.
use Rattle.std.specs.Prelude.{ℕ, ◌+◌, ◌-◌, ◌*◌, ◌%◌}

-- The remainder, 0 to n - 1, of u - v by n, also where u - v is below 0: n * v is a multiple of n that is
-- at least v, and adding it first keeps the difference of natural numbers exact.
-- `RemainderWords` and `RemainderOnly` (Laws.antt) say so without the subtraction.
unfoldable pub remainder_of : ℕ → ℕ → ℕ → ℕ
remainder_of u v n = (u + n * v - v) % n
