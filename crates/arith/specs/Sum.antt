-- Finite sums, and counting by them.
-- Assumes nothing: these are definitions.
use Rattle.std.specs.Prelude.{ℕ, zero, suc, ◌+◌, Bool, cond}

-- f 0 + f 1 + .. + f (n - 1)
unfoldable pub sum_below : ℕ → (ℕ → ℕ) → ℕ
sum_below zero f = 0
sum_below (suc n) f = sum_below n f + f n

-- 1 where a test holds and 0 where it does not, so that a sum of indicators is a count
abbrev pub indicator : Bool → ℕ
indicator test = cond test 1 0
