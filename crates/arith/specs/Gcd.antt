-- The greatest common divisor by Euclid's rule, as rules 1.2 and 3.1 use it.
-- Assumes nothing: these are definitions.
use Rattle.std.specs.Prelude.{ℕ, zero, suc, ◌%◌}

-- At most k steps of the rule. The first argument only bounds the steps, so that the definition computes.
unfoldable pub gcd_fuel : ℕ → ℕ → ℕ → ℕ
gcd_fuel zero a b = a
gcd_fuel (suc k) a zero = a
gcd_fuel (suc k) a (suc b) = gcd_fuel k (suc b) (a % suc b)

-- The second number falls at each step, so that as many steps as it says are enough.
-- That this is the greatest common divisor is said by `GcdCommon` and `GcdGreatest` (Laws.antt).
unfoldable pub gcd_of : ℕ → ℕ → ℕ
unfolding gcd_fuel
gcd_of a b = gcd_fuel b a b
