-- Rules 6.1 to 6.4: subscreens, and the colorant of a phase.
-- Assumes nothing: these are definitions.
use Rattle.std.specs.Prelude.{ℕ, suc, ◌+◌, ◌-◌, ◌/◌, ◌&&◌, ltb, eqb}
use Rattle.arith.specs.Sum.{sum_below, indicator}
use Rattle.arith.specs.First.{first_below}
use Rattle.screen.specs.declared.Screen.{Screen}
use Rattle.separation.specs.declared.Separation.{Separation}
use Rattle.separation.specs.declared.Inks.{Inks}
use Rattle.quantiser.specs.Running.{running}

-- rule 6.1: the size of subscreen k
unfoldable pub subscreen_size : Screen → ℕ → ℕ
subscreen_size s k = (s.n + k) / s.k

-- rule 6.2: the first phase of subscreen k
unfoldable pub subscreen_start : Screen → ℕ → ℕ
subscreen_start s k = sum_below k (subscreen_size s)

-- the subscreen that a phase falls in, the first that ends after it; and the phase's distance from its start
unfoldable pub subscreen_of : Screen → ℕ → ℕ
subscreen_of s p = first_below s.k (λ k. ltb p (subscreen_start s (suc k)))

unfoldable pub distance_of : Screen → ℕ → ℕ
distance_of s p = p - subscreen_start s (subscreen_of s p)

-- (C(j) + k) / K rounded down
unfoldable pub fill_up_to : Screen → Separation → Inks → ℕ → ℕ → ℕ
fill_up_to s sep inks k j = (running s sep inks j + k) / s.k

-- rule 6.3: the colorant in subscreen k at distance q
unfoldable pub colorant_at : Screen → Separation → Inks → ℕ → ℕ → ℕ
colorant_at s sep inks k q = first_below 8 (λ j. ltb q (fill_up_to s sep inks k j))

unfoldable pub colorant_of : Screen → Separation → Inks → ℕ → ℕ
colorant_of s sep inks p = colorant_at s sep inks (subscreen_of s p) (distance_of s p)

-- how many phases have colorant j, in subscreen k and in all
unfoldable pub phases_in : Screen → Separation → Inks → ℕ → ℕ → ℕ
phases_in s sep inks k j = sum_below s.n (λ p. indicator (eqb (subscreen_of s p) k && eqb (colorant_of s sep inks p) j))

unfoldable pub phases_of : Screen → Separation → Inks → ℕ → ℕ
phases_of s sep inks j = sum_below s.n (λ p. indicator (eqb (colorant_of s sep inks p) j))
