-- Rule 6.5, what a cell's colorant needs: the threshold of its phase, which a renderer has for all phases once a call, and levels of
-- running sums, once a colour. That the two give the colorant of a phase, without a division, is `ColorantRank` (Laws.antt).
-- Assumes nothing: these are definitions.
use Rattle.std.specs.Prelude.{ℕ, ◌+◌, ◌-◌, ◌*◌, cond, List, length, get_or, ltb}
use Rattle.arith.specs.Sum.{sum_below, indicator}
use Rattle.arith.specs.Run.{upto}
use Rattle.arith.specs.Refusal.{answered, written}
use Rattle.screen.specs.declared.Screen.{Screen}
use Rattle.screen.specs.Screens.{refusal_of}
use Rattle.screen.specs.Brick.{buffer_refusal}
use Rattle.separation.specs.declared.Separation.{Separation}
use Rattle.separation.specs.declared.Inks.{Inks}
use Rattle.quantiser.specs.Running.{level}
use Rattle.quantiser.specs.Subscreens.{subscreen_of, distance_of}

-- The threshold of a cell in subscreen k at distance q: the least running sum C that fills it. q is below (C + k) / K rounded
-- down exactly where (q + 1) × K is at most C + k, so where C is at least (q + 1) × K − k (`ThresholdLaw`, Laws.antt).
unfoldable pub threshold_at : Screen → ℕ → ℕ → ℕ
threshold_at s k q = (q + 1) * s.k - k

unfoldable pub threshold_of : Screen → ℕ → ℕ
threshold_of s p = threshold_at s (subscreen_of s p) (distance_of s p)

-- what `thresholds` leaves in a table: those of the phases 0 to N − 1 in the order of their numbers, and what stood after them
unfoldable pub thresholds_in : Screen → List ℕ → List ℕ
thresholds_in s table = written (buffer_refusal s (length table)) (upto (threshold_of s) s.n) table

-- what `threshold` answers for a lone phase: 0 where the screen is not admitted or the phase not below N
unfoldable pub lone_threshold : Screen → ℕ → ℕ
lone_threshold s p = answered (refusal_of s) (cond (ltb p s.n) (threshold_of s p) 0)

-- what `levels` answers for n cells
unfoldable pub levels_of : ℕ → Separation → Inks → List ℕ
levels_of n sep inks = upto (level n sep inks) 8

-- what `colorant_of` answers: how many of the first seven levels a number is above
unfoldable pub rank : List ℕ → ℕ → ℕ
rank levels bar = sum_below 7 (λ j. indicator (ltb (get_or levels j 0) bar))
