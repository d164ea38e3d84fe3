-- Rules 5.1 to 5.5: running sums and counts.
-- Assumes nothing: these are definitions.
use Rattle.std.specs.Prelude.{ℕ, suc, ◌+◌, ◌-◌, ◌*◌, ◌/◌, List}
use Rattle.arith.specs.Sum.{sum_below}
use Rattle.arith.specs.Run.{upto}
use Rattle.arith.specs.Rounding.{before}
use Rattle.arith.specs.Refusal.{answered}
use Rattle.screen.specs.declared.Screen.{Screen}
use Rattle.screen.specs.Screens.{refusal_of}
use Rattle.separation.specs.declared.Separation.{Separation}
use Rattle.separation.specs.declared.Inks.{Inks}
use Rattle.separation.specs.Weights.{weight, scale_of}

-- rule 5.1: A(j)
unfoldable pub weight_up_to : Separation → Inks → ℕ → ℕ
weight_up_to sep inks j = sum_below (suc j) (weight sep inks)

-- Rule 5.2: C(j). What is divided has a name of its own, since a renderer compares it instead of dividing (Leaves.antt).
unfoldable pub level : ℕ → Separation → Inks → ℕ → ℕ
level n sep inks j = 2 * n * weight_up_to sep inks j + scale_of sep

unfoldable pub running : Screen → Separation → Inks → ℕ → ℕ
running s sep inks j = level s.n sep inks j / (2 * scale_of sep)

-- rule 5.4: what the running sum rises by
unfoldable pub count : Screen → Separation → Inks → ℕ → ℕ
count s sep inks j = running s sep inks j - before (running s sep inks) j

-- what is answered where counts are asked for: 0 where the call is refused
pub record Counts : Type 0 where
  pub refusal : ℕ
  pub of : List ℕ

-- rule 5.5: what `counts` answers
unfoldable pub counts_of : Screen → Separation → Inks → Counts
counts_of s sep inks = record { refusal = refusal_of s; of = upto (λ j. answered (refusal_of s) (count s sep inks j)) 8 }
