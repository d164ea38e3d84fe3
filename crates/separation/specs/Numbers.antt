-- Rule 14.3: the number of a separation.
-- Assumes nothing: these are definitions.
use Rattle.std.specs.Prelude.{ℕ, ◌<◌, ◌≡◌, Result, MatchResult}
use Rattle.separation.specs.declared.Separation.{Separation}
use Rattle.separation.specs.declared.Separation.TheVariants.{Demichel, Kueppers}
use Rattle.separation.specs.declared.UnknownSeparation.{UnknownSeparation}

abbrev pub number_of : Separation → ℕ
number_of Demichel = 0
number_of Kueppers = 1

-- what a number gives: the separation that has it, or an error with it where it is above those of all separations
abbrev pub Numbers : ℕ → Result Separation UnknownSeparation → Type 0
Numbers number r = MatchResult r (λ sep. number_of sep ≡ number) (λ unknown. (unknown.0 ≡ number) × (1 < number))
