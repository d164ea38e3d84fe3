-- Rule 14.3: the number of a separation, and the refusal of any other.
-- Assumes nothing: these are definitions.
use Rattle.std.specs.Prelude.{ℕ, zero, suc, Bool, ◌||◌, eqb}
use Rattle.arith.specs.Refusal.{unless}
use Rattle.separation.specs.declared.Separation.{Separation}
use Rattle.separation.specs.declared.Separation.TheVariants.{Demichel, Kueppers}

unfoldable pub known : ℕ → Bool
known separation = eqb separation 0 || eqb separation 1

-- the separation of a known number; a call with another is refused, so that the rest of the second line shows nowhere
unfoldable pub separation_of : ℕ → Separation
separation_of zero = Demichel
separation_of (suc number) = Kueppers

-- the refusal of a call for a separation, given what the library refuses it as
abbrev pub refused_for : ℕ → ℕ → ℕ
refused_for separation refusal = unless (known separation) 100 refusal
