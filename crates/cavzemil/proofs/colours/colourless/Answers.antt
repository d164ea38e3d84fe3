-- `cavzemil::colours::colourless` meets its contract. Assumes nothing.
use mathlib.Core.Path.{refl}
use lib.Ieee.{of_bits}
use Rattle.cavzemil.proofs.colours.colourless.Goals as goal

pub returns : goal.returns
unfolding of_bits
returns c = refl
