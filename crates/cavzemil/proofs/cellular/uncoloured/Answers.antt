-- `cavzemil::cellular::uncoloured` meets its contract. Assumes nothing.
use mathlib.Core.Path.{refl}
use lib.Ieee.{of_bits}
use Rattle.cavzemil.proofs.cellular.uncoloured.Goals as goal

pub returns : goal.returns
unfolding of_bits
returns c = refl
