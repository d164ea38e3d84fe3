-- `cavzemil::windows::unrendered` meets its contract. Assumes nothing.
use mathlib.Core.Path.{refl}
use Rattle.arith.specs.Run.{zeros}
use Rattle.cavzemil.proofs.windows.unrendered.Goals as goal

pub returns : goal.returns
unfolding zeros
returns c = refl
