-- `render::refusals::places` meets its contract. Assumes nothing.
use mathlib.Core.Path.{refl}
use Rattle.arith.specs.Run.{zeros}
use Rattle.render.proofs.refusals.places.Goals as goal

pub returns : goal.returns
unfolding zeros
returns c = refl
