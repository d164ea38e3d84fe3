-- `render::cells::unpainted` meets its contract. Assumes nothing.
use native.Mathlib.Nat.{mul-zero}
use Rattle.quantiser.proofs.Published.{rank_none}
use Rattle.render.specs.Rows.{paint_of}
use Rattle.render.proofs.cells.unpainted.Goals as goal

pub returns : goal.returns
unfolding paint_of
returns c = rw (c.scale.ensures, c.levels.ensures, mul-zero, rank_none)
