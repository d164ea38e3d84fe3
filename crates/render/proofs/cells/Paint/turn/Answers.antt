-- `render::cells::Paint::turn` meets its contract. Assumes nothing.
use native.Mathlib.Omega.{arith}
use Rattle.render.proofs.RowLoop.{bar_limit}
use Rattle.render.proofs.cells.Paint.turn.Goals as goal

pub overflow_mul-bar : goal.overflow_mul-bar
overflow_mul-bar c =
    omega (arith, bar_limit c.args.sep _ c.from.result c.requires.0 (omega arith))
