-- `screen::bricks::fill_brick` meets its contract. Assumes nothing.
use mathlib.Core.Path.{sym}
use Rattle.screen.proofs.Refusals.{filled_served}
use Rattle.screen.proofs.bricks.fill_brick.Goals as goal

pub returns-clause-buffer : goal.returns-clause-buffer
returns-clause-buffer c = rw c.fill.ensures (filled_served _ _ (sym c.in_ok-check.ensures) c.if-brick-n.false)
