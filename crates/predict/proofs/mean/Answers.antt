-- `predict::mean` meets its contract. Assumes nothing.
use Rattle.predict.specs.Predicted.{channel}
use Rattle.predict.proofs.mean.Goals as goal

pub returns : goal.returns
unfolding channel
returns c = rw (c.total-sum.ensures, c.from-cells.ensures)
