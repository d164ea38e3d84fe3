-- `predict::in_range` meets its contract: its bounds are 0 and 200, once their bits are read. Assumes nothing.
use Rattle.predict.proofs.Steps.{in_limits}
use Rattle.predict.proofs.in_range.Goals as goal

pub returns : goal.returns
returns c = in_limits _ _ _ c.contains.ensures.value c.new.ensures.start c.new.ensures.end c.new.ensures.exhausted
