-- What the loop of `quantiser::cells::threshold_of` keeps.
use Rattle.quantiser.proofs.ThresholdLoop.{PassedAt}
use Rattle.quantiser.proofs.cells.threshold_of.Given as goal

abbrev pub invariant-loop-subscreen : goal.invariant-loop-subscreen
invariant-loop-subscreen l = PassedAt l.s l.phase l.subscreen l.passed
