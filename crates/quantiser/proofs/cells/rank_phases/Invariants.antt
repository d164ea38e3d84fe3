-- What the loop of `quantiser::cells::rank_phases` keeps, and its measure.
use Prim.Native.Nat.{◌-◌}
use Rattle.quantiser.proofs.ThresholdLoop.{RankAt}
use Rattle.quantiser.proofs.cells.rank_phases.Given as goal

abbrev pub invariant-loop-subscreen : goal.invariant-loop-subscreen
invariant-loop-subscreen l = RankAt l.s l.initial.table l.table l.subscreen l.start

abbrev pub decreases-loop-subscreen : goal.decreases-loop-subscreen
decreases-loop-subscreen l = l.s.k - l.subscreen
