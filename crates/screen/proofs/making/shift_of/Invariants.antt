-- What the loop of `screen::making::shift_of` keeps, and its measure.
use Prim.Native.Nat.{◌-◌, ◌*◌}
use Rattle.screen.specs.Sizes.{shift_of}
use Rattle.screen.proofs.ShiftLoop.{ShiftAt}
use Rattle.screen.proofs.making.shift_of.Given as goal

abbrev pub invariant-loop-along : goal.invariant-loop-along
invariant-loop-along l = ShiftAt l.a l.b l.n l.along

abbrev pub decreases-loop-along : goal.decreases-loop-along
decreases-loop-along l = l.a * shift_of l.a l.b l.n - l.along
