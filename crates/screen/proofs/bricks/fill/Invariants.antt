-- What the loop of `screen::bricks::fill` keeps.
use Rattle.screen.proofs.FillLoop.{FillAt}
use Rattle.screen.proofs.bricks.fill.Given as goal

abbrev pub invariant-loop-place : goal.invariant-loop-place
invariant-loop-place l = FillAt l.fn.s.a l.fn.s.b l.fn.s.n l.fn.s.g l.initial.brick l.brick l.phase l.column l.place-index
