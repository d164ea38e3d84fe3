-- What the loop of `render::rows::Painter::rows` keeps: the rows so far, whatever screen the table is of.
use Prim.Native.Nat.{◌+◌}
use Rattle.screen.specs.declared.Screen.{Screen}
use Rattle.render.specs.Rows.{TableOf}
use Rattle.render.proofs.WindowLoop.{cell_in, WindowAt}
use Rattle.render.proofs.rows.Painter.rows.Given as goal

abbrev pub invariant-loop-j : goal.invariant-loop-j
invariant-loop-j g l = (s : Screen) → TableOf s l.self.n l.self.table.now
    → WindowAt (cell_in s l.self.sep l.input l.w.columns (λ u v. g.S.Source.number l.source (l.w.x + u) (l.w.y + v))) l.w.columns l.initial.out l.out l.tallies l.j
