-- What the loop of `render::rows::Painter::row` keeps: cells and tallies so far, and that the phases to come are those from here on.
use Prim.Native.Nat.{ℕ, ◌+◌}
use mathlib.Core.Path.{◌≡◌}
use Rattle.render.specs.Rows.{Own}
use Rattle.render.proofs.RowLoop.{cell_by, RowAt}
use Rattle.render.proofs.rows.Painter.row.Given as goal

abbrev pub invariant-loop-i : goal.invariant-loop-i
invariant-loop-i g l = RowAt (cell_by l.self.n l.self.sep l.self.table.now l.input (g.P.Phases.at l.initial.phases)) l.initial.out l.initial.tallies l.out l.tallies l.i
    × Own l.self.n l.self.sep l.paint
    × ((k : ℕ) → g.P.Phases.at l.phases k ≡ g.P.Phases.at l.initial.phases (l.i + k))
