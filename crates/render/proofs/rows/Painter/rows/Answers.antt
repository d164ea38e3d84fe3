-- `render::rows::Painter::rows` meets its contract, by the laws of its loop (WindowLoop). A screen that the table is of shows what is
-- lent, and what the tallies are.
-- Assumes nothing.
use mathlib.Core.Path.{refl, ◌∙◌}
use mathlib.Core.Logic.{∥∥₁_elim}
use native.Mathlib.Nat.{ℕ_set}
use native.Mathlib.Bridge.{le_prop}
use base.Stored.{Coded-set, coded_ℕ, coded_list}
use Rattle.render.specs.Rows.{cells_by}
use Rattle.render.proofs.WindowLoop.{cell_in, next_cells, window_start, out_part, row_lent, window_step, window_end}
use Rattle.render.proofs.rows.Painter.rows.Goals as goal

pub loop-j-init : goal.loop-j-init
loop-j-init g c s t = window_start _ _ _

pub row-requires-clause-row_lent : goal.row-requires-clause-row_lent
row-requires-clause-row_lent g c =
    ∥∥₁_elim c.args.self.now.listed (hlevel (le_prop, ℕ_set))
    (λ t. row_lent (c.loop-j.invariant t.0 t.1) c.loop-j-test.true c.requires.rows_lent _ refl)

pub loop-j-preserved : goal.loop-j-preserved
loop-j-preserved g c s t =
    let at = c.loop-j.invariant s t in
    let within = c.loop-j-test.true in
    let lent = c.requires.rows_lent in
    window_step at within lent _ _ (rw (out_part at within lent) at (c.row.ensures.cells s t) ∙ next_cells _ _ _ _ _ _ _ c.row-phases.ensures) c.row.ensures.counts

pub returns-clause-cells : goal.returns-clause-cells
unfolding cells_by cell_in
returns-clause-cells g c s t = (window_end (c.loop-j.invariant s t) _ c.loop-j-test.false c.requires.rows_lent.cells).0

pub returns-clause-counts : goal.returns-clause-counts
returns-clause-counts g c =
    ∥∥₁_elim c.args.self.now.listed (Coded-set (coded_list coded_ℕ) _ _) (λ t. (window_end (c.loop-j.invariant t.0 t.1) _ c.loop-j-test.false c.requires.rows_lent.cells).1)
