-- `render::rows::Painter::row` meets its contract, by the laws of its loop (RowLoop).
-- Assumes nothing.
use Prim.Native.Nat.{ℕ, ◌+◌, ◌≤◌, ◌<◌}
use mathlib.Core.Path.{◌≡◌, ap, ◌∙◌}
use mathlib.Core.Logic.{∥∥₁_elim}
use native.Mathlib.Omega.{arith}
use lib.ListN.{length, get_or}
use native.Mathlib.Bridge.{le_prop}
use Rattle.render.proofs.RowLoop.{paint_own, paint_small, paint_cell, by_rule, row_start, row_count, row_step, row_end}
use Rattle.render.proofs.rows.Painter.row.Goals as goal

pub loop-i-init : goal.loop-i-init
loop-i-init g c =
    (row_start _ _ _ c.requires.row_lent.eight, paint_own _ _ _ _ c.unpainted-paint.ensures, λ k. ap (g.P.Phases.at c.args.phases) (omega arith))

pub bounds-self-next : goal.bounds-self-next
bounds-self-next g c =
    let painter = c.args.self.now in
    let low : c.next.result < painter.n = rw (c.next.ensures.here, c.loop-i.invariant.2 0) (c.requires.phases_low _) in
    let long : painter.n ≤ length painter.table.now = ∥∥₁_elim painter.listed le_prop (λ t. t.1.long) in
    omega (arith, low, long)

pub overflow_add-tallies : goal.overflow_add-tallies
overflow_add-tallies g c =
    omega (arith, row_count c.loop-i.invariant.0 c.turn.new.self.cell, c.requires.row_lent.room c.turn.new.self.cell, c.loop-i.invariant.0.cells.within)

pub loop-i-preserved : goal.loop-i-preserved
loop-i-preserved g c =
    let inv = c.loop-i.invariant in
    let at = g.P.Phases.at c.args.phases in
    let table = c.args.self.now.table.now in
    let e = rw c.inks_at.ensures at c.turn.ensures in
    let here : c.next.result ≡ at c.loop-i.i = c.next.ensures.here ∙ inv.2 0 ∙ ap at (omega arith) in
    let on : (k : ℕ) → g.P.Phases.at c.next.new.self k ≡ at (c.loop-i.i + 1 + k) = λ k. c.next.ensures.on k ∙ inv.2 (k + 1) ∙ ap at (omega arith) in
    (row_step inv.0 _ (omega arith) (paint_cell _ _ _ _ _ _ _ e (ap (λ (p : ℕ). get_or table p 0) here)) (paint_small _ _ _ _ e), paint_own _ _ _ _ e, on)

pub returns : goal.returns
returns g c =
    let end = row_end c.loop-i.invariant.0 c.loop-i-test.false in
    record { cells = by_rule _ _ _ _ _ (λ k. omega (arith, c.type_inv.input k)) c.requires.phases_low _ end.0; counts = end.1 }
