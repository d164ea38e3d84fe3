-- `render::refusals::check_brick` meets its contract: the brick that it fills is a true one, and the comparison with it tells.
-- Assumes nothing.
use mathlib.Core.Path.{sym, ◌∙◌}
use native.Mathlib.Omega.{arith}
use lib.ListN.{length-take}
use Rattle.arith.proofs.RefusalLaws.{number_above}
use Rattle.render.proofs.RefusalLaws.{due_compared, due_filled, places_free, brick_differs, brick_same}
use Rattle.render.proofs.refusals.check_brick.Goals as goal

pub returns-in_err-fill_brick : goal.returns-in_err-fill_brick
returns-in_err-fill_brick c = absurd (omega (arith, number_above c.in_err-fill_brick.field-0.0, c.in_err-fill_brick.ensures.refused, places_free _ _ c.requires c.places-due.ensures))

pub slice_bounds-due-end : goal.slice_bounds-due-end
slice_bounds-due-end c = (due_filled _ _ _ c.requires c.places-due.ensures c.fill_brick.ensures.buffer c.requires).0

pub slice_bounds-eq-end-2 : goal.slice_bounds-eq-end-2
slice_bounds-eq-end-2 c =
    omega (arith, length-take c.args.s.n c.fill_brick.new.brick, (due_filled _ _ _ c.requires c.places-due.ensures c.fill_brick.ensures.buffer c.requires).0)

pub returns-then-eq : goal.returns-then-eq
returns-then-eq c =
    let holds = due_filled _ _ _ c.requires c.places-due.ensures c.fill_brick.ensures.buffer in
    brick_same _ _ (sym c.if-eq.true ∙ due_compared _ _ _ _ c.requires c.if-brick-n.false holds c.eq.ensures)

pub returns-else-eq : goal.returns-else-eq
returns-else-eq c =
    let holds = due_filled _ _ _ c.requires c.places-due.ensures c.fill_brick.ensures.buffer in
    brick_differs _ _ (sym c.if-eq.false ∙ due_compared _ _ _ _ c.requires c.if-brick-n.false holds c.eq.ensures)
