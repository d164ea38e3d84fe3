-- `screen::places::phase_of` meets its contract: nothing overflows on the sheet, and the two remainders give the phase.
-- Assumes nothing.
use mathlib.Core.Path.{◌∙◌}
use native.Mathlib.Nat.{le_of_lt, mod-lt, mul-le-mul}
use native.Mathlib.Omega.{arith}
use Rattle.screen.proofs.PhaseLaws.{phase_apart}
use Rattle.screen.proofs.Refusals.{slope_few, limits_kept}
use Rattle.screen.proofs.places.phase_of.Goals as goal

pub nonzero_rem-right : goal.nonzero_rem-right
nonzero_rem-right c = (limits_kept _ c.requires.0).cells_above

pub nonzero_rem-down : goal.nonzero_rem-down
nonzero_rem-down c = (limits_kept _ c.requires.0).cells_above

pub overflow_mul-right : goal.overflow_mul-right
overflow_mul-right c = omega (arith, (limits_kept _ c.requires.0).cells_limit, mul-le-mul (slope_few _ c.requires.0) (le_of_lt c.requires.1))

pub overflow_mul-down : goal.overflow_mul-down
overflow_mul-down c = omega (arith, (limits_kept _ c.requires.0).cells_limit, mul-le-mul (limits_kept _ c.requires.0).slope_limit (le_of_lt c.requires.2))

pub overflow_sub-down : goal.overflow_sub-down
overflow_sub-down c = omega (arith, (limits_kept _ c.requires.0).cells_limit, (limits_kept _ c.requires.0).offset_below)

pub overflow_add-down : goal.overflow_add-down
overflow_add-down c = omega (arith, (limits_kept _ c.requires.0).cells_limit, mul-le-mul (limits_kept _ c.requires.0).slope_limit (le_of_lt c.requires.2))

pub returns : goal.returns
returns c =
    let cells = (limits_kept _ c.requires.0).cells_above in
    (c.carry.ensures.modulo (mod-lt _ cells) (le_of_lt (mod-lt _ cells))).0 ∙ phase_apart _ _ _ _ cells _ _ _ (omega (arith, (limits_kept _ c.requires.0).cells_limit, (limits_kept _ c.requires.0).offset_below))
