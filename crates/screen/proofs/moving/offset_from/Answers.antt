-- `screen::moving::offset_from` meets its contract: remainders by n are small, and give the remainder of the whole. Assumes nothing.
use mathlib.Core.Path.{◌∙◌}
use native.Mathlib.Nat.{le_of_lt, mod-lt, mul-le-mul, sub-le}
use native.Mathlib.Omega.{arith}
use Rattle.screen.proofs.CornerLaws.{offset_lacking}
use Rattle.screen.proofs.Refusals.{slope_few, limits_kept}
use Rattle.screen.proofs.moving.offset_from.Goals as goal

pub nonzero_rem-columns : goal.nonzero_rem-columns
nonzero_rem-columns c = (limits_kept _ c.requires).cells_above

pub nonzero_rem-rows : goal.nonzero_rem-rows
nonzero_rem-rows c = (limits_kept _ c.requires).cells_above

pub nonzero_rem-along : goal.nonzero_rem-along
nonzero_rem-along c = (limits_kept _ c.requires).cells_above

pub overflow_cast-columns-2 : goal.overflow_cast-columns-2
overflow_cast-columns-2 c = omega (arith, (limits_kept _ c.requires).cells_limit, mod-lt c.args.x (limits_kept _ c.requires).cells_above)

pub overflow_cast-rows-2 : goal.overflow_cast-rows-2
overflow_cast-rows-2 c = omega (arith, (limits_kept _ c.requires).cells_limit, mod-lt c.args.y (limits_kept _ c.requires).cells_above)

pub overflow_mul-along : goal.overflow_mul-along
overflow_mul-along c = omega (arith, (limits_kept _ c.requires).cells_limit, mul-le-mul (slope_few _ c.requires) (le_of_lt (mod-lt c.args.x (limits_kept _ c.requires).cells_above)))

pub overflow_mul-along-2 : goal.overflow_mul-along-2
overflow_mul-along-2 c = omega (arith, (limits_kept _ c.requires).cells_limit, mul-le-mul (limits_kept _ c.requires).slope_limit (le_of_lt (mod-lt c.args.y (limits_kept _ c.requires).cells_above)))

pub overflow_add-along : goal.overflow_add-along
overflow_add-along c =
    omega
    (arith, (limits_kept _ c.requires).cells_limit, mul-le-mul (slope_few _ c.requires) (le_of_lt (mod-lt c.args.x (limits_kept _ c.requires).cells_above)), mul-le-mul (limits_kept _ c.requires).slope_limit (le_of_lt (mod-lt c.args.y (limits_kept _ c.requires).cells_above)))

pub overflow_sub-n : goal.overflow_sub-n
overflow_sub-n c = le_of_lt (mod-lt _ (limits_kept _ c.requires).cells_above)

pub returns : goal.returns
returns c = (c.carry.ensures.modulo (limits_kept _ c.requires).offset_below (sub-le _ _)).0 ∙ offset_lacking _ _ _ _ (limits_kept _ c.requires).cells_above _ _ (limits_kept _ c.requires).offset_below
