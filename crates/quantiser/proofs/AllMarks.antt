-- The marks, shown by computing the definitions.
-- Assumes nothing.
use mathlib.Core.Path.{refl}
use borrow.Author.Tests.{leb-true}
use Rattle.arith.specs.Sum.{sum_below}
use Rattle.arith.specs.First.{first_below}
use Rattle.arith.specs.Run.{upto}
use Rattle.arith.specs.Gcd.{gcd_of}
use Rattle.arith.specs.Remainder.{remainder_of}
use Rattle.screen.specs.Sizes.{shift_of}
use Rattle.screen.specs.Screens.{slope_admitted, cells_admitted, subscreens_admitted, offset_admitted, numbers_refusal, stored_true, refusal_of}
use Rattle.screen.proofs.AllMarks as Screens
use Rattle.separation.specs.Weights.{weight, scale_of}
use Rattle.quantiser.specs.Running.{weight_up_to, level, running, count}
use Rattle.quantiser.specs.Subscreens.{subscreen_size, subscreen_start, subscreen_of, distance_of, fill_up_to, colorant_at, colorant_of, phases_in}
use Rattle.quantiser.specs.Leaves.{threshold_at, threshold_of, lone_threshold}
use Rattle.quantiser.specs.Marks.{Marks}

pub marks : Marks
unfolding sum_below first_below upto weight scale_of weight_up_to level running count subscreen_size subscreen_start subscreen_of distance_of fill_up_to colorant_at colorant_of phases_in threshold_at threshold_of lone_threshold gcd_of remainder_of slope_admitted cells_admitted subscreens_admitted offset_admitted numbers_refusal stored_true refusal_of shift_of
marks =
    record {
      screens = Screens.marks;
      first_p = refl;
      sizes = (refl, refl);
      in_subscreen_0 = refl;
      in_subscreen_1 = refl;
      share_blue = (leb-true _ _ refl, leb-true _ _ refl);
      split_blue = (leb-true _ _ refl, leb-true _ _ refl);
      phase_39 = refl;
      phase_91 = refl;
      threshold_39 = refl;
      threshold_91 = refl;
      threshold_106 = refl;
      threshold_refused = refl;
      kueppers_70 = refl;
      kueppers_cyan = refl;
      kueppers_white = refl;
    }
