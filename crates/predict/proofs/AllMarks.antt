-- The marks, shown by computing the definitions.
-- Assumes nothing.
use mathlib.Core.Path.{refl}
use native.Mathlib.Omega.{arith}
use lib.Ieee.{add, mul, div, le, eq, of_int, of_bits}
use Rattle.arith.specs.First.{first_below}
use Rattle.arith.specs.Gcd.{gcd_of}
use Rattle.arith.specs.Order.{ahead, place_among, ordered}
use Rattle.arith.specs.Run.{upto}
use Rattle.arith.specs.Sum.{sum_below}
use Rattle.arith.specs.Marks.{counted}
use Rattle.screen.specs.Sizes.{shift_of}
use Rattle.screen.specs.Screens.{slope_admitted, cells_admitted, subscreens_admitted, offset_admitted, numbers_refusal, stored_true, refusal_of}
use Rattle.screen.specs.Marks.{listed}
use Rattle.separation.specs.declared.Separation.TheVariants.{Demichel, Kueppers}
use Rattle.separation.specs.Weights.{weight, scale_of}
use Rattle.separation.specs.Marks.{half}
use Rattle.quantiser.specs.Running.{weight_up_to, level, running, count}
use Rattle.predict.specs.Predicted.{first_bad, total, channel, predicted}
use Rattle.predict.specs.Numbered.{predict_refusal, ruled}
use Rattle.predict.specs.Cellular.{falling_count, weight_at, set_along, first_bad_set, cellular, run_refusal, cellular_refusal}
use Rattle.predict.specs.Cellular as Cells
use Rattle.predict.specs.Marks.{whole, cyan, records, whole_sets, Marks}

pub marks : Marks
unfolding shift_of add mul div le eq of_int of_bits first_below gcd_of sum_below slope_admitted cells_admitted subscreens_admitted offset_admitted numbers_refusal stored_true refusal_of weight scale_of weight_up_to level running count first_bad total channel predicted predict_refusal ruled upto ahead place_among ordered falling_count weight_at set_along first_bad_set cellular run_refusal cellular_refusal Cells.ruled records
marks =
    record {
      nan_bad = refl;
      infinite_bad = refl;
      minus_infinite_bad = refl;
      below_bad = refl;
      above_bad = refl;
      minus_zero_good = refl;
      zero_good = refl;
      limit_good = refl;
      begun = refl;
      uneven_x = refl;
      uneven = refl;
      full_tone = refl;
      bad_primary = refl;
      bad_screen = refl;
      numbered_primary = refl;
      numbered_screen = refl;
      minus_zero_law =
          λ law good. law listed refl Kueppers cyan (omega arith) whole good 0 (omega arith) refl 200 0 0 (omega arith, tt) (omega arith, tt) (omega arith, tt);
      nan_law = λ good. good 1 (omega arith);
      weights = refl;
      set_numbers = refl;
      held = refl;
      mixed_order = refl;
      mixed_weights = refl;
      mixed_colour = refl;
      bad_set = refl;
      bad_sets = refl;
      too_short = refl;
      too_long = refl;
      bad_screen_and_run = refl;
      numbered_set = refl;
      numbered_run = refl;
      numbered_both = refl;
      add_up_law = λ law. law listed refl Demichel half (omega arith);
      divide_law = λ law. law counted 3;
      held_law = λ law. law counted 3 (omega arith);
      numbered_law = λ law. law counted 7 (omega arith);
      holds_law = λ law. law counted 3 3 (omega arith) (omega arith);
      cellular_minus_zero_law =
          λ law good. law listed refl Kueppers cyan (omega arith) whole_sets refl good 0 (omega arith) refl 200 0 0 (omega arith, tt) (omega arith, tt) (omega arith, tt);
      cellular_nan_law = λ good. good 1 (omega arith) (omega arith);
    }
