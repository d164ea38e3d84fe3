-- The marks, shown by computing the definitions.
-- Assumes nothing.
use mathlib.Core.Path.{refl}
use lib.Ieee.{add, mul, div, le, of_int, of_bits}
use Rattle.arith.specs.Every.{every}
use Rattle.arith.specs.First.{first_below}
use Rattle.arith.specs.Gcd.{gcd_of}
use Rattle.arith.specs.Order.{ahead, place_among, ordered}
use Rattle.arith.specs.Remainder.{remainder_of}
use Rattle.arith.specs.Run.{upto, zeros}
use Rattle.arith.specs.Sheet.{on_sheet}
use Rattle.arith.specs.Sum.{sum_below}
use Rattle.arith.specs.Tally.{tally}
use Rattle.screen.specs.Sizes.{shift_of}
use Rattle.screen.specs.Screens.{slope_admitted, cells_admitted, subscreens_admitted, offset_admitted, numbers_refusal, stored_true, refusal_of}
use Rattle.screen.specs.Phase.{phase_of, place_refusal, place_of}
use Rattle.screen.specs.Brick.{brick_of}
use Rattle.screen.specs.Made.{made_of, replaced_by}
use Rattle.screen.specs.Corner.{offset_of}
use Rattle.separation.specs.Weights.{weight, scale_of}
use Rattle.quantiser.specs.Running.{weight_up_to, level, running, count}
use Rattle.quantiser.specs.Subscreens.{subscreen_size, subscreen_start, subscreen_of, distance_of, fill_up_to, colorant_at, colorant_of}
use Rattle.render.specs.Windows.{cell_of, window_cell, window_cells, tallies_of}
use Rattle.render.specs.Answers.{window_refusal, due_in, brick_refusal, answer_of}
use Rattle.predict.specs.Predicted.{first_bad, total, channel}
use Rattle.predict.specs.Numbered.{predict_refusal, ruled}
use Rattle.predict.specs.Cellular.{falling_count, weight_at, set_along, first_bad_set, run_refusal, cellular_refusal}
use Rattle.predict.specs.Cellular as Cells
use Rattle.predict.specs.Marks.{records}
use Rattle.bill.specs.Charges.{added, prices_admitted, cells_in, windows_admitted, charge_refusal, cost_of, charged}
use Rattle.cavzemil.specs.Separations.{known, separation_of}
use Rattle.cavzemil.specs.Windows.{cell_given, rendering_given, output_given}
use Rattle.cavzemil.specs.Colours.{counts_given, primaries_in, values_refusal, prediction_given}
use Rattle.cavzemil.specs.Cellular.{cellular_given}
use Rattle.cavzemil.specs.Marks.{Marks}

pub marks : Marks
unfolding le every first_below gcd_of remainder_of upto zeros sum_below tally slope_admitted cells_admitted subscreens_admitted offset_admitted numbers_refusal stored_true refusal_of on_sheet phase_of place_refusal place_of shift_of brick_of made_of replaced_by offset_of weight scale_of weight_up_to level running count subscreen_size subscreen_start subscreen_of distance_of fill_up_to colorant_at colorant_of cell_of window_cell window_cells tallies_of window_refusal due_in brick_refusal answer_of first_bad predict_refusal ruled added prices_admitted cells_in windows_admitted charge_refusal cost_of charged known separation_of cell_given rendering_given output_given counts_given primaries_in values_refusal prediction_given add mul div of_int of_bits ahead place_among ordered total channel falling_count weight_at set_along first_bad_set run_refusal cellular_refusal Cells.ruled records cellular_given
marks =
    record {
      placed = refl;
      bricked = refl;
      sloped_brick = refl;
      made = refl;
      replaced = refl;
      handed_back_mark = refl;
      moved = refl;
      unmoved = refl;
      untrue_cell = refl;
      untrue_window = refl;
      untrue_brick = refl;
      untrue_length = refl;
      untrue_colour = refl;
      untrue_cellular = refl;
      zero_demichel = refl;
      one_kueppers = refl;
      counted = refl;
      celled = refl;
      rendered = refl;
      written = refl;
      brick_rendered_mark = refl;
      brick_short = refl;
      brick_wrong = refl;
      brick_untouched = refl;
      unknown_counts = refl;
      unknown_untrue = refl;
      unknown_cell = refl;
      unknown_window = refl;
      untouched = refl;
      unknown_colour = refl;
      short_colour = refl;
      sloped_colour = refl;
      bad_colour = refl;
      unknown_cellular = refl;
      short_cellular = refl;
      bad_cellular = refl;
      cellular_colour = refl;
      billed = refl;
      unbilled = refl;
      unknown_billed = refl;
    }
