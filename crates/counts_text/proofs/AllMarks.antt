-- The marks, shown by computing the definitions.
-- Assumes nothing.
use mathlib.Core.Path.{refl}
use Rattle.arith.specs.Every.{every}
use Rattle.arith.specs.First.{first_from, first_below}
use Rattle.arith.specs.Gcd.{gcd_of}
use Rattle.arith.specs.Run.{upto}
use Rattle.arith.specs.Sum.{sum_below}
use Rattle.screen.specs.Sizes.{shift_of}
use Rattle.screen.specs.Screens.{numbers_refusal, stored_true, refusal_of, slope_admitted, cells_admitted, subscreens_admitted, offset_admitted}
use Rattle.separation.specs.Weights.{weight, scale_of, demichel_weight, kueppers_weight}
use Rattle.quantiser.specs.Running.{count, running, level, weight_up_to}
use Rattle.counts_text.specs.Text.{split, same, joined}
use Rattle.counts_text.specs.Numbers.{is_number, is_number_to, value_up_to, value_of, numeral_in, numeral}
use Rattle.counts_text.specs.Lines.{are_numbers, leading, numbers_over, is_screen, screen_in, is_patch, separation_in, inks_in, screen_refusal, patch_refusal, line_of, counts_line, error_line}
use Rattle.counts_text.specs.Program.{line_refusal, first_bad, counts_lines, judged, counts_text}
use Rattle.counts_text.specs.Marks.{Marks}

pub marks : Marks
unfolding
    every first_from first_below gcd_of upto sum_below shift_of numbers_refusal stored_true refusal_of slope_admitted cells_admitted subscreens_admitted offset_admitted weight scale_of
    demichel_weight kueppers_weight count running level weight_up_to split same joined is_number is_number_to value_up_to value_of numeral_in numeral are_numbers leading
    numbers_over is_screen screen_in is_patch separation_in inks_in screen_refusal patch_refusal line_of counts_line error_line line_refusal first_bad counts_lines judged counts_text
marks =
    record {
      five_digits = refl;
      six_digits = refl;
      number_taken = refl;
      empty = refl;
      form_first = refl;
      error_alone = refl;
      shown = refl;
      wide_line = refl;
      wide_lines = refl;
    }
