-- The marks, shown by computing the definitions.
-- Assumes nothing.
use mathlib.Core.Path.{refl}
use native.Mathlib.Omega.{arith}
use Rattle.arith.specs.Every.{every}
use Rattle.arith.specs.First.{first_below}
use Rattle.arith.specs.Run.{upto}
use Rattle.arith.specs.Sum.{sum_below}
use Rattle.arith.specs.Tally.{tally}
use Rattle.arith.specs.Sheet.{on_sheet}
use Rattle.plates.specs.Masks.{mask}
use Rattle.plates.specs.Planes.{bit_at, plane_byte, planes_byte, planes_of, planes_with, colorant_of, cells_of, colorants_only, pixels_once, padding_clear}
use Rattle.plates.specs.Places.{word_of, stored, planes_at, once_at, colorant_at, full_mask}
use Rattle.plates.specs.Refusals.{lengths_refusal, size_refusal, pack_refusal, unpack_refusal, packed, unpacked}
use Rattle.plates.specs.Marks.{cells, Marks}

pub marks : Marks
unfolding every first_below upto sum_below tally mask bit_at plane_byte planes_byte planes_of planes_with colorant_of cells_of colorants_only pixels_once padding_clear word_of stored planes_at once_at colorant_at full_mask on_sheet lengths_refusal size_refusal pack_refusal unpack_refusal packed unpacked
marks =
    record {
      masks = refl;
      off_the_sheet = refl;
      cells_missing = refl;
      planes_missing = refl;
      byte_above_7 = refl;
      pixel_twice = refl;
      padding_set = refl;
      sum_right = refl;
      union_right = refl;
      byte_untouched = refl;
      twice_untouched = refl;
      padded_untouched = refl;
      planes_written = refl;
      white_found = refl;
      cells_written = refl;
      word_stored = refl;
      place_once = refl;
      place_padded = refl;
      place_white = refl;
      place_none = refl;
      full_masks = refl;
      mask_law = λ law. law 11;
      bit_law = λ law. law 2 2 cells 1 0 2 (omega arith) (omega arith) (omega arith);
      tally_law = λ law. law 2 2 cells refl 1 (omega arith);
    }
