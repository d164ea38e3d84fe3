-- The marks, shown by computing the definitions.
-- Assumes nothing.
use mathlib.Core.Path.{refl}
use native.Mathlib.Nat.{dvd_of_mod-eq-zero, mod-eq-zero_of_dvd}
use native.Mathlib.Omega.{arith}
use Rattle.arith.specs.Gcd.{gcd_of}
use Rattle.arith.specs.Remainder.{remainder_of}
use Rattle.arith.specs.First.{first_below}
use Rattle.arith.specs.Every.{every}
use Rattle.arith.specs.Run.{upto}
use Rattle.arith.specs.Sum.{sum_below}
use Rattle.arith.specs.Sheet.{on_sheet}
use Rattle.screen.specs.Marks.{Marks}
use Rattle.screen.specs.Sizes.{shift_of}
use Rattle.screen.specs.Screens.{slope_admitted, cells_admitted, subscreens_admitted, offset_admitted, numbers_refusal, stored_true, refusal_of}
use Rattle.screen.specs.Phase.{phase_of, place_refusal}
use Rattle.screen.specs.Brick.{brick_of, brick_phases, buffer_refusal, filled, brick_place}
use Rattle.screen.specs.Motif.{in_motif}
use Rattle.screen.specs.Made.{made_of, replaced_by}
use Rattle.screen.specs.Corner.{offset_of}
use Rattle.screen.specs.Laws.{times}

pub marks : Marks
unfolding gcd_of remainder_of first_below every upto sum_below on_sheet slope_admitted cells_admitted subscreens_admitted offset_admitted numbers_refusal stored_true refusal_of phase_of place_refusal shift_of brick_of brick_phases buffer_refusal filled brick_place in_motif made_of replaced_by offset_of times
marks =
    record {
      brick_105 = (refl, refl, refl);
      brick_70 = (refl, refl, refl);
      brick_1 = (refl, refl, refl);
      phase_7 = refl;
      phase_26 = refl;
      stepped_down = refl;
      rising = refl;
      phase_72 = refl;
      filled_4 = refl;
      place_70 = refl;
      shifted = refl;
      once = refl;
      motif_listed = dvd_of_mod-eq-zero 7 refl;
      motif_ends = (refl, refl);
      motif_94 = refl;
      motif_87 = refl;
      motif_all = refl;
      motif_none = λ d. omega (arith, mod-eq-zero_of_dvd 7 d);
      motif_zeros = (refl, refl);
      motif_twice = refl;
      motif_missed = refl;
      lowest_3 = refl;
      lowest_1 = refl;
      made = refl;
      cells_70 = refl;
      cells_1 = refl;
      cells_40 = refl;
      offset_70 = refl;
      subscreens_17 = refl;
      list = refl;
      unmade = refl;
      untrue_shift = refl;
      untrue_3 = refl;
      untrue_5 = refl;
      untrue_8 = refl;
      untrue_brick = refl;
      untrue_back = refl;
      untrue_columns = refl;
      untrue_rows = refl;
      untrue_far = refl;
      moved_20 = refl;
      moved_6 = (refl, refl);
      moved_phase = refl;
      moved_further = refl;
      moved_farthest = refl;
      moved_untrue = refl;
    }
