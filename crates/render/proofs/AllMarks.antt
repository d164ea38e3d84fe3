-- The marks, shown by computing the definitions.
-- Assumes nothing.
use Prim.Native.Nat.{ℕ, zero, suc, ◌+◌, ◌<◌}
use mathlib.Core.Path.{◌≡◌, refl}
use mathlib.Core.List.{[]}
use native.Mathlib.Nat.{dvd_of_mod-eq-zero}
use native.Mathlib.Omega.{arith}
use borrow.Author.Tests.{leb-true}
use Rattle.arith.specs.Gcd.{gcd_of}
use Rattle.arith.specs.Remainder.{remainder_of}
use Rattle.arith.specs.First.{first_below}
use Rattle.arith.specs.Every.{every}
use Rattle.arith.specs.Run.{upto, zeros}
use Rattle.arith.specs.Sum.{sum_below}
use Rattle.arith.specs.Tally.{tally}
use Rattle.arith.specs.Sheet.{on_sheet}
use Rattle.screen.specs.Sizes.{shift_of}
use Rattle.screen.specs.Screens.{slope_admitted, cells_admitted, subscreens_admitted, offset_admitted, numbers_refusal, stored_true, refusal_of}
use Rattle.screen.specs.Phase.{phase_of}
use Rattle.screen.specs.Motif.{in_motif}
use Rattle.separation.specs.declared.Separation.TheVariants.{Kueppers}
use Rattle.separation.specs.Weights.{weight, scale_of}
use Rattle.quantiser.specs.Running.{weight_up_to, level, running, count}
use Rattle.quantiser.specs.Subscreens.{subscreen_size, subscreen_start, subscreen_of, distance_of, fill_up_to, colorant_at, colorant_of}
use Rattle.render.specs.Windows.{inks_at, cell_of, window_cell, window_cells, tallies_of}
use Rattle.render.specs.Answers.{window_refusal, due_in, brick_refusal, answer_of, rendering, rendered, brick_rendering, brick_rendered}
use Rattle.render.specs.Finished.{bytes_in_subscreen}
use Rattle.render.specs.Motifs.{motif_cells, number_in, motif_bytes, MotifHeld}
use Rattle.render.specs.Marks.{tint, halved, around, pixels, places, Marks}

-- the four cells of the motif have the tint
tinted : (i k : ℕ) → i < 2 → k < 2 → inks_at pixels (number_in around (1 + i) (suc i + k)) ≡ tint
tinted zero zero _ _ = refl
tinted zero (suc zero) _ _ = refl
tinted zero (suc (suc k)) _ l = absurd (omega arith)
tinted (suc zero) zero _ _ = refl
tinted (suc zero) (suc zero) _ _ = refl
tinted (suc zero) (suc (suc k)) _ l = absurd (omega arith)
tinted (suc (suc i)) k l _ = absurd (omega arith)

-- and the window has them
motif_held : MotifHeld halved around tint 1 suc pixels
motif_held =
    record {
      has_motifs = dvd_of_mod-eq-zero 2 refl;
      bytes = record { c_value = leb-true _ _ refl; m_value = leb-true _ _ refl; y_value = leb-true _ _ refl };
      held = λ i k across down. (omega arith, omega arith, omega arith, omega arith);
      one_triple = λ i k across down. tinted i k (omega arith) (omega arith);
    }

pub marks : Marks
unfolding shift_of gcd_of remainder_of first_below every upto zeros sum_below tally on_sheet slope_admitted cells_admitted subscreens_admitted offset_admitted numbers_refusal stored_true refusal_of phase_of weight scale_of weight_up_to level running count subscreen_size subscreen_start subscreen_of distance_of fill_up_to colorant_at colorant_of cell_of window_cell window_cells tallies_of window_refusal due_in brick_refusal answer_of rendering rendered brick_rendering brick_rendered bytes_in_subscreen in_motif motif_cells motif_bytes
marks =
    record {
      written = refl;
      answer = refl;
      tallied = refl;
      read = refl;
      refused = refl;
      untouched = refl;
      empty_8 = refl;
      counted = refl;
      in_subscreen = refl;
      motif_cells_mark = refl;
      motif_written = (refl, (leb-true _ _ refl, leb-true _ _ refl));
      motif_read = (refl, (leb-true _ _ refl, leb-true _ _ refl));
      motif_law = λ law. (law halved Kueppers around tint 1 suc pixels [] places motif_held 0 (leb-true _ _ refl)).0 refl;
      motif_bytes_mark = refl;
    }
