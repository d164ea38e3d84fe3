-- Rules 18.3 to 18.5 from the definitions: a motif has each phase once, so a sum over its cells is a sum over the phases, which counts them as the
-- quantiser does; and a renderer that does not refuse has written each cell by the rule.
-- Assumes nothing.
use Prim.Native.Nat.{ℕ, ◌+◌, ◌-◌, ◌<◌}
use mathlib.Core.Path.{◌≡◌, sym, ap, ap₂, ◌∙◌}
use mathlib.Core.List.{List}
use native.Mathlib.Nat.{add-sub_of_le}
use native.Mathlib.Omega.{arith}
use lib.Dec.{eqb}
use lib.ListN.{length, get_or}
use Rattle.arith.specs.Sum.{indicator}
use Rattle.arith.specs.Refusal.{written}
use Rattle.arith.proofs.RefusalLaws.{or_none, written_all}
use Rattle.arith.proofs.SumLaws.{sum_same, sum_along_places}
use Rattle.screen.specs.declared.Screen.{Screen}
use Rattle.screen.specs.Screens.{Admitted}
use Rattle.screen.specs.Phase.{phase}
use Rattle.screen.specs.Motif.{HasMotifs, motif_rows, in_motif}
use Rattle.screen.proofs.Published.{phase_below, each_phase_in_motif}
use Rattle.separation.specs.declared.Separation.{Separation}
use Rattle.separation.specs.declared.Inks.{Inks}
use Rattle.separation.specs.Laws.{InkValues}
use Rattle.quantiser.specs.Subscreens.{colorant_of, phases_of}
use Rattle.quantiser.specs.Running.{count}
use Rattle.quantiser.proofs.Published.{count_share, phases_in_all}
use Rattle.render.specs.declared.Window.{Window}
use Rattle.render.specs.Windows.{inks_at, cell_of, window_cells}
use Rattle.render.specs.Answers.{window_refusal, brick_refusal, answer_of, rendering, rendered, brick_rendering, brick_rendered}
use Rattle.render.specs.Motifs.{motif_cells, Quantised, MotifCounted, number_in, motif_bytes, MotifHeld, MotifWritten}
use Rattle.render.proofs.RefusalLaws.{window_kept}
use Rattle.render.proofs.AnswerLaws.{cells_length_lem, cells_at}

-- ---- by the rule

-- what counts the phases counts a motif's cells
cells_counted : (s : Screen) → Admitted s → HasMotifs s → (sep : Separation) (inks : Inks) → InkValues inks → (x : ℕ) (start : ℕ → ℕ) (j : ℕ) → j < 8
    → motif_cells s sep inks x start j ≡ count s sep inks j
unfolding motif_cells in_motif cell_of phases_of
cells_counted s ok divides sep inks values x start j l =
    sum_along_places s.b (motif_rows s) s.n (λ i k. phase s (x + i) (start i + k)) (λ p. indicator (eqb (colorant_of s sep inks p) j)) (λ i k. phase_below s ok _ _)
    (each_phase_in_motif s ok divides x start)
    ∙ phases_in_all s ok sep inks values j l

pub motif_counted : MotifCounted
motif_counted s ok divides sep inks values x start j l = (cells_counted s ok divides sep inks values x start j l, count_share s ok sep inks values j)

-- ---- in what is written

module _ (s : Screen) (sep : Separation) (w : Window) (inks : Inks) (x : ℕ) (start : ℕ → ℕ) (input : List ℕ) (m : MotifHeld s w inks x start input) where
  -- a window's byte of a motif's cell is the cell by the rule
  byte : (i k : ℕ) → i < s.b → k < motif_rows s
      → get_or (window_cells s sep w input) (number_in w (x + i) (start i + k)) 0 ≡ cell_of s sep (x + i) (start i + k) inks
  byte i k across down =
      let inside = m.held i k across down in
      cells_at s sep w input (x + i - w.x) (start i + k - w.y) (omega (arith, inside.0, inside.1)) (omega (arith, inside.2, inside.3))
      ∙ ap₂ (λ (c r : ℕ). cell_of s sep c r (inks_at input (number_in w (x + i) (start i + k)))) (add-sub_of_le inside.0) (add-sub_of_le inside.2)
      ∙ ap (cell_of s sep (x + i) (start i + k)) (m.one_triple i k across down)

  -- so its bytes are counted as its cells
  bytes_counted : (j : ℕ) → motif_bytes s w (window_cells s sep w input) x start j ≡ motif_cells s sep inks x start j
  unfolding motif_bytes motif_cells in_motif
  bytes_counted j =
      sum_same s.b _ _ (λ i across. sum_same (motif_rows s) _ _ (λ k down. ap (λ (c : ℕ). indicator (eqb c j)) (byte i k across down)))

  -- what a renderer has written that answers r, which is 0, and was handed a window that nothing refuses
  served : (out : List ℕ) (j r : ℕ) → j < 8 → window_refusal s w (length input) (length out) ≡ 0 → r ≡ 0
      → Quantised s sep inks j (motif_bytes s w (written r (window_cells s sep w input) out) x start j)
  served out j r l z e =
      let kept = window_kept s w (length input) (length out) z in
      rw (written_all r (window_cells s sep w input) out e (cells_length_lem s sep w input ∙ sym kept.4), bytes_counted j)
      (motif_counted s kept.0 m.has_motifs sep inks m.bytes x start j l)

pub motif_written : MotifWritten
unfolding rendering rendered brick_rendering brick_rendered brick_refusal answer_of
motif_written s sep w inks x start input brick out m j l = (
  λ e. served s sep w inks x start input m out j _ l e e,
  λ e. served s sep w inks x start input m out j _ l (or_none _ _ e).0 e,
)
