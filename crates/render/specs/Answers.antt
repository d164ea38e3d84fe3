-- Rules 7.5, 7.6 and 7.8 and rules 11.4 to 11.12: what the calls answer, and what they leave in the output.
-- Assumes nothing: these are definitions.
use Rattle.std.specs.Prelude.{ℕ, ◌*◌, Bool, cond, ◌&&◌, List, length, get_or, eqb, leb, Result, Ok, Err}
use Rattle.arith.specs.Every.{every}
use Rattle.arith.specs.Run.{zeros}
use Rattle.arith.specs.declared.refusals.Refusal.{Refusal}
use Rattle.arith.specs.Refusal.{unless, or_else, answered, written, number}
use Rattle.arith.specs.Sheet.{on_sheet}
use Rattle.screen.specs.declared.Screen.{Screen}
use Rattle.screen.specs.Screens.{refusal_of}
use Rattle.screen.specs.Phase.{place_refusal}
use Rattle.screen.specs.Brick.{phase_at_place}
use Rattle.separation.specs.declared.Separation.{Separation}
use Rattle.separation.specs.declared.Inks.{Inks}
use Rattle.render.specs.declared.Window.{Window}
use Rattle.render.specs.Windows.{area, cell_of, window_cells, tallies_of}

-- Refusals of a window on a screen with input and output of the given lengths: the screen's; 5, off the sheet (rule 11.9); 6 and 7, the
-- lengths (rules 11.10 and 11.11).
unfoldable pub window_refusal : Screen → Window → ℕ → ℕ → ℕ
window_refusal s w inputs outputs =
    or_else (refusal_of s)
    (unless (on_sheet w.x w.y w.columns w.rows) 5
    (unless (eqb inputs (3 * area w)) 6 (unless (eqb outputs (area w)) 7 0)))

-- whether a buffer has N places and its first N numbers are the phases due there
unfoldable pub due_in : Screen → List ℕ → Bool
due_in s brick = leb s.n (length brick) && every s.n (λ i. eqb (get_or brick i 0) (phase_at_place s.a s.b s.n s.g i))

-- then 8, a buffer that is no true brick (rule 11.12)
unfoldable pub brick_refusal : Screen → Window → ℕ → ℕ → List ℕ → ℕ
brick_refusal s w inputs outputs brick = or_else (window_refusal s w inputs outputs) (unless (due_in s brick) 8 0)

-- what is answered where a window is rendered: how many cells were written in each colorant, eight zeros where the call is refused
pub record Rendering : Type 0 where
  pub refusal : ℕ
  pub tallies : List ℕ

-- a renderer's answer, laid out so
abbrev pub told : Result (List ℕ) Refusal → Rendering
told (Ok tallies) = record { refusal = 0; tallies = tallies }
told (Err refusal) = record { refusal = number refusal; tallies = zeros 8 }

-- what a renderer answers for cells, given its refusal: with that, eight zeros (rules 7.4 and 11.3)
unfoldable pub answer_of : ℕ → List ℕ → Rendering
answer_of refusal cells = record { refusal = refusal; tallies = cond (eqb refusal 0) (tallies_of cells) (zeros 8) }

-- rule 7.5, `render`: its answer and the output that it leaves
unfoldable pub rendering : Screen → Separation → Window → List ℕ → List ℕ → Rendering
rendering s sep w input out = answer_of (window_refusal s w (length input) (length out)) (window_cells s sep w input)

unfoldable pub rendered : Screen → Separation → Window → List ℕ → List ℕ → List ℕ
rendered s sep w input out = written (window_refusal s w (length input) (length out)) (window_cells s sep w input) out

-- rule 7.6, `render_brick`: the same, with its own refusal
unfoldable pub brick_rendering : Screen → Separation → Window → List ℕ → List ℕ → List ℕ → Rendering
brick_rendering s sep w input brick out = answer_of (brick_refusal s w (length input) (length out) brick) (window_cells s sep w input)

unfoldable pub brick_rendered : Screen → Separation → Window → List ℕ → List ℕ → List ℕ → List ℕ
brick_rendered s sep w input brick out = written (brick_refusal s w (length input) (length out) brick) (window_cells s sep w input) out

-- what is answered where the colorant of a lone place is asked for: 0 where the call is refused
pub record Cell : Type 0 where
  pub refusal : ℕ
  pub colorant : ℕ

-- rule 7.8, `cell_at`: the colorant of a lone place, refused as the place is
unfoldable pub lone_cell : Screen → Separation → ℕ → ℕ → Inks → Cell
lone_cell s sep x y inks = record { refusal = place_refusal s x y; colorant = answered (place_refusal s x y) (cell_of s sep x y inks) }
